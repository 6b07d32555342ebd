use Rattle.std.proofs.Common.{◌+◌, ◌∙◌, sym, ap, inr, arith}
use Rattle.std.proofs.lemmas.Result.{err_from_is_err_and}
use Rattle.association_run.specs.Output.{end_in}
use Rattle.association_run.specs.inner.Turns.{counted_in}
use Rattle.association_run.proofs.Fronts.{kept_read}
use Rattle.association_run.proofs.TurnLaws.{after_read, after_take, stopped, broken, finished, fewer_reads}
use Rattle.association_run.proofs.TurnLaws.{unfinished_after, empty_after, ready_after, read_dropping, nothing_more}
use Rattle.association_run.proofs.TurnLaws.{over_of, or_at_end}
use Rattle.association_run.proofs.run.take_turn.Goals as goal

-- No byte was read.
pub returns-in_err-count-clause-turns : goal.returns-in_err-count-clause-turns
returns-in_err-count-clause-turns g c r0 old n so =
    let e = err_from_is_err_and c.from_residual.result c.from_residual.ensures.1 in
    rw e.1 (stopped g.P.Port.ops g.P.Port.own c.args.titles.now.list r0 _ _ old _ c.args.session.now c.args.intake.now
    n so (kept_read _ _ c.in_err-count.ensures.kept))

-- The stream came to its end.
pub returns-then-count-eq0-clause-turns : goal.returns-then-count-eq0-clause-turns
returns-then-count-eq0-clause-turns g c r0 old n so =
    let r = c.in_ok-count.ensures.read in
    let within = rw c.state.ensures at c.in_ok-count.ensures.within in
    let here = after_read g.P.Port.ops g.P.Port.own c.args.titles.now.list r0 _ _ old _ c.args.session.now
    c.args.intake.now c.read.new.self n c.in_ok-count.count so r within in
    finished g.P.Port.ops g.P.Port.own c.args.titles.now.list r0 _ old _ c.args.session.now c.read.new.self
    (n + c.in_ok-count.count) c.end_now.result here
    (nothing_more _ _ c.args.intake.now c.read.new.self c.in_ok-count.count r c.if-count-eq0.true c.requires.unfinished)
    (inr (inr (r.end c.if-count-eq0.true)))
    (λ closed. absurd (c.requires.connected closed))
    (c.end_now.ensures ∙ ap (λ k. end_in k c.args.session.now.aborted c.args.session.now.released)
    (c.all_counted-counted.ensures ∙ ap (λ k. counted_in c.read.new.self k) c.state-then-count-eq0.ensures))

-- Of the piece a front was heard.
pub returns-in_err-take_piece-clause-turns : goal.returns-in_err-take_piece-clause-turns
returns-in_err-take_piece-clause-turns g c r0 old n so =
    let e = err_from_is_err_and c.from_residual-in_err-take_piece.result c.from_residual-in_err-take_piece.ensures.1 in
    let within = rw c.state.ensures at c.in_ok-count.ensures.within in
    let here = after_read g.P.Port.ops g.P.Port.own c.args.titles.now.list r0 _ _ old _ c.args.session.now
    c.args.intake.now c.read.new.self n c.in_ok-count.count so c.in_ok-count.ensures.read within in
    rw e.1 (broken g.P.Port.ops g.P.Port.own c.args.titles.now.list r0 _ old _ _ c.args.session.now c.read.new.self
    (n + c.in_ok-count.count) here c.requires.connected c.in_err-take_piece.ensures.err)

-- The piece ended it.
pub returns-then-is_over-clause-turns : goal.returns-then-is_over-clause-turns
returns-then-is_over-clause-turns g c r0 old n so =
    let within = rw c.state.ensures at c.in_ok-count.ensures.within in
    let here = after_read g.P.Port.ops g.P.Port.own c.args.titles.now.list r0 _ _ old _ c.args.session.now
    c.args.intake.now c.read.new.self n c.in_ok-count.count so c.in_ok-count.ensures.read within in
    let takes = c.in_ok-take_piece.ensures.ok in
    let there = after_take g.P.Port.ops g.P.Port.own c.args.titles.now.list r0 _ old _ _ c.args.session.now
    c.read.new.self c.take_piece.new.session c.take_piece.new.intake (n + c.in_ok-count.count) here
    c.requires.connected takes in
    let counted = c.all_counted-counted-2.ensures ∙ ap (λ k. counted_in c.take_piece.new.intake k) c.state-2.ensures in
    let over = over_of c.take_piece.new.session.association.within.state c.all_counted-counted-2.result
    (sym c.is_over.ensures ∙ c.if-is_over.true) in
    finished g.P.Port.ops g.P.Port.own c.args.titles.now.list r0 _ old _ c.take_piece.new.session
    c.take_piece.new.intake (n + c.in_ok-count.count) c.end_now-then-is_over.result there
    (unfinished_after g.P.Port.ops g.P.Port.own c.args.titles.now.list _ _ c.args.session.now c.read.new.self
    c.take_piece.new.session c.take_piece.new.intake takes)
    (or_at_end (rw counted at over))
    (empty_after g.P.Port.ops g.P.Port.own c.args.titles.now.list _ _ c.args.session.now c.read.new.self
    c.take_piece.new.session c.take_piece.new.intake c.requires.connected takes)
    (c.end_now-then-is_over.ensures ∙ ap (λ k. end_in k c.take_piece.new.session.aborted
    c.take_piece.new.session.released) counted)

-- It goes on.
pub returns-clause-turns : goal.returns-clause-turns
returns-clause-turns g c r0 old n so =
    let within = rw c.state.ensures at c.in_ok-count.ensures.within in
    let here = after_read g.P.Port.ops g.P.Port.own c.args.titles.now.list r0 _ _ old _ c.args.session.now
    c.args.intake.now c.read.new.self n c.in_ok-count.count so c.in_ok-count.ensures.read within in
    let there = after_take g.P.Port.ops g.P.Port.own c.args.titles.now.list r0 _ old _ _ c.args.session.now
    c.read.new.self c.take_piece.new.session c.take_piece.new.intake (n + c.in_ok-count.count) here
    c.requires.connected c.in_ok-take_piece.ensures.ok in
    fewer_reads g.P.Port.ops g.P.Port.own c.args.titles.now.list r0 _ old _ c.take_piece.new.session
    c.take_piece.new.intake (n + 1) (n + c.in_ok-count.count) there (omega (arith, c.if-count-eq0.false))

-- The next turn may read.
pub returns-clause-ready : goal.returns-clause-ready
returns-clause-ready g c = λ none.
    let within = rw c.state.ensures at c.in_ok-count.ensures.within in
    let counted = c.all_counted-counted-2.ensures ∙ ap (λ k. counted_in c.take_piece.new.intake k) c.state-2.ensures in
    let over = sym c.is_over.ensures ∙ c.if-is_over.false in
    ready_after g.P.Port.ops g.P.Port.own c.args.titles.now.list _ _ c.args.session.now c.read.new.self
    c.take_piece.new.session c.take_piece.new.intake c.requires.idle c.requires.finished c.requires.connected
    (read_dropping _ _ c.args.session.now.association.within.state c.args.intake.now c.read.new.self c.in_ok-count.count
    c.requires.dropping c.in_ok-count.ensures.read)
    within c.in_ok-take_piece.ensures.ok (rw counted at over)
