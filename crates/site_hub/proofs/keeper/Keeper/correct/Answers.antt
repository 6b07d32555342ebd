use Rattle.std.proofs.Common.{rules, ◌<◌, Err, sym, ap, subst}
use Rattle.std.proofs.lemmas.Result.{err_from_is_err_and}
use Rattle.operation.specs.Parts.{CorrectionParts}
use Rattle.site_hub.specs.Hub.{Seat, HasKept}
use Rattle.site_hub.specs.Taking.{at_desk}
use Rattle.site_hub.proofs.Stamping.{turn_rises}
use Rattle.site_hub.proofs.Takings.{none_prepared, none_taken}
use Rattle.site_hub.proofs.keeper.Keeper.correct.Goals as goal

-- It came next at the pass's turn, over all that the pass had seen.
pub returns-clause-makes : goal.returns-clause-makes
returns-clause-makes g c = record {
  made = search rules;
  counter = λ held has. subst (λ (made : CorrectionParts). held.stamp.counter < made.stamp.counter)
      (sym c.in_ok-both.ensures.made)
      (turn_rises g.H.HubName.number g.H.HubName.opening c.args.pass.now c.args.self.now.all c.args.target c.args.tag
      c.args.value c.in_ok-made.made (rw (← c.pass.view_is) c.in_ok-made.ensures.turn) (sym c.in_ok-made.ensures.made)
      held has);
}

-- None was prepared, and the pass is as it was, but for the refusal.
pub returns-in_err-made-clause-makes_none : goal.returns-in_err-made-clause-makes_none
returns-in_err-made-clause-makes_none g c =
    let out = err_from_is_err_and c.from_residual.result c.from_residual.ensures.1 in
    rw (out.1, out.2) (none_prepared _ _ _ _ _ (record {
      desk = c.prepared.ensures.stayed;
      seat = record { number = search rules; seen = search rules; mine = search rules };
    }) (λ is. rw (← c.pass.view_is) (c.in_err-made.ensures.turn is))
    (λ is. c.in_err-made.ensures.stamps_spent (ap (λ e. Err e) is)) c.in_err-made.ensures.fault)

-- It was prepared at the pass's turn, and not taken.
pub returns-in_err-both-clause-makes_none : goal.returns-in_err-both-clause-makes_none
returns-in_err-both-clause-makes_none g c =
    let out = err_from_is_err_and c.from_residual-in_err-both.result c.from_residual-in_err-both.ensures.1 in
    let mid : Seat = record {
      number = c.pass.inside.number;
      seen = c.pass.inside.seen;
      mine = c.pass.inside.mine.items;
      refused = c.prepared.new.refusals.count;
    } in
    let kept : HasKept c.args.pass.now mid = record {
      number = search rules;
      seen = search rules;
      mine = search rules;
    } in
    rw (out.1, out.2) (none_taken _ _ (at_desk c.prepared.new.self mid) _ _ c.in_ok-made.made _
    (record { desk = c.prepared.ensures.stayed; seat = kept }) c.in_ok-made.ensures.made
    (rw (← c.pass.view_is) c.in_ok-made.ensures.turn) c.in_err-both.ensures.refuses)
