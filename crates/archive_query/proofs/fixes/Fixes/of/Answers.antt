use Rattle.std.proofs.Common.{◌≡◌, ◌+◌, ◌∷◌, map, drop, suc, ap, subst, sym, ◌∙◌, Bor, arith, add-one, drop-cons}
use Rattle.std.proofs.lemmas.List.{drop_all}
use Rattle.records.specs.declared.recorded_content.RecordedContent.{RecordedContent}
use Rattle.archive_model.proofs.MemberLaws.{has_map}
use Rattle.site_state.specs.declared.counts.Counts.{Counts}
use Rattle.site_state.specs.Site.{ops_of}
use Rattle.archive_query.specs.Found.{AreFixes, fixes_of}
use Rattle.archive_query.proofs.FoundLaws.{IsToCome, none_needed, begin, told_put, come, all_come, has_drop}
use Rattle.archive_query.proofs.fixes.Fixes.of.Goals as goal

-- Where no correction is held, none is needed.
pub returns-then-counts-eq0 : goal.returns-then-counts-eq0
returns-then-counts-eq0 c =
    let ops = ops_of c.args.site.now in
    let cs = map (λ (x : Bor RecordedContent). x.now) c.args.contents.now in
    subst (AreFixes ops c.args.query.now.asked cs) (sym c.new.ensures.empty)
    (none_needed ops c.args.query.now.asked cs (sym (ap (λ (n : Counts). n.corrections) c.counts.ensures)
    ∙ c.if-counts-eq0.true))

-- At first nothing stands anywhere, and all contents are still to come.
pub loop-content-init : goal.loop-content-init
loop-content-init c told tells =
    begin told (map (λ (x : Bor RecordedContent). x.now) c.args.contents.now) c.new.result.entries c.new.ensures.empty

-- The values of one content more stand under its UID.
pub loop-content-preserved : goal.loop-content-preserved
loop-content-preserved c told tells =
    let ops = ops_of c.args.site.now in
    let asked = c.args.query.now.asked in
    let now = λ (y : Bor RecordedContent). y.now in
    let i = c.loop-content.content-index in
    let contents = c.args.contents.now in
    let more = drop (i + 1) contents in
    let old = c.loop-content.fixes in
    let new = c.put.new.self in
    let x = c.content-item.result in
    let so_far = c.loop-content.invariant told tells in
    let next : drop i contents ≡ x ∷ drop (i + 1) contents = rw add-one (drop-cons contents i x c.loop-content-test.true
    ∙ ap (λ y. y ∷ drop (suc i) contents) (sym c.content-item.is)) in
    let is = tells x.now (has_map now contents x (has_drop i contents more x next)) in
    let left : IsToCome told (map now contents) old (x.now ∷ map now more) =
    subst (λ ds. IsToCome told (map now contents) old (map now ds)) next so_far.1 in (
      told_put told old new x.now.instance (fixes_of ops asked x.now) is c.in_ok-put.ensures so_far.0,
      come ops asked told (map now contents) old new x.now (map now more) is so_far.0 left c.in_ok-put.ensures,
    )

-- No content is still to come.
pub returns : goal.returns
returns c told tells x has =
    let now = λ (y : Bor RecordedContent). y.now in
    let i = c.loop-content.content-index in
    let contents = c.args.contents.now in
    all_come told (map now contents) c.loop-content.fixes (map now (drop i contents))
    (ap (map now) (drop_all i contents (omega arith))) (c.loop-content.invariant told tells).1 x has
    ∙ tells x has
