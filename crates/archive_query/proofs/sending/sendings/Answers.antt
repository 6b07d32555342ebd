use Rattle.std.proofs.Common.{◌≡◌, ◌+◌, List, [], ◌∷◌, ◌++◌, take, ap, sym, subst, ◌∙◌}
use Rattle.std.proofs.lemmas.List.{take_more}
use Rattle.archive_model.specs.declared.prepared.Prepared.{Prepared}
use Rattle.archive_model.specs.declared.sending.Sending.{Sending}
use Rattle.archive_query.specs.Made.{AreMade}
use Rattle.archive_query.proofs.SendingLaws.{made_snoc}
use Rattle.archive_query.proofs.sending.sendings.Goals as goal

-- What is made of one more prepared instance stands behind what was made so far.
pub loop-instance-preserved : goal.loop-instance-preserved
loop-instance-preserved c =
    let i = c.loop-instance.instance-index in
    let these = c.args.prepared.now in
    let at = c.instance-item.result in
    let accepted = c.args.accepts.now.list in
    let found = c.loop-instance.found.items in
    let sending = c.in_ok-sending_of.field-0 in
    let more : take (i + 1) these ≡ take i these ++ (at ∷ []) = take_more these i at c.loop-instance-test.true
    ∙ ap (λ (p : Prepared). take i these ++ (p ∷ [])) (sym c.instance-item.is) in
    let made = made_snoc accepted (take i these) found at sending c.loop-instance.invariant c.in_ok-sending_of.ensures
    in
    subst (λ (ss : List Sending). AreMade accepted (take (i + 1) these) ss) (sym {A = List Sending}
    c.in_ok-push.ensures.items)
    (subst (λ (ps : List Prepared). AreMade accepted ps (found ++ (sending ∷ []))) (sym more) made)
