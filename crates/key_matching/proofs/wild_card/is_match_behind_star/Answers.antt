use Rattle.std.proofs.Common.{arith, add-one, ◌≡◌, ◌<◌, ◌∙◌, sym, ap, subst, ◌∷◌, length, drop, suc, Some, None}
use Rattle.key_matching.specs.WildCard.{star, is_wild_match}
use Rattle.key_matching.specs.WildCardFront.{IsFirstPlace}
use Rattle.key_matching.proofs.Runs.{at_place, at_no_place}
use Rattle.key_matching.proofs.wild_card.is_match_behind_star.Goals as goal

-- The run stands nowhere.
pub returns-in_default : goal.returns-in_default
returns-in_default c =
    let n = c.run_length-n.result in
    let key = c.loop-key.key.now in
    let value = c.loop-key.value.now in
    sym (at_no_place c.args.folds n key value c.run_length-n.ensures.starless c.run_length-n.ensures.within
    (subst (λ run. IsFirstPlace c.args.folds run value None) c.front.ensures c.in_default.ensures.first))
    ∙ c.loop-key.invariant

-- Behind the first place of the run the next `*` begins.
pub loop-key-preserved : goal.loop-key-preserved
loop-key-preserved c =
    let n = c.run_length-n.result in
    let at = c.in-Some.at in
    let key = c.loop-key.key.now in
    let value = c.loop-key.value.now in
    let more : n < length key = omega arith in
    let key_is : c.after-key.result.now ≡ drop (suc n) key = rw (← add-one) c.after-key.ensures in
    ap (λ k. is_wild_match c.args.folds (star ∷ k) c.behind-value.result.now) key_is
    ∙ ap (λ v. is_wild_match c.args.folds (star ∷ drop (suc n) key) v)
    (c.behind-value.ensures ∙ ap (drop n) c.behind.ensures)
    ∙ sym (at_place c.args.folds n at key value c.run_length-n.ensures.starless more
    (c.run_length-n.ensures.star more)
    (subst (λ run. IsFirstPlace c.args.folds run value (Some at)) c.front.ensures c.in-Some.ensures.first))
    ∙ c.loop-key.invariant
