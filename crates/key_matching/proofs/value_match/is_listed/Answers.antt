use Rattle.std.proofs.Common.{◌∙◌, sym, ap}
use Rattle.std.specs.List.{list_any}
use Rattle.key_matching.specs.Matches.{is_same_part, parts}
use Rattle.key_matching.proofs.Parts.{any_here, any_later, any_last}
use Rattle.key_matching.proofs.value_match.is_listed.Goals as goal

-- No backslash is left, so the rest is the last part.
pub returns-in-None : goal.returns-in-None
returns-in-None c = c.is_same_part.ensures ∙ sym (any_last (is_same_part c.args.value.now) c.loop-at.rest.now
    c.in-None.ensures.place) ∙ c.loop-at.invariant

-- This part is the value, so one of them is.
pub returns-then-is_same_part : goal.returns-then-is_same_part
returns-then-is_same_part c = sym (any_here (is_same_part c.args.value.now) c.loop-at.rest.now c.in-Some.at
    c.in-Some.ensures.place (ap (is_same_part c.args.value.now) (sym c.front.ensures) ∙ sym c.if-is_same_part.ensures))
    ∙ c.loop-at.invariant

-- This part is not the value, so it is one of those behind it, or none.
pub loop-at-preserved : goal.loop-at-preserved
loop-at-preserved c =
    ap (λ r. list_any (is_same_part c.args.value.now) (parts r)) c.after-rest.ensures
    ∙ sym (any_later (is_same_part c.args.value.now) c.loop-at.rest.now c.in-Some.at c.in-Some.ensures.place
    (ap (is_same_part c.args.value.now) (sym c.front.ensures) ∙ sym c.if-is_same_part.ensures))
    ∙ c.loop-at.invariant
