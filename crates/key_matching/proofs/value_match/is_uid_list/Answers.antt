use Rattle.std.proofs.Common.{◌∙◌, sym, ap}
use Rattle.std.specs.List.{list_all}
use Rattle.key_matching.specs.Matches.{is_uid_part, parts}
use Rattle.key_matching.proofs.Parts.{all_not_here, all_later, all_last}
use Rattle.key_matching.proofs.value_match.is_uid_list.Goals as goal

-- No backslash is left, so the rest is the last part.
pub returns-in-None : goal.returns-in-None
returns-in-None c = c.is_uid_part.ensures ∙ sym (all_last is_uid_part c.loop-at.rest.now c.in-None.ensures.place)
    ∙ c.loop-at.invariant

-- This part is no UID, so not all are.
pub returns-then-not-is_uid_part : goal.returns-then-not-is_uid_part
returns-then-not-is_uid_part c = sym (all_not_here is_uid_part c.loop-at.rest.now c.in-Some.at c.in-Some.ensures.place
    (ap is_uid_part (sym c.front.ensures) ∙ sym c.if-not-is_uid_part.ensures)) ∙ c.loop-at.invariant

-- This part is a UID, so all are where those behind it are.
pub loop-at-preserved : goal.loop-at-preserved
loop-at-preserved c =
    ap (λ r. list_all is_uid_part (parts r)) c.after-rest.ensures
    ∙ sym (all_later is_uid_part c.loop-at.rest.now c.in-Some.at c.in-Some.ensures.place
    (ap is_uid_part (sym c.front.ensures) ∙ sym c.if-not-is_uid_part.ensures))
    ∙ c.loop-at.invariant
