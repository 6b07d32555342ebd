use Rattle.std.proofs.Common.{◌∙◌, sym, ap, subst, List, ℕ, length}
use Rattle.std.specs.Prelude.{◌||◌, ◌==◌}
use Rattle.std.specs.List.{list_any}
use Rattle.std.specs.List.Sorted.{IsStrictlySortedBy}
use Rattle.octets.specs.Texts.{same, text_cmp}
use Rattle.key_matching.specs.Matches.{is_universal, matches}
use Rattle.key_matching.proofs.Listed.{members_sorted, matches_listed}
use Rattle.key_matching.proofs.prepared.PreparedKey.matches.Goals as goal

-- The members of a list ascend.
pub is_match_listed-requires : goal.is_match_listed-requires
is_match_listed-requires c =
    subst (IsStrictlySortedBy text_cmp) (sym (c.deref.ensures.value ∙ c.self.invariant))
    (members_sorted c.self.inside.matching c.self.inside.key.now)

-- A value is among the members exactly where the list has it.
pub returns-then-is_uids : goal.returns-then-is_uids
returns-then-is_uids c =
    let key = c.self.inside.key.now in
    let value = c.args.value.now in
    c.is_match_listed.ensures
    ∙ ap (λ (ms : List (List ℕ)). is_universal key || (length value == 0) || list_any (λ m. same m value) ms)
    (c.deref.ensures.value ∙ c.self.invariant)
    ∙ matches_listed c.self.inside.matching key value (sym c.if-is_uids.ensures)
    ∙ ap (λ p. matches p.0 p.1 value) c.self.view_is
