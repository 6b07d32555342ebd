-- What every line of the table passes, an attribute that may be corrected passes.
use Rattle.std.proofs.Common.{◌≡◌, ℕ, Bool, true, false, List, [], ◌∷◌, Some, refl, sym, subst}
use Rattle.std.specs.Prelude.{◌==◌, if◌then◌else◌}
use Rattle.std.specs.List.{list_all}
use Rattle.std.proofs.lemmas.Bool.{and_parts, eqb-true}
use Rattle.dictionary.specs.declared.role.Entity.{Entity}
use Rattle.dictionary.specs.declared.role.Role.{Role}
use Rattle.dictionary.specs.Elements.{Line, table, vr_among, vr_in_table, role_among, role_in_table}
use Rattle.dictionary.specs.Roles.{correction_of}

-- a claim of a tag, its value representation and its role
abbrev pub Claim : Type 1
Claim = ℕ → List ℕ → Role → Type 0

-- a line of an attribute that may be corrected, and that passes a test, bears the claim out
abbrev pub BearsOut : Claim → (Line → Bool) → Type 0
BearsOut P test = (line : Line) (entity : Entity) → test line ≡ true → correction_of line.role ≡ Some entity
    → P line.tag line.vr line.role

of_lines : (P : Claim) (test : Line → Bool) → BearsOut P test → (lines : List Line) → list_all test lines ≡ true
    → (tag : ℕ) (entity : Entity) → correction_of (role_among tag lines) ≡ Some entity
    → P tag (vr_among tag lines) (role_among tag lines)
of_lines P test holds [] all tag entity is = absurd cc
of_lines P test holds (line ∷ lines) all tag entity is =
    by (tag == line.tag) (eqb-true tag line.tag)
    (of_lines P test holds lines (and_parts (test line) (list_all test lines) all).1 tag entity) is
  where
    by : (b : Bool) → (b ≡ true → tag ≡ line.tag) → (correction_of (role_among tag lines) ≡ Some entity
        → P tag (vr_among tag lines) (role_among tag lines))
        → correction_of (if b then line.role else role_among tag lines) ≡ Some entity
        → P tag (if b then line.vr else vr_among tag lines) (if b then line.role else role_among tag lines)
    by true same later here = subst (λ (t : ℕ). P t line.vr line.role) (sym (same refl))
        (holds line entity (and_parts (test line) (list_all test lines) all).0 here)
    by false same later here = later here

pub of_table : (P : Claim) (test : Line → Bool) → BearsOut P test → list_all test table ≡ true
    → (tag : ℕ) (entity : Entity) → correction_of (role_in_table tag) ≡ Some entity
    → P tag (vr_in_table tag) (role_in_table tag)
unfolding vr_in_table role_in_table
of_table P test holds all tag entity is = of_lines P test holds table all tag entity is
