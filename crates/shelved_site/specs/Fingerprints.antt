-- One number for all that a site holds.
use Rattle.std.specs.Prelude.{◌≡◌, ℕ, List}
use Rattle.std.specs.List.{flat_map}
use Rattle.sha2.specs.Sha256.{sha256}
use Rattle.operation.specs.declared.op.Op.{Op}
use Rattle.archive_model.specs.Members.{SameMembers}
use Rattle.site_state.specs.Site.{Map, digests_of}
use Rattle.site_state.specs.Laws.{Apart, after_taking}

-- some digests, one behind the other
abbrev pub digests_text : List (List ℕ) → List ℕ
digests_text digests = flat_map (λ d. d) digests

-- SHA-256 of all digests of a site, ascending (FIPS 180-4)
unfoldable pub fingerprint_of : Map → List ℕ
fingerprint_of m = sha256 (digests_text (digests_of m))

-- Sites that took the same operations have equal fingerprints, where no two of these have one digest.
abbrev pub EqualSetsAreAlike : Type 0
EqualSetsAreAlike = (xs ys : List Op) → SameMembers xs ys → Apart xs
    → fingerprint_of (after_taking xs) ≡ fingerprint_of (after_taking ys)
