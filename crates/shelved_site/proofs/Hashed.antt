-- What was hashed of a site, on the way.
use Rattle.std.proofs.Common.{◌≡◌, ℕ, List, [], ◌∷◌, ◌++◌, refl, sym, ap, ◌∙◌, append_assoc}
use Rattle.std.proofs.lemmas.List.{append-nil}
use Rattle.std.specs.Map.{keys_of}
use Rattle.sha2.specs.declared.Sha256.{Sha256}
use Rattle.sha2.specs.Hashers.{Holds256}
use Rattle.operation.specs.declared.op.Op.{Op}
use Rattle.site_state.proofs.Same.{equal_maps}
use Rattle.shelved_site.specs.Fingerprints.{digests_text, fingerprint_of, EqualSetsAreAlike}

-- the digests of some entries, one behind the other
abbrev pub entries_text : List (List ℕ × Op) → List ℕ
entries_text entries = digests_text (keys_of entries)

-- A front of a text was hashed, of which the digests of these entries are left.
pub record IsHashed (hasher : Sha256) (left all : List (List ℕ × Op)) : Type 0 where
  pub fed : List ℕ
  pub holds : Holds256 hasher fed
  pub whole : fed ++ entries_text left ≡ entries_text all

pub none_hashed : (hasher : Sha256) (all : List (List ℕ × Op)) → Holds256 hasher [] → IsHashed hasher all all
none_hashed hasher all holds = record { fed = []; holds = holds; whole = refl }

pub next_hashed : (hasher hashed : Sha256) (digest : List ℕ) (op : Op) (left rest all : List (List ℕ × Op))
    → IsHashed hasher left all → left ≡ (digest, op) ∷ rest
    → ((m : List ℕ) → Holds256 hasher m → Holds256 hashed (m ++ digest)) → IsHashed hashed rest all
next_hashed hasher hashed digest op left rest all was steps feeds = record {
  fed = was.fed ++ digest;
  holds = feeds was.fed was.holds;
  whole = append_assoc was.fed digest (entries_text rest) ∙ ap (λ es. was.fed ++ entries_text es) (sym steps)
      ∙ was.whole;
}

pub all_hashed : (hasher : Sha256) (left all : List (List ℕ × Op)) (was : IsHashed hasher left all) → left ≡ []
    → was.fed ≡ entries_text all
all_hashed hasher left all was none =
    sym (append-nil was.fed) ∙ ap (λ es. was.fed ++ entries_text es) (sym none) ∙ was.whole

pub equal_sets_alike : EqualSetsAreAlike
equal_sets_alike xs ys same apart = ap fingerprint_of (equal_maps xs ys (same, apart))
