-- A shelf as a store.
use Rattle.std.proofs.Common.{◌≡◌, List, [], ◌∷◌, ◌++◌, map, Contains, IsPermutation, refl, sym, subst, ap, ap₂}
use Rattle.hex.specs.Hex.{encode_lower}
use Rattle.sha2.specs.Sha256.{sha256}
use Rattle.sqlite.specs.Order.{Row}
use Rattle.operation.specs.declared.op.Op.{Op}
use Rattle.operation.specs.Spelling.{spelling, hash_of}
use Rattle.op_shelf.specs.Entries.{entries, entry_by, entry_of, digest_text}
use Rattle.shelved_site.specs.declared.unreadable.Unreadable.{Unreadable}
use Rattle.shelved_site.specs.Readable.{ShowsRows}
use Rattle.shelved_site.specs.Recorded.{AreFoundAs}

digest_texts : (a b : Op) → spelling a ≡ spelling b → digest_text a ≡ digest_text b
unfolding hash_of
digest_texts a b same = ap (λ text. encode_lower (sha256 text)) same

-- operations that are spelled alike have one entry
same_entry : (a b : Op) → spelling a ≡ spelling b → entry_of a ≡ entry_of b
same_entry a b same = ap₂ entry_by (digest_texts a b same) same

-- what has the one has the other
pub alike_in : (all : List Row) (a b : Op) → spelling a ≡ spelling b → Contains all (entry_of a)
    → Contains all (entry_of b)
alike_in all a b same held = subst (λ (e : Row). Contains all e) (same_entry a b same) held

same_entries : (others ops : List Op) → AreFoundAs others ops → map entry_of others ≡ map entry_of ops
same_entries [] [] found = refl
same_entries [] (op ∷ ops) found = absurd found
same_entries (other ∷ others) [] found = absurd found
same_entries (other ∷ others) (op ∷ ops) (first, rest) =
    ap₂ (λ (e : Row) (es : List Row). e ∷ es) (same_entry other op first.0) (same_entries others ops rest)

-- operations of the same entries are shown as well
pub shows_in : (rows : List Row) (told : List Unreadable) (ops others : List Op) → ShowsRows rows told ops
    → AreFoundAs others ops → ShowsRows rows told others
shows_in rows told ops others shown found = record {
  others = shown.others;
  parted = subst (λ (es : List Row). IsPermutation (entries rows) (es ++ shown.others)) (sym (same_entries others ops found))
      shown.parted;
  none = shown.none;
  tells = shown.tells;
}
