-- The one way to cut entries off a text.
use Rattle.std.proofs.Common.{◌≡◌, ◌+◌, ◌<◌, ◌^◌, ℕ, List, [], ◌∷◌, ◌++◌, length, take, drop, refl, sym, ap, ◌∙◌, append_assoc, arith}
use Rattle.std.specs.Prelude.{◌≢◌}
use Rattle.std.specs.Int.{w64, from_be_bytes, to_be_bytes}
use Rattle.std.proofs.Math.Seq.{take-append_seam, drop-append_seam}
use Rattle.std.proofs.lemmas.List.{append-nil, length-append, nil_from_length}
use Rattle.std.proofs.lemmas.Nat.{from_be_bytes-to_be_bytes_8}
use Rattle.operation.specs.Parts.{ContentParts}
use Rattle.operation.specs.RecordParts.{content_record}
use Rattle.operation.specs.RecordTexts.{record_text}
use Rattle.record_log.specs.Entries.{AreEachTold, IsTold, WereRead, entries_text, entry_text, with_length, with_lengths}

-- ---- one entry

-- two texts that begin with a number of eight bytes begin with the same
one_number : (n m : ℕ) (xs ys : List ℕ) → n < 2 ^ 64 → m < 2 ^ 64 → to_be_bytes w64 n ++ xs ≡ to_be_bytes w64 m ++ ys
    → (n ≡ m) × (xs ≡ ys)
one_number n m xs ys low low' e = (
  sym (from_be_bytes-to_be_bytes_8 n low)
      ∙ ap (from_be_bytes w64) (sym (take-append_seam (to_be_bytes w64 n) xs) ∙ ap (take 8) e
      ∙ take-append_seam (to_be_bytes w64 m) ys)
      ∙ from_be_bytes-to_be_bytes_8 m low',
  sym (drop-append_seam (to_be_bytes w64 n) xs) ∙ ap (drop 8) e ∙ drop-append_seam (to_be_bytes w64 m) ys,
)

-- two texts that begin with a text behind its length begin with the same
pub one_front : (a b r s : List ℕ) → length a < 2 ^ 64 → length b < 2 ^ 64 → with_length a ++ r ≡ with_length b ++ s
    → (a ≡ b) × (r ≡ s)
unfolding with_length
one_front a b r s short short' e =
    let sizes = one_number (length a) (length b) (a ++ r) (b ++ s) short short' e in (
      sym (take-append_seam a r) ∙ (λ i. take (sizes.0 i) (sizes.1 i)) ∙ take-append_seam b s,
      sym (drop-append_seam a r) ∙ (λ i. drop (sizes.0 i) (sizes.1 i)) ∙ drop-append_seam b s,
    )

-- ---- entries

-- These are some contents, in their order, and a text has the entries of the others.
pub record AreLeft (cs got : List ContentParts) (rest : List ℕ) : Type 0 where
  pub others : List ContentParts
  pub are : cs ≡ got ++ others
  pub text : rest ≡ entries_text others
  pub told : AreEachTold others

-- at first all are left
pub all_left : (old cs : List ContentParts) (text : List ℕ) → AreEachTold cs → text ≡ entries_text cs
    → AreLeft (old ++ cs) old text
all_left old cs text told is = record { others = cs; are = refl; text = is; told = told }

-- where some are left, an entry stands at the front
pub entry_there : (cs got : List ContentParts) (text : List ℕ) → AreLeft cs got text → 0 < length text
    → ((entry rest : List ℕ) → length entry < 2 ^ 64 → text ≢ with_length entry ++ rest) → ⊥
unfolding entries_text
entry_there cs got text left some none = by left.others left.text left.told
  where
    by : (others : List ContentParts) → text ≡ entries_text others → AreEachTold others → ⊥
    by [] is told = let none = ap length is in absurd (omega (arith, none, some))
    by (c ∷ more) is told = none (record_text (content_record c)) (entries_text more) told.0.short is

-- It is that of a content, and behind it the others are left.
pub record Next (cs got : List ContentParts) (entry rest : List ℕ) : Type 0 where
  pub content : ContentParts
  pub told : IsTold content
  pub text : entry ≡ record_text (content_record content)
  pub left : AreLeft cs (got ++ content ∷ []) rest

pub next_of : (cs got : List ContentParts) (text entry rest : List ℕ) → length entry < 2 ^ 64
    → text ≡ with_length entry ++ rest → AreLeft cs got text → Next cs got entry rest
unfolding entries_text with_length
next_of cs got text entry rest short is left = by left.others left.are left.text left.told
  where
    by : (others : List ContentParts) → cs ≡ got ++ others → text ≡ entries_text others → AreEachTold others
        → Next cs got entry rest
    by [] are spelled told = absurd cc
    by (c ∷ more) are spelled told =
        let same = one_front entry (record_text (content_record c)) rest (entries_text more) short told.0.short
        (sym is ∙ spelled) in
        record {
          content = c;
          told = told.0;
          text = same.0;
          left = record {
            others = more;
            are = are ∙ sym (append_assoc got (c ∷ []) more);
            text = same.1;
            told = told.1;
          };
        }

-- where no text is left all were read
pub none_left : (cs got : List ContentParts) (text : List ℕ) → length text ≡ 0 → AreLeft cs got text → got ≡ cs
unfolding entries_text with_length
none_left cs got text empty left = by left.others left.are left.text
  where
    by : (others : List ContentParts) → cs ≡ got ++ others → text ≡ entries_text others → got ≡ cs
    by [] are spelled = sym (are ∙ append-nil got)
    by (c ∷ more) are spelled = let many = ap length spelled in absurd (omega (arith, many, empty))

-- ---- entries, whatever they tell

-- Some entries of a text were read, and the rest is left.
pub record AreRead (text : List ℕ) (old new : List ContentParts) (rest : List ℕ) : Type 0 where
  pub texts : List (List ℕ)
  pub is : text ≡ with_lengths texts ++ rest
  pub count : length new ≡ length old + length texts

lengths_more : (texts : List (List ℕ)) (entry rest : List ℕ)
    → with_lengths texts ++ (with_length entry ++ rest) ≡ with_lengths (texts ++ entry ∷ []) ++ rest
unfolding with_lengths
lengths_more [] entry rest = ap (λ (text : List ℕ). text ++ rest) (sym (append-nil (with_length entry)))
lengths_more (text ∷ texts) entry rest =
    append_assoc (with_length text) (with_lengths texts) (with_length entry ++ rest)
    ∙ ap (λ (t : List ℕ). with_length text ++ t) (lengths_more texts entry rest)
    ∙ sym (append_assoc (with_length text) (with_lengths (texts ++ entry ∷ [])) rest)

-- one more
pub one_read : (text : List ℕ) (old mid new : List ContentParts) (between entry rest : List ℕ)
    → AreRead text old mid between → between ≡ with_length entry ++ rest → length new ≡ length mid + 1
    → AreRead text old new rest
one_read text old mid new between entry rest read is one =
    record {
      texts = read.texts ++ entry ∷ [];
      is = read.is ∙ ap (λ (t : List ℕ). with_lengths read.texts ++ t) is ∙ lengths_more read.texts entry rest;
      count = omega (arith, one, read.count, length-append read.texts (entry ∷ []));
    }

-- all of it
pub all_read : (text : List ℕ) (old new : List ContentParts) (rest : List ℕ) → AreRead text old new rest
    → length rest ≡ 0 → WereRead text old new
all_read text old new rest read none =
    record {
      texts = read.texts;
      is = read.is ∙ ap (λ (t : List ℕ). with_lengths read.texts ++ t) (nil_from_length rest none)
          ∙ append-nil (with_lengths read.texts);
      count = read.count;
    }

-- ---- lists of entries

-- entries of two lists, one behind the other
pub entries_more : (xs ys : List ContentParts) → entries_text (xs ++ ys) ≡ entries_text xs ++ entries_text ys
unfolding entries_text
entries_more [] ys = refl
entries_more (x ∷ xs) ys =
    ap (λ (text : List ℕ). entry_text x ++ text) (entries_more xs ys)
    ∙ sym (append_assoc (entry_text x) (entries_text xs) (entries_text ys))

-- no text is that of no content
pub none_told : (cs : List ContentParts) → length (entries_text cs) ≡ 0 → cs ≡ []
unfolding entries_text with_length
none_told [] is = refl
none_told (c ∷ cs) is = absurd (omega (arith, is))

pub told_more : (xs ys : List ContentParts) → AreEachTold xs → AreEachTold ys → AreEachTold (xs ++ ys)
told_more [] ys told more = more
told_more (x ∷ xs) ys (first, rest) more = (first, told_more xs ys rest more)

pub told_front : (xs ys : List ContentParts) → AreEachTold (xs ++ ys) → AreEachTold xs
told_front [] ys told = tt
told_front (x ∷ xs) ys (first, rest) = (first, told_front xs ys rest)

pub told_behind : (xs ys : List ContentParts) → AreEachTold (xs ++ ys) → AreEachTold ys
told_behind [] ys told = told
told_behind (x ∷ xs) ys (first, rest) = told_behind xs ys rest
