-- What is written of a record is read again.
use Rattle.std.proofs.Common.{◌≡◌, ◌<◌, ◌^◌, ℕ, List, [], ◌∷◌, ◌++◌, length, take, drop, refl, sym, ap, ◌∙◌, append_assoc, arith}
use Rattle.std.specs.Prelude.{◌≢◌}
use Rattle.std.specs.Int.{w32, w64, from_be_bytes, to_be_bytes}
use Rattle.std.proofs.Math.Seq.{take-append_seam, drop-append_seam}
use Rattle.std.proofs.lemmas.List.{append-nil}
use Rattle.std.proofs.lemmas.Nat.{from_be_bytes-to_be_bytes_4, from_be_bytes-to_be_bytes_8}
use Rattle.data_set.specs.declared.syntax.Syntax.{Syntax}
use Rattle.data_set.specs.declared.syntax.Syntax.TheVariants.{Implicit, Explicit}
use Rattle.operation.specs.Drafts.{syntax_byte}
use Rattle.operation.specs.RecordTexts.{AreFit, IsFit, IsLeft, value_text, values_text}

-- ---- one value

-- two texts that begin with a number of four bytes begin with the same
word_front : (n m : ℕ) (xs ys : List ℕ) → n < 2 ^ 32 → m < 2 ^ 32 → to_be_bytes w32 n ++ xs ≡ to_be_bytes w32 m ++ ys
    → (n ≡ m) × (xs ≡ ys)
word_front n m xs ys low low' e = (
  sym (from_be_bytes-to_be_bytes_4 n low)
      ∙ ap (from_be_bytes w32) (sym (take-append_seam (to_be_bytes w32 n) xs) ∙ ap (take 4) e
      ∙ take-append_seam (to_be_bytes w32 m) ys)
      ∙ from_be_bytes-to_be_bytes_4 m low',
  sym (drop-append_seam (to_be_bytes w32 n) xs) ∙ ap (drop 4) e ∙ drop-append_seam (to_be_bytes w32 m) ys,
)

-- what two texts have in common that begin with a value and are one
record SameFront (tag tag' : ℕ) (value value' rest rest' : List ℕ) : Type 0 where
  tags : tag ≡ tag'
  values : value ≡ value'
  rests : rest ≡ rest'

same_front : (tag tag' : ℕ) (value value' rest rest' : List ℕ) → IsFit (tag, value) → IsFit (tag', value')
    → value_text tag value ++ rest ≡ value_text tag' value' ++ rest' → SameFront tag tag' value value' rest rest'
same_front tag tag' value value' rest rest' fit fit' e =
    let tags = word_front tag tag' (to_be_bytes w32 (length value) ++ (value ++ rest))
    (to_be_bytes w32 (length value') ++ (value' ++ rest')) fit.0 fit'.0 e in
    let sizes = word_front (length value) (length value') (value ++ rest) (value' ++ rest') fit.1 fit'.1 tags.1 in
    record {
      tags = tags.0;
      values = sym (take-append_seam value rest) ∙ (λ i. take (sizes.0 i) (sizes.1 i)) ∙ take-append_seam value' rest';
      rests = sym (drop-append_seam value rest) ∙ (λ i. drop (sizes.0 i) (sizes.1 i)) ∙ drop-append_seam value' rest';
    }

-- ---- values

-- at first all values are left
pub all_left : (values : List (ℕ × List ℕ)) (text : List ℕ) → AreFit values → text ≡ values_text values
    → IsLeft values [] text
all_left values text fit is = record { others = values; are = refl; text = is; fit = fit }

-- where values are left, one stands at the front
pub front_there : (values got : List (ℕ × List ℕ)) (text : List ℕ) → IsLeft values got text → text ≢ []
    → ((tag : ℕ) (value rest : List ℕ) → tag < 2 ^ 32 → length value < 2 ^ 32
    → text ≢ value_text tag value ++ rest) → ⊥
unfolding values_text
front_there values got text left some none = by left.others left.text left.fit
  where
    by : (others : List (ℕ × List ℕ)) → text ≡ values_text others → AreFit others → ⊥
    by [] is fit = some is
    by (v ∷ vs) is fit = none v.0 v.1 (values_text vs) fit.0.0 fit.0.1 is

-- and behind it the others are left
pub next_left : (values got : List (ℕ × List ℕ)) (tag : ℕ) (value text rest : List ℕ) → tag < 2 ^ 32
    → length value < 2 ^ 32 → text ≡ value_text tag value ++ rest → IsLeft values got text
    → IsLeft values (got ++ (tag, value) ∷ []) rest
unfolding values_text
next_left values got tag value text rest low short is left = by left.others left.are left.text left.fit
  where
    by : (others : List (ℕ × List ℕ)) → values ≡ got ++ others → text ≡ values_text others → AreFit others
        → IsLeft values (got ++ (tag, value) ∷ []) rest
    by [] are spelled fit = absurd cc
    by (v ∷ vs) are spelled fit =
        let same = same_front tag v.0 value v.1 rest (values_text vs) (low, short) fit.0 (sym is ∙ spelled) in record {
          others = vs;
          are = are ∙ ap (λ (w : ℕ × List ℕ). got ++ w ∷ vs) (sym (λ i. (same.tags i, same.values i)))
              ∙ sym (append_assoc got ((tag, value) ∷ []) vs);
          text = same.rests;
          fit = fit.1;
        }

-- where nothing is left all values were read
pub none_left : (values got : List (ℕ × List ℕ)) (text : List ℕ) → text ≡ [] → IsLeft values got text → got ≡ values
unfolding values_text
none_left values got text empty left = by left.others left.are left.text
  where
    by : (others : List (ℕ × List ℕ)) → values ≡ got ++ others → text ≡ values_text others → got ≡ values
    by [] are spelled = sym (are ∙ append-nil got)
    by (v ∷ vs) are spelled = absurd cc

-- ---- digest, transfer syntax and size

-- texts that begin with a digest begin with the same
pub one_digest : (digest other rest behind : List ℕ) → length digest ≡ 32 → length other ≡ 32
    → digest ++ rest ≡ other ++ behind → (digest ≡ other) × (rest ≡ behind)
one_digest digest other rest behind long long' e = (
  sym (take-append_seam digest rest) ∙ (λ i. take ((long ∙ sym long') i) (e i)) ∙ take-append_seam other behind,
  sym (drop-append_seam digest rest) ∙ (λ i. drop ((long ∙ sym long') i) (e i)) ∙ drop-append_seam other behind,
)

-- what stands in front is the transfer syntax and the size
pub record SameNumbers (syntax other : Syntax) (size count : ℕ) (rest behind : List ℕ) : Type 0 where
  pub syntax_is : syntax ≡ other
  pub size_is : size ≡ count
  pub rest_is : rest ≡ behind

one_size : (size count : ℕ) (rest behind : List ℕ) → size < 2 ^ 64 → count < 2 ^ 64
    → to_be_bytes w64 size ++ rest ≡ to_be_bytes w64 count ++ behind → (size ≡ count) × (rest ≡ behind)
one_size size count rest behind low low' e = (
  sym (from_be_bytes-to_be_bytes_8 size low)
      ∙ ap (from_be_bytes w64) (sym (take-append_seam (to_be_bytes w64 size) rest) ∙ ap (take 8) e
      ∙ take-append_seam (to_be_bytes w64 count) behind)
      ∙ from_be_bytes-to_be_bytes_8 count low',
  sym (drop-append_seam (to_be_bytes w64 size) rest) ∙ ap (drop 8) e ∙ drop-append_seam (to_be_bytes w64 count) behind,
)

one_syntax : (syntax other : Syntax) → syntax_byte syntax ≡ syntax_byte other → syntax ≡ other
one_syntax Implicit Implicit e = refl
one_syntax Implicit Explicit e = absurd (omega (arith, e))
one_syntax Explicit Implicit e = absurd (omega (arith, e))
one_syntax Explicit Explicit e = refl

pub same_numbers : (syntax other : Syntax) (size count : ℕ) (rest behind : List ℕ) → size < 2 ^ 64 → count < 2 ^ 64
    → syntax_byte syntax ∷ (to_be_bytes w64 size ++ rest) ≡ syntax_byte other ∷ (to_be_bytes w64 count ++ behind)
    → SameNumbers syntax other size count rest behind
same_numbers syntax other size count rest behind low low' e =
    let first : syntax_byte syntax ≡ syntax_byte other = cc in
    let tail : to_be_bytes w64 size ++ rest ≡ to_be_bytes w64 count ++ behind = ap (drop 1) e in
    let sizes = one_size size count rest behind low low' tail in
    record { syntax_is = one_syntax syntax other first; size_is = sizes.0; rest_is = sizes.1 }
