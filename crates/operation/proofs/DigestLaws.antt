-- The digest of an operation is the hash of its spelling.
use Rattle.std.proofs.Common.{◌≡◌, ◌<◌, ◌%◌, ℕ, zero, suc, List, [], ◌∷◌, ◌++◌, length, refl, ap, ◌∙◌, arith}
use Rattle.std.specs.Prelude.{slice_index}
use Rattle.std.specs.Int.{w32, to_be_bytes}
use Rattle.octets.specs.Bytes.{IsBytes}
use Rattle.octets.proofs.ByteLaws.{IsBytes-four, IsBytes-tail}
use Rattle.std.specs.Coded.{Coded-set}
use Rattle.std.proofs.Math.Logic.{∥∥₁_elim}
use Rattle.sha2.specs.Sha256.{digest_bytes, sha256}
use Rattle.sha2.proofs.Facts256.{length-sha256}
use Rattle.operation.specs.Code.{text_code}
use Rattle.operation.specs.Contents.{IsContent, draft_of}
use Rattle.operation.specs.Drafts.{as_digest, bytes_of, digest_of_draft}
use Rattle.operation.specs.Parts.{ContentParts}
use Rattle.operation.specs.Reading.{IsOp}
use Rattle.operation.specs.Spelling.{digest_of, hash_of, spelling}
use Rattle.operation.specs.declared.op.Op.{Op}
use Rattle.operation.specs.declared.op.Op.TheVariants.{Content as a_content, Correction as a_correction}

-- ---- 32 bytes

bytes_long : (n : ℕ) (numbers : List ℕ) → length (bytes_of n numbers) ≡ n
bytes_long zero numbers = refl
bytes_long (suc n) [] = ap suc (bytes_long n [])
bytes_long (suc n) (b ∷ numbers) = ap suc (bytes_long n numbers)

bytes_fit : (n : ℕ) (numbers : List ℕ) → IsBytes (bytes_of n numbers)
bytes_fit zero numbers i = omega arith
bytes_fit (suc n) [] zero = omega arith
bytes_fit (suc n) [] (suc i) = bytes_fit n [] i
bytes_fit (suc n) (b ∷ numbers) zero = omega arith
bytes_fit (suc n) (b ∷ numbers) (suc i) = bytes_fit n numbers i

bytes_are : (n : ℕ) (numbers : List ℕ) → length numbers ≡ n → IsBytes numbers → bytes_of n numbers ≡ numbers
bytes_are zero [] long fits = refl
bytes_are zero (b ∷ numbers) long fits = absurd (omega (arith, long))
bytes_are (suc n) [] long fits = absurd (omega (arith, long))
bytes_are (suc n) (b ∷ numbers) long fits =
    let low : b < 256 = fits 0 in
    let same : b % 256 ≡ b = omega (arith, low) in
    let more : length numbers ≡ n = omega (arith, long) in
    ap (λ (k : ℕ). k ∷ bytes_of n numbers) same
    ∙ ap (λ (ks : List ℕ). b ∷ ks) (bytes_are n numbers more (IsBytes-tail b numbers fits))

-- 32 bytes are a digest as they are
pub digest_is : (digest : List ℕ) → length digest ≡ 32 → IsBytes digest → as_digest digest ≡ digest
unfolding as_digest
digest_is digest long fits = bytes_are 32 digest long fits

as_long : (digest : List ℕ) → length (as_digest digest) ≡ 32
unfolding as_digest
as_long digest = bytes_long 32 digest

as_bytes : (digest : List ℕ) → IsBytes (as_digest digest)
unfolding as_digest
as_bytes digest = bytes_fit 32 digest

-- and so is a digest
pub digest_again : (digest : List ℕ) → as_digest (as_digest digest) ≡ as_digest digest
digest_again digest = digest_is (as_digest digest) (as_long digest) (as_bytes digest)

joined_bytes : (xs ys : List ℕ) → IsBytes xs → IsBytes ys → IsBytes (xs ++ ys)
joined_bytes [] ys a b i = b i
joined_bytes (x ∷ xs) ys a b zero = a 0
joined_bytes (x ∷ xs) ys a b (suc i) = joined_bytes xs ys (IsBytes-tail x xs a) b i

word_bytes : (n : ℕ) → IsBytes (to_be_bytes w32 n)
word_bytes n = IsBytes-four _ _ _ _ (omega arith) (omega arith) (omega arith) (omega arith)

words_bytes : (h : List ℕ) (n : ℕ) → IsBytes (digest_bytes h n)
unfolding digest_bytes
words_bytes h zero = λ i. omega arith
words_bytes h (suc n) =
    joined_bytes (digest_bytes h n) (to_be_bytes w32 (slice_index h n)) (words_bytes h n) (word_bytes (slice_index h n))

hash_bytes : (text : List ℕ) → IsBytes (sha256 text)
unfolding sha256
hash_bytes text = words_bytes _ 8

-- a hash is a digest
hash_is : (text : List ℕ) → as_digest (sha256 text) ≡ sha256 text
hash_is text = digest_is (sha256 text) (length-sha256 text) (hash_bytes text)

-- ---- of operations

-- a content has that of its draft
pub content_digest : (c : ContentParts) → IsContent c → c.digest ≡ digest_of_draft (draft_of c)
content_digest c is = ∥∥₁_elim is (Coded-set text_code c.digest (digest_of_draft (draft_of c))) (λ d. d.1.digest)

pub own_digest : (op : Op) → IsOp op → digest_of op ≡ hash_of op
unfolding digest_of digest_of_draft hash_of spelling
own_digest (a_content c) is = ap as_digest (content_digest c is) ∙ hash_is _
own_digest (a_correction k) is = refl

-- it has 32 bytes
pub digest_long : (op : Op) → length (digest_of op) ≡ 32
unfolding digest_of
digest_long (a_content c) = as_long c.digest
digest_long (a_correction k) = length-sha256 _

pub digest_is_bytes : (op : Op) → IsBytes (digest_of op)
unfolding digest_of
digest_is_bytes (a_content c) = as_bytes c.digest
digest_is_bytes (a_correction k) = hash_bytes _

-- the hash of a content is that of its draft
pub draft_hash : (c : ContentParts) → digest_of_draft (draft_of c) ≡ hash_of (a_content c)
unfolding digest_of_draft hash_of spelling
draft_hash c = refl
