-- Entries and operations.
use Rattle.std.proofs.Common.{◌≡◌, ◌++◌, ◌∷◌, ◌<◌, ◌+◌, zero, suc, take, get_or, take-suc, cond, Bool, true, false}
use Rattle.std.proofs.Common.{filter, length, map, All, Any, Contains, IsPermutation, refl, sym, subst, ◌∙◌, arith, ap}
use Rattle.std.proofs.Common.{ap₂, List, [], ℕ, inl, inr, not}
use Rattle.std.proofs.lemmas.Bool.{cases_Bool}
use Rattle.std.specs.Ordering.{is_eq}
use Rattle.std.proofs.lemmas.List.Sorted.{IsPermutation-sym, Contains-permutation, length_permutation}
use Rattle.std.proofs.lemmas.List.Elements.{All-push}
use Rattle.sqlite.specs.Order.{Row, column, value_cmp}
use Rattle.sqlite.specs.declared.types.Value.TheVariants.{Blob, Text}
use Rattle.hex.specs.Hex.{encode_lower}
use Rattle.sha2.specs.Sha256.{sha256}
use Rattle.operation.specs.declared.op.Op.{Op}
use Rattle.operation.specs.Spelling.{spelling, hash_of}
use Rattle.op_shelf.specs.Entries.{IsWhole, entry_by, entry_of, digest_text}
use Rattle.op_shelf.specs.States.{among, apart}

-- what is spelled alike has one digest
pub digest_texts : (a b : Op) → spelling a ≡ spelling b → digest_text a ≡ digest_text b
unfolding hash_of
digest_texts a b same = ap (λ text. encode_lower (sha256 text)) same

-- and one entry
pub same_entry : (a b : Op) → spelling a ≡ spelling b → entry_of a ≡ entry_of b
same_entry a b same = ap₂ entry_by (digest_texts a b same) same

-- the body of an entry is a spelling
pub body_of : (entry : Row) (op : Op) (body : List ℕ) → entry ≡ entry_of op → column entry 2 ≡ Blob body
    → body ≡ spelling op
body_of entry op body is held = let both : Blob body ≡ Blob (spelling op) = sym held ∙ ap (λ e. column e 2) is in cc

-- one more operation is that of one more entry
pub entries_more : (ops : List Op) (op : Op) (seen : List Row) (entry : Row) → map entry_of ops ≡ seen
    → entry ≡ entry_of op → map entry_of (ops ++ op ∷ []) ≡ seen ++ entry ∷ []
entries_more [] op seen entry all is = subst (λ (xs : List Row). entry_of op ∷ [] ≡ xs ++ entry ∷ [])
    all (ap (λ e. e ∷ []) (sym is))
entries_more (x ∷ ops) op seen entry all is = subst (λ (xs : List Row). map entry_of ((x ∷ ops) ++ op ∷ []) ≡ xs
    ++ entry ∷ []) all (ap (λ xs. entry_of x ∷ xs) (entries_more ops op (map entry_of ops) entry refl is))

-- a bad one among rows is one among those that they are a permutation of
pub any_in : {X : Type 0} (P : X → Type 0) (xs ys : List X) → IsPermutation xs ys → Any P ys → Any P xs
any_in P xs ys same any =
    let found : Contains xs any.1 = Contains-permutation ys xs any.1 (IsPermutation-sym xs ys same)
    (any.0, any.2, any.3) in
    (found.0, any.1, found.1, found.2, any.4)

pub none_in : {X : Type 0} (xs ys : List X) → IsPermutation xs ys → ys ≡ [] → xs ≡ []
none_in [] ys same none = refl
none_in (x ∷ xs) ys same none = absurd (omega (arith, length_permutation (x ∷ xs) ys same, ap length none))

pub first_is : {X : Type 0} (x : X) (ys : List X) → 0 < length ys → All (λ y. y ≡ x) ys → Contains ys x
first_is x ys some all = (0, some, all 0 x some)

-- what a test lets through was there
pub kept_was : {X : Type 0} (p : X → Bool) (xs : List X) (x : X) → Contains (filter p xs) x → Contains xs x
kept_was p [] x h = h
kept_was p (y ∷ ys) x h = step (p y) h (kept_was p ys x)
  where
    later : Contains ys x → Contains (y ∷ ys) x
    later found = (suc found.0, omega (arith, found.1), found.2)

    step : (b : Bool) → Contains (cond b (y ∷ filter p ys) (filter p ys)) x → (Contains (filter p ys) x → Contains ys x)
        → Contains (y ∷ ys) x
    step true (zero, low, at) rest = (0, omega arith, at)
    step true (suc k, low, at) rest = later (rest (k, omega (arith, low), at))
    step false found rest = later (rest found)

-- what was there, and passes a test, is still there
pub still_there : {X : Type 0} (p : X → Bool) (xs : List X) (x : X) → p x ≡ true → Contains xs x → Contains (filter p xs) x
still_there p [] x passes found = found
still_there {X = X} p (y ∷ ys) x passes (zero, low, at) = step (p y) (subst (λ (z : X). p z ≡ true) (sym at) passes)
  where
    step : (b : Bool) → b ≡ true → Contains (cond b (y ∷ filter p ys) (filter p ys)) x
    step true e = (0, omega arith, at)
    step false e = absurd cc
still_there p (y ∷ ys) x passes (suc k, low, at) =
    step (p y) (still_there p ys x passes (k, omega (arith, low), at))
  where
    step : (b : Bool) → Contains (filter p ys) x → Contains (cond b (y ∷ filter p ys) (filter p ys)) x
    step true found = (suc found.0, omega (arith, found.1), found.2)
    step false found = found

-- what holds of each of some holds of one of them
pub all_at : {X : Type 0} (P : X → Type 0) (xs : List X) (x : X) → All P xs → Contains xs x → P x
all_at P xs x all (i, low, at) = subst P at (all i x low)

-- the entry of an operation has the bytes of its digest
pub whole_entry : (op : Op) → IsWhole (entry_of op)
unfolding hash_of
whole_entry op = (spelling op, refl)

-- what has the bytes of its digest is not under one where nothing has
pub still_apart : (digest : List ℕ) (all : List Row) (entry : Row) → All (λ e. ¬ IsWhole e) (among digest all)
    → IsWhole entry → Contains all entry → Contains (apart digest all) entry
still_apart digest all entry spoiled whole held =
    elim (cases_Bool (is_eq (value_cmp (column entry 0) (Text digest)))) [
      | inl here ↦ absurd (all_at (λ e. ¬ IsWhole e) (among digest all) entry spoiled
          (still_there (λ e. is_eq (value_cmp (column e 0) (Text digest))) all entry here held) whole)
      | inr away ↦ still_there (λ e. not (is_eq (value_cmp (column e 0) (Text digest)))) all entry (ap not away) held
    ]

-- one more of those so far
pub all_upto : {X : Type 0} (P : X → Type 0) (xs : List X) (i : ℕ) (x : X) → i < length xs → x ≡ get_or xs i x → P x
    → All P (take i xs) → All P (take (i + 1) xs)
all_upto P xs i x low at p all =
    let step : i + 1 ≡ suc i = omega arith in
    let is : take (i + 1) xs ≡ take i xs ++ x ∷ [] = ap (λ n. take n xs) step ∙ take-suc xs i x low
    ∙ ap (λ y. take i xs ++ y ∷ []) (sym at) in
    subst (All P) (sym is) (All-push P (take i xs) x all p)
