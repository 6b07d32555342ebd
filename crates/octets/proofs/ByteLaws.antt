-- Laws on bytes and on readings, for every codec.
use Rattle.std.proofs.Common.{◌≡◌, ℕ, zero, suc, ◌+◌, ◌<◌, Bool, true, false, cond, List, [], ◌∷◌, drop, Result, Ok}
use Rattle.std.proofs.Common.{Err, refl, arith}
use Rattle.std.specs.Prelude.{MatchBool}
use Rattle.std.proofs.lemmas.List.{get_or-drop}
use Rattle.octets.specs.Bytes.{IsBytes}
use Rattle.octets.specs.Gives.{◌>>=◌, Told, Tells}

pub IsBytes-drop : (n : ℕ) (bytes : List ℕ) → IsBytes bytes → IsBytes (drop n bytes)
IsBytes-drop n bytes h i = rw get_or-drop (h (n + i))

pub IsBytes-tail : (b : ℕ) (bytes : List ℕ) → IsBytes (b ∷ bytes) → IsBytes bytes
IsBytes-tail b bytes h i = h (suc i)

-- four bytes, one by one
pub IsBytes-four : (a b c d : ℕ) → a < 256 → b < 256 → c < 256 → d < 256 → IsBytes (a ∷ b ∷ c ∷ d ∷ [])
IsBytes-four a b c d p q r s zero = p
IsBytes-four a b c d p q r s (suc zero) = q
IsBytes-four a b c d p q r s (suc (suc zero)) = r
IsBytes-four a b c d p q r s (suc (suc (suc zero))) = s
IsBytes-four a b c d p q r s (suc (suc (suc (suc i)))) = omega arith

pub IsBytes-two : (a b : ℕ) → a < 256 → b < 256 → IsBytes (a ∷ b ∷ [])
IsBytes-two a b p q zero = p
IsBytes-two a b p q (suc zero) = q
IsBytes-two a b p q (suc (suc i)) = omega arith

-- what comes to a value came to one before
pub bind_ok : {F A B : Type 0} (r : Result A F) (f : A → Result B F) (y : B) → (r >>= f) ≡ Ok y → (x : A) × (r ≡ Ok x)
    × (f x ≡ Ok y)
bind_ok (Ok x) f y e = (x, refl, e)
bind_ok (Err d) f y e = absurd cc

-- a test that was passed on the way to a value
pub guard_ok : {F A : Type 0} (b : Bool) (d : F) (x y : A) → cond b (Err d) (Ok x) ≡ Ok y → (b ≡ false) × (x ≡ y)
guard_ok true d x y e = absurd cc
guard_ok false d x y e = (refl, cc)

pub guard_end : {F A : Type 0} (b : Bool) (d : F) (x y : A) → cond b (Ok x) (Err d) ≡ Ok y → (b ≡ true) × (x ≡ y)
guard_end true d x y e = (refl, cc)
guard_end false d x y e = absurd cc

abbrev pub done : (F : Type 0) {A : Type 0} → A → Result A F
done F x = Ok x

pub ok_is : (F : Type 0) {A : Type 0} (x y : A) → done F x ≡ done F y → x ≡ y
ok_is F x y e = cc

-- what is told of a fault is told in other words
pub told_map : {F : Type 0} (is_memory : F → Bool) (e : F) (P Q : F → Type 0) → (P e → Q e) → Told is_memory e P
    → Told is_memory e Q
told_map is_memory e P Q m told = by_test (is_memory e) (P e) (Q e) m told
  where
    by_test : (b : Bool) (P Q : Type 0) → (P → Q) → MatchBool b (Unit {0}) P → MatchBool b (Unit {0}) Q
    by_test true P Q m h = tt
    by_test false P Q m h = m h

pub tells_map : {F X Y : Type 0} (is_memory : F → Bool) (view : X → Y) (r : Result X F) (P Q : Result Y F → Type 0)
    → ((y : Result Y F) → P y → Q y) → Tells is_memory view r P → Tells is_memory view r Q
tells_map is_memory view (Ok x) P Q m told = m (Ok (view x)) told
tells_map is_memory view (Err e) P Q m told = told_map is_memory e (λ f. P (Err f)) (λ f. Q (Err f)) (m (Err e)) told
