-- What reading a text comes to, and what a function that reads it may give.
use Rattle.std.specs.Prelude.{◌≡◌, Bool, Result, Ok, Err, MatchBool}

-- one reading after another: the first fault that is met stays
infixl 10 ◌>>=◌
abbrev pub ◌>>=◌ : {F A B : Type 0} → Result A F → (A → Result B F) → Result B F
(Ok x) >>= f = f x
(Err e) >>= f = Err e

-- Want of memory is no fault of the text; any other error is told of it.
abbrev pub Told : {F : Type 0} → (F → Bool) → F → (F → Type 0) → Type 0
Told is_memory fault Is = MatchBool (is_memory fault) (Unit {0}) (Is fault)

-- The value that a function gave, seen by view, or its fault, is what reading comes to, unless memory ran out.
abbrev pub Tells : {F X Y : Type 0} → (F → Bool) → (X → Y) → Result X F → (Result Y F → Type 0) → Type 0
Tells is_memory view (Ok x) Is = Is (Ok (view x))
Tells is_memory view (Err e) Is = Told is_memory e (λ f. Is (Err f))

-- A function gave what reading comes to, unless memory ran out.
abbrev pub Gives : {F X Y : Type 0} → (F → Bool) → (X → Y) → Result X F → Result Y F → Type 0
Gives is_memory view given read = Tells is_memory view given (λ r. read ≡ r)
