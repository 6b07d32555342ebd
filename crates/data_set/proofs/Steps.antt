-- One step more, and the steps of bodies.
use Rattle.std.proofs.Common.{inl, inr, ◌≡◌, ℕ, zero, suc, ◌-◌, Bool, true, false, List, [], ◌∷◌, ◌++◌, take, drop}
use Rattle.std.proofs.Common.{Option, Some, None, Ok, Err, refl, sym, ap, subst, arith}
use Rattle.std.specs.Prelude.{◌==◌}
use Rattle.std.proofs.lemmas.Bool.{eqb-true}
use Rattle.data_set.specs.declared.fault.SetFault.{SetFault}
use Rattle.data_set.specs.declared.syntax.Syntax.{Syntax}
use Rattle.data_set.specs.declared.header.Front.{Front}
use Rattle.data_set.specs.declared.header.Closing.{Closing}
use Rattle.data_set.specs.declared.header.Closing.TheVariants.{Filled, End}
use Rattle.octets.specs.Gives.{Told, ◌>>=◌}
use Rattle.octets.proofs.ByteLaws.{told_map}
use Rattle.data_set.specs.Fault.{is_memory}
use Rattle.data_set.specs.Tree.{Tree, leaf, node, rows_of}
use Rattle.data_set.specs.Tags.{item_end, sequence_end}
use Rattle.data_set.specs.Vr.{undefined_length}
use Rattle.data_set.specs.Header.{end_at, front_at, item_at}
use Rattle.data_set.specs.Spelling.{Begins, BeginsItem}
use Rattle.data_set.specs.Texts.{Body, Elements, Given, IsElement, IsItem, Items, Takes}

pub takes_push : {X : Type 0} (One : Option ℕ → List ℕ → Given X → Type 0) (next : X → Option ℕ) (closing : Closing)
    (previous : Option ℕ) (text : List ℕ) (xs : List X) (last : Option ℕ) (rest : List ℕ) (x : X) (after : List ℕ)
    → Takes One next closing previous text xs last rest → end_at closing rest ≡ None → One last rest (Ok (x, after))
    → Takes One next closing previous text (xs ++ x ∷ []) (next x) after
takes_push One next closing previous text [] last rest x after takes more one = (
  after,
  subst (λ (t : List ℕ). end_at closing t ≡ None) takes.1 more,
  subst (λ (p : Option ℕ). One p text (Ok (x, after))) takes.0 (subst (λ (t : List ℕ). One last t (Ok (x, after)))
      takes.1 one),
  (refl, refl),
)
takes_push One next closing previous text (y ∷ xs) last rest x after takes more one =
    (takes.0, takes.1, takes.2, takes_push One next closing (next y) takes.0 xs last rest x after takes.3 more one)

same_result : {X : Type 0} (r : Given X) → r ≡ (r >>= λ x. Ok (x.0, x.1))
same_result (Ok x) = refl
same_result (Err f) = refl

-- up to its end
pub body_open : {X : Type 0} (Run : Closing → List ℕ → Given X → Type 0) (tag size : ℕ) (text : List ℕ) (r : Given X)
    → size ≡ undefined_length → Run (End tag) text r → Body Run tag size text r
body_open Run tag size text r is run =
    let test : (size == undefined_length) ≡ true = ap (λ (n : ℕ). n == undefined_length) is in
    rw test (r, run, same_result r)

other : (b : Bool) (P : Type 0) → (P → ⊥) → (b ≡ true → P) → b ≡ false
other true P differs equal = absurd (differs (equal refl))
other false P differs equal = refl

-- of a length
pub body_filled : {X : Type 0} (Run : Closing → List ℕ → Given X → Type 0) (tag size : ℕ) (text place after : List ℕ)
    (inside : Given X) → (size ≡ undefined_length → ⊥) → place ≡ take size text → after ≡ drop size text
    → Run Filled place inside → Body Run tag size text (inside >>= λ x. Ok (x.0, after))
body_filled Run tag size text place after inside not_is p q run =
    let test : (size == undefined_length) ≡ false = other (size == undefined_length) (size ≡ undefined_length)
    not_is (eqb-true size undefined_length) in
    rw (test, sym p, q) (inside, run, refl)

pred_suc : (m : ℕ) → m ≡ suc m - 1
pred_suc m = omega arith

pub item_step : (n : ℕ) (syntax : Syntax) (previous : Option ℕ) (text : List ℕ) (size : ℕ) (rest : List ℕ)
    (r : Given (List Tree)) → BeginsItem n text size rest → Body (Elements (n - 1) syntax) item_end size rest r
    → IsItem n syntax previous text r
item_step zero syntax previous text size rest r begins body = absurd (omega (arith, begins.deep))
item_step (suc m) syntax previous text size rest (Ok x) begins body =
    (size, rest, begins, subst (λ (k : ℕ). Body (Elements k syntax) item_end size rest (Ok x)) (sym (pred_suc m)) body)
item_step (suc m) syntax previous text size rest (Err f) begins body =
    inr (
      size,
      rest,
      begins,
      subst (λ (k : ℕ). Body (Elements k syntax) item_end size rest (Err f)) (sym (pred_suc m))
          body,
    )

pub element_step : (n : ℕ) (syntax : Syntax) (previous : Option ℕ) (text : List ℕ) (front : Front) (rest : List ℕ)
    (inner : Syntax) (r : Given (List (List Tree))) → Begins syntax previous text front rest → front.inner ≡ Some inner
    → Body (Items n inner) sequence_end front.size rest r → IsElement n syntax previous
    text (r >>= λ x. Ok (node front.tag front.vr (rows_of x.0), x.1))
element_step n syntax previous text front rest inner (Ok x) begins is body =
    (front, rest, begins, rw is (Ok x, body, refl))
element_step n syntax previous text front rest inner (Err f) begins is body =
    inr (front, rest, begins, rw is (Err f, body, refl))

pub value_step : (n : ℕ) (syntax : Syntax) (previous : Option ℕ) (text : List ℕ) (front : Front)
    (rest value after : List ℕ) → Begins syntax previous text front rest → front.inner ≡ None → value ≡ take front.size
    rest → after ≡ drop front.size rest
    → IsElement n syntax previous text (Ok (leaf front.tag front.vr value, after))
value_step n syntax previous text front rest value after begins is p q = (front, rest, begins, rw (is, p, q) refl)

pub element_head : (n : ℕ) (syntax : Syntax) (previous : Option ℕ) (text : List ℕ) (e : SetFault)
    → Told is_memory e (λ f. front_at syntax previous text ≡ Err f)
    → Told is_memory e (λ f. IsElement n syntax previous text (Err f))
element_head n syntax previous text e told = told_map is_memory e (λ f. front_at syntax previous text ≡ Err f)
    (λ f. IsElement n syntax previous text (Err f)) (λ is. inl is) told

pub item_head : (n : ℕ) (syntax : Syntax) (previous : Option ℕ) (text : List ℕ) (e : SetFault)
    → Told is_memory e (λ f. item_at n text ≡ Err f) → Told is_memory e (λ f. IsItem n syntax previous text (Err f))
item_head zero syntax previous text e told = told_map is_memory e (λ f. item_at zero text ≡ Err f)
    (λ f. IsItem zero syntax previous text (Err f)) (λ is. inl is) told
item_head (suc n) syntax previous text e told = told_map is_memory e (λ f. item_at (suc n) text ≡ Err f)
    (λ f. IsItem (suc n) syntax previous text (Err f)) (λ is. inl is) told
