-- Bytes that are held back, one after another.
use Rattle.std.proofs.Common.{◌≡◌, ◌<◌, ◌≤◌, ◌+◌, ℕ, zero, suc, List, [], ◌∷◌, ◌++◌, length, take, drop, get_or, Option}
use Rattle.std.proofs.Common.{Result, Ok, Err, refl, sym, ap, subst, ◌∙◌, append_assoc, append-nil, arith}
use Rattle.std.specs.Prelude.{OnOk, OnErr}
use Rattle.std.specs.List.{flat_map}
use Rattle.std.specs.Io.KnownBytes.{Appends}
use Rattle.std.proofs.lemmas.Grind.{flat_map-append}
use Rattle.std.proofs.lemmas.List.{take-append-drop, take_all}
use Rattle.pdu.specs.declared.pdv.Pdv.{Pdv}
use Rattle.pdu.specs.declared.value.Pdu.TheVariants.{PData}
use Rattle.pdu.specs.Spelling.{data_head, pdv_text, text_of}
use Rattle.association_session.specs.Projections.{IsFront}
use Rattle.association_run.specs.inner.Outbox.{Puts, PutsFront}
use Rattle.association_run.proofs.Fronts.{further, front_behind, front_more}

pub on_ok_map : {X E : Type 0} (r : Result X E) (A B : Type 0) → (A → B) → OnOk r A → OnOk r B
on_ok_map (Ok x) A B to p = to p
on_ok_map (Err e) A B to p = tt

pub on_err_map : {X E : Type 0} (r : Result X E) (A B : Type 0) → (A → B) → OnErr r A → OnErr r B
on_err_map (Ok x) A B to p = tt
on_err_map (Err e) A B to p = to p

-- the bytes of two puts, behind what was held
both_put : (held b1 x y out : List ℕ) → out ++ b1 ≡ held ++ x → out ++ (b1 ++ y) ≡ held ++ (x ++ y)
both_put held b1 x y out is = sym (append_assoc out b1 y) ∙ ap (λ (t : List ℕ). t ++ y) is ∙ append_assoc held x y

pub puts_then : (w0 w1 w2 : Option (List ℕ)) (b0 b1 b2 x y : List ℕ) → Puts w0 b0 w1 b1 x → Puts w1 b1 w2 b2 y
    → Puts w0 b0 w2 b2 (x ++ y)
puts_then w0 w1 w2 b0 b1 b2 x y p q = (
  p.0 ++ q.0,
  further w0 w1 w2 p.0 q.0 p.1 q.1,
  append_assoc p.0 q.0 b2 ∙ ap (λ (t : List ℕ). p.0 ++ t) q.2
      ∙ both_put b0 b1 x y p.0 p.2,
)

pub puts_broke : (w0 w1 w2 : Option (List ℕ)) (b0 b1 x y : List ℕ) → Puts w0 b0 w1 b1 x → PutsFront w1 b1 w2 y
    → PutsFront w0 b0 w2 (x ++ y)
puts_broke w0 w1 w2 b0 b1 x y p q = (
  p.0 ++ q.0,
  further w0 w1 w2 p.0 q.0 p.1 q.1,
  subst (λ (t : List ℕ). IsFront (p.0 ++ q.0) t) (both_put b0 b1 x y p.0 p.2) (front_behind p.0 q.0 (b1 ++ y) q.2),
)

-- A front of some bytes is a front of more.
pub broke_more : (w0 w1 : Option (List ℕ)) (b0 x y : List ℕ) → PutsFront w0 b0 w1 x → PutsFront w0 b0 w1 (x ++ y)
broke_more w0 w1 b0 x y p = (
  p.0,
  p.1,
  subst (λ (t : List ℕ). IsFront p.0 t) (append_assoc b0 x y)
      (front_more p.0 (b0 ++ x) y p.2),
)

-- All that was held was written.
pub flushed_puts : (w0 w1 : Option (List ℕ)) (b0 b1 : List ℕ) → b1 ≡ [] → Appends w0 w1 b0 → Puts w0 b0 w1 b1 []
flushed_puts w0 w1 b0 b1 none p = (b0, p, ap (λ (t : List ℕ). b0 ++ t) none)

-- So were some bytes behind it.
pub written_puts : (w0 w1 w2 : Option (List ℕ)) (b0 b1 x : List ℕ) → b1 ≡ [] → Appends w0 w1 b0 → Appends w1 w2 x
    → Puts w0 b0 w2 b1 x
written_puts w0 w1 w2 b0 b1 x none p q = (
  b0 ++ x,
  further w0 w1 w2 b0 x p q,
  ap (λ (t : List ℕ). (b0 ++ x) ++ t) none
      ∙ append-nil (b0 ++ x),
)

-- a P-DATA-TF is its header and its values
pub data_text : (values : List Pdv) → data_head values ++ flat_map pdv_text values ≡ text_of (PData values)
unfolding text_of
data_text values = refl

texts_more : {A : Type 0} (f : A → List ℕ) (xs : List A) (i : ℕ) (x : A) → i < length xs → x ≡ get_or xs i x
    → flat_map f (take i xs) ++ f x ≡ flat_map f (take (suc i) xs)
texts_more f [] i x lt is = absurd (omega (arith, lt))
texts_more f (y ∷ ys) zero x lt is = ap f is ∙ sym (append-nil (f y))
texts_more f (y ∷ ys) (suc i) x lt is = append_assoc (f y) (flat_map f (take i ys)) (f x)
    ∙ ap (λ (t : List ℕ). f y ++ t) (texts_more f ys i x (omega (arith, lt)) is)

-- the text of one more, behind those of the first
text_put : {A : Type 0} (f : A → List ℕ) (base : List ℕ) (xs : List A) (i : ℕ) (x : A) → i < length xs
    → x ≡ get_or xs i x → (base ++ flat_map f (take i xs)) ++ f x ≡ base ++ flat_map f (take (i + 1) xs)
text_put f base xs i x lt is =
    let next : suc i ≡ i + 1 = omega arith in
    append_assoc base (flat_map f (take i xs)) (f x) ∙ ap (λ (t : List ℕ). base ++ t) (texts_more f xs i x lt is)
    ∙ ap (λ (n : ℕ). base ++ flat_map f (take n xs)) next

-- Of the header a front was put.
pub broke_data : (w0 w1 : Option (List ℕ)) (b0 : List ℕ) (values : List Pdv) → PutsFront w0 b0 w1 (data_head values)
    → PutsFront w0 b0 w1 (text_of (PData values))
broke_data w0 w1 b0 values p = subst (λ (t : List ℕ). PutsFront w0 b0 w1 t) (data_text values)
    (broke_more w0 w1 b0 (data_head values) (flat_map pdv_text values) p)

-- the values so far, one more, and those behind it
all_values : (values : List Pdv) (i : ℕ) (v : Pdv) → i < length values → v ≡ get_or values i v
    → (data_head values ++ flat_map pdv_text (take i values)) ++ pdv_text v ≡ data_head values ++ flat_map pdv_text
    (take (i + 1) values)
all_values values i v lt is = text_put pdv_text (data_head values) values i v lt is

-- A value more was put.
pub put_value : (w0 w1 w2 : Option (List ℕ)) (b0 b1 b2 : List ℕ) (values : List Pdv) (i : ℕ) (v : Pdv)
    → i < length values → v ≡ get_or values i v
    → Puts w0 b0 w1 b1 (data_head values ++ flat_map pdv_text (take i values)) → Puts w1 b1 w2 b2 (pdv_text v)
    → Puts w0 b0 w2 b2 (data_head values ++ flat_map pdv_text (take (i + 1) values))
put_value w0 w1 w2 b0 b1 b2 values i v lt is p q =
    subst (λ (t : List ℕ). Puts w0 b0 w2 b2 t) (all_values values i v lt is)
    (puts_then w0 w1 w2 b0 b1 b2 (data_head values ++ flat_map pdv_text (take i values)) (pdv_text v) p q)

-- Of a value a front was put.
pub broke_value : (w0 w1 w2 : Option (List ℕ)) (b0 b1 : List ℕ) (values : List Pdv) (i : ℕ) (v : Pdv)
    → i < length values → v ≡ get_or values i v
    → Puts w0 b0 w1 b1 (data_head values ++ flat_map pdv_text (take i values)) → PutsFront w1 b1 w2 (pdv_text v)
    → PutsFront w0 b0 w2 (text_of (PData values))
broke_value w0 w1 w2 b0 b1 values i v lt is p q =
    let so_far = puts_broke w0 w1 w2 b0 b1 (data_head values ++ flat_map pdv_text (take i values)) (pdv_text v) p q in
    let here = subst (λ (t : List ℕ). PutsFront w0 b0 w2 t) (all_values values i v lt is) so_far in
    let more = broke_more w0 w2 b0 (data_head values ++ flat_map pdv_text (take (i + 1) values))
    (flat_map pdv_text (drop (i + 1) values)) here in
    subst (λ (t : List ℕ). PutsFront w0 b0 w2 t)
    (append_assoc (data_head values) (flat_map pdv_text (take (i + 1) values))
    (flat_map pdv_text (drop (i + 1) values)) ∙ ap (λ (t : List ℕ). data_head values ++ t)
    (sym (flat_map-append pdv_text (take (i + 1) values) (drop (i + 1) values))
    ∙ ap (λ (t : List Pdv). flat_map pdv_text t) (take-append-drop (i + 1) values)) ∙ data_text values) more

-- All were put.
pub put_all_values : (w0 w1 : Option (List ℕ)) (b0 b1 : List ℕ) (values : List Pdv) (i : ℕ) → length values ≤ i
    → Puts w0 b0 w1 b1 (data_head values ++ flat_map pdv_text (take i values))
    → Puts w0 b0 w1 b1 (text_of (PData values))
put_all_values w0 w1 b0 b1 values i end p =
    subst (λ (t : List ℕ). Puts w0 b0 w1 b1 t) (ap (λ (t : List Pdv). data_head values ++ flat_map pdv_text t)
    (take_all i values end) ∙ data_text values) p
