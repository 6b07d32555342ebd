-- What is read is spelled so, and what is spelled so is read.
use Rattle.std.proofs.Common.{◌≡◌, ℕ, zero, suc, ◌-◌, ◌^◌, ◌<◌, Bool, true, false, cond, ltb, eqb, List, [], ◌∷◌, ◌++◌}
use Rattle.std.proofs.Common.{length, take, drop, Result, Ok, Err, refl, sym, ap, subst, ◌∙◌, append_assoc, arith}
use Rattle.std.specs.Prelude.{IfOk, if◌then◌else◌}
use Rattle.std.specs.Int.{w16, w32, w64, from_be_bytes, to_be_bytes}
use Rattle.std.proofs.lemmas.Bool.{ltb-false, le-ltb, eqb-true}
use Rattle.std.proofs.lemmas.List.{take_at, drop_at, take-append-drop, length-append, length-take}
use Rattle.std.proofs.lemmas.Nat.{be_bytes_2, be_bytes_4, be_bytes_8, from_be_bytes-to_be_bytes_2}
use Rattle.std.proofs.lemmas.Nat.{from_be_bytes-to_be_bytes_4, from_be_bytes-to_be_bytes_8}
use Rattle.octets.specs.Bytes.{IsBytes}
use Rattle.octets.specs.Gives.{◌>>=◌}
use Rattle.octets.proofs.ByteLaws.{IsBytes-drop, IsBytes-two, IsBytes-four, bind_ok, guard_ok, guard_end, ok_is}
use Rattle.data_set.specs.declared.syntax.Syntax.{Syntax}
use Rattle.data_set.specs.declared.syntax.Syntax.TheVariants.{Implicit, Explicit}
use Rattle.operation.specs.declared.draft.Draft.{Draft}
use Rattle.operation.specs.declared.fault.OpFault.{OpFault}
use Rattle.operation.specs.declared.fault.OpFault.TheVariants.{BadCorrection, Shape}
use Rattle.operation.specs.declared.stamp.Stamp.{Stamp}
use Rattle.operation.specs.declared.target.Target.{Target}
use Rattle.operation.specs.declared.target.Target.TheVariants.{Study, Patient, Series}
use Rattle.operation.specs.Corrections.{is_correction, checked}
use Rattle.operation.specs.Parts.{CorrectionParts}
use Rattle.operation.specs.Reading.{short_at, is_padded, uid_at, syntax_at, body_at, draft_at, target_at, tag_at}
use Rattle.operation.specs.Reading.{value_text_at, stamp_at, parts_at}
use Rattle.operation.specs.Spelling.{short_text, syntax_byte, target_text, draft_text, correction_text}

-- ---- what is read is spelled so

-- the bytes begin with these, and rest stands behind
record Takes (bytes text rest : List ℕ) : Type 0 where
  parts : bytes ≡ text ++ rest
  rest_fits : IsBytes rest

short_takes : (bytes : List ℕ) (x : List ℕ × List ℕ) → IsBytes bytes → short_at bytes ≡ Ok x
    → Takes bytes (short_text x.0) x.1
unfolding short_at
short_takes [] x fits e = absurd cc
short_takes (n ∷ rest) x fits e =
    let made : List ℕ × List ℕ = (take n rest, drop n rest) in
    let g = guard_ok (ltb (length rest) n) Shape made x e in
    let len : length (take n rest) ≡ n = omega (arith, length-take n rest, ltb-false _ _ g.0) in
    subst (λ (y : List ℕ × List ℕ). Takes (n ∷ rest) (short_text y.0) y.1) g.1
    (record {
      parts = rw len (ap (λ (t : List ℕ). n ∷ t) (sym (take-append-drop n rest)));
      rest_fits = IsBytes-drop n
          rest (λ i. fits (suc i));
    })

uid_takes : (bytes : List ℕ) (x : List ℕ × List ℕ) → IsBytes bytes → uid_at bytes ≡ Ok x → Takes bytes (short_text x.0)
    x.1
unfolding uid_at
uid_takes bytes x fits e =
    let p = bind_ok (short_at bytes) (λ uid. cond (is_padded uid.0) (Err Shape) (Ok uid)) x e in
    let g = guard_ok (is_padded p.0.0) Shape p.0 x p.2 in
    subst (λ (y : List ℕ × List ℕ). Takes bytes (short_text y.0) y.1) g.1 (short_takes bytes p.0 fits p.1)

syntax_takes : (bytes : List ℕ) (x : Syntax × List ℕ) → IsBytes bytes → syntax_at bytes ≡ Ok x
    → Takes bytes (syntax_byte x.0 ∷ []) x.1
unfolding syntax_at
syntax_takes (suc zero ∷ rest) x fits e =
    subst (λ (y : Syntax × List ℕ). Takes (1 ∷ rest) (syntax_byte y.0 ∷ []) y.1) (ok_is OpFault (Implicit, rest) x e)
    (record { parts = refl; rest_fits = λ i. fits (suc i) })
syntax_takes (suc (suc zero) ∷ rest) x fits e =
    subst (λ (y : Syntax × List ℕ). Takes (2 ∷ rest) (syntax_byte y.0 ∷ []) y.1) (ok_is OpFault (Explicit, rest) x e)
    (record { parts = refl; rest_fits = λ i. fits (suc i) })
syntax_takes [] x fits e = absurd cc
syntax_takes (zero ∷ rest) x fits e = absurd cc
syntax_takes (suc (suc (suc n)) ∷ rest) x fits e = absurd cc

body_takes : (bytes body : List ℕ) → IsBytes bytes → body_at bytes ≡ Ok body → bytes ≡ to_be_bytes w32 (length body)
    ++ body
unfolding body_at
body_takes (a ∷ b ∷ c ∷ d ∷ rest) body fits e =
    let size = from_be_bytes w32 (a ∷ b ∷ c ∷ d ∷ []) in
    let g = guard_end (eqb (length rest) size) Shape rest body e in
    let len : length rest ≡ size = eqb-true _ _ g.0 in
    let l : to_be_bytes w32 (length rest) ≡ a ∷ b ∷ c ∷ d ∷ [] = be_bytes_4 (a ∷ b ∷ c ∷ d ∷ []) _
    refl (IsBytes-four a b c d (fits 0) (fits 1) (fits 2) (fits 3)) len in
    subst (λ (y : List ℕ). a ∷ b ∷ c ∷ d ∷ rest ≡ to_be_bytes w32 (length y) ++ y)
    g.1 (ap (λ (t : List ℕ). t ++ rest) (sym l))
body_takes _ body fits e = absurd cc

abbrev with_class : List ℕ × List ℕ → Result Draft OpFault
with_class class = uid_at class.1 >>= λ instance. syntax_at instance.1 >>= λ syntax. body_at syntax.1 >>= λ body. Ok
    (record { class = class.0; instance = instance.0; syntax = syntax.0; body = body })

pub draft_takes : (bytes : List ℕ) (d : Draft) → IsBytes bytes → draft_at bytes ≡ Ok d → bytes ≡ draft_text d
unfolding draft_at
draft_takes bytes d fits e =
    let p = bind_ok (uid_at bytes) with_class d e in
    let q = bind_ok (uid_at p.0.1) (λ instance. syntax_at instance.1 >>= λ syntax. body_at syntax.1 >>= λ body. Ok
    (record { class = p.0.0; instance = instance.0; syntax = syntax.0; body = body })) d p.2 in
    let r = bind_ok (syntax_at q.0.1) (λ syntax. body_at syntax.1 >>= λ body. Ok
    (record { class = p.0.0; instance = q.0.0; syntax = syntax.0; body = body })) d q.2 in
    let s = bind_ok (body_at r.0.1) (λ body. Ok (record {
      class = p.0.0;
      instance = q.0.0;
      syntax = r.0.0;
      body =
          body;
    })) d r.2 in
    let t1 = uid_takes bytes p.0 fits p.1 in
    let t2 = uid_takes p.0.1 q.0 t1.rest_fits q.1 in
    let t3 = syntax_takes q.0.1 r.0 t2.rest_fits r.1 in
    let t4 = body_takes r.0.1 s.0 t3.rest_fits s.1 in
    let made : Draft = record { class = p.0.0; instance = q.0.0; syntax = r.0.0; body = s.0 } in
    let whole : bytes ≡ draft_text made =
    t1.parts ∙ ap (λ (t : List ℕ). short_text p.0.0 ++ t) (t2.parts ∙ ap (λ (t : List ℕ). short_text q.0.0 ++ t)
    (t3.parts ∙ ap (λ (t : List ℕ). syntax_byte r.0.0 ∷ t) t4))
    in
    subst (λ (y : Draft). bytes ≡ draft_text y) (ok_is OpFault made d s.2) whole

target_takes : (bytes : List ℕ) (x : Target × List ℕ) → IsBytes bytes → target_at bytes ≡ Ok x
    → Takes bytes (target_text x.0) x.1
unfolding target_at
target_takes (suc (suc zero) ∷ suc zero ∷ rest) x fits e =
    let p = bind_ok (short_at rest) (λ key. Ok (Study key.0, key.1)) x e in
    let t = short_takes rest p.0 (λ i. fits (suc (suc i))) p.1 in
    subst (λ (y : Target × List ℕ). Takes (2 ∷ 1 ∷ rest) (target_text y.0) y.1) (ok_is OpFault (Study p.0.0, p.0.1) x
    p.2)
    (record { parts = ap (λ (t : List ℕ). 2 ∷ 1 ∷ t) t.parts; rest_fits = t.rest_fits })
target_takes (suc (suc zero) ∷ suc (suc zero) ∷ rest) x fits e =
    let p = bind_ok (short_at rest) (λ key. Ok (Patient key.0, key.1)) x e in
    let t = short_takes rest p.0 (λ i. fits (suc (suc i))) p.1 in
    subst (λ (y : Target × List ℕ). Takes (2 ∷ 2 ∷ rest) (target_text y.0) y.1) (ok_is OpFault (Patient p.0.0, p.0.1) x
    p.2)
    (record { parts = ap (λ (t : List ℕ). 2 ∷ 2 ∷ t) t.parts; rest_fits = t.rest_fits })
target_takes (suc (suc (suc zero)) ∷ rest) x fits e =
    let p = bind_ok (short_at rest) (λ key. Ok (Series key.0, key.1)) x e in
    let t = short_takes rest p.0 (λ i. fits (suc i)) p.1 in
    subst (λ (y : Target × List ℕ). Takes (3 ∷ rest) (target_text y.0) y.1) (ok_is OpFault (Series p.0.0, p.0.1) x p.2)
    (record { parts = ap (λ (t : List ℕ). 3 ∷ t) t.parts; rest_fits = t.rest_fits })
target_takes [] x fits e = absurd cc
target_takes (zero ∷ rest) x fits e = absurd cc
target_takes (suc zero ∷ rest) x fits e = absurd cc
target_takes (suc (suc zero) ∷ []) x fits e = absurd cc
target_takes (suc (suc zero) ∷ zero ∷ rest) x fits e = absurd cc
target_takes (suc (suc zero) ∷ suc (suc (suc n)) ∷ rest) x fits e = absurd cc
target_takes (suc (suc (suc (suc n))) ∷ rest) x fits e = absurd cc

tag_takes : (bytes : List ℕ) (x : ℕ × List ℕ) → IsBytes bytes → tag_at bytes ≡ Ok x → Takes bytes (to_be_bytes w32 x.0)
    x.1
unfolding tag_at
tag_takes (a ∷ b ∷ c ∷ d ∷ rest) x fits e =
    let n = from_be_bytes w32 (a ∷ b ∷ c ∷ d ∷ []) in
    let l : to_be_bytes w32 n ≡ a ∷ b ∷ c ∷ d ∷ [] = be_bytes_4 (a ∷ b ∷ c ∷ d ∷ []) n
    refl (IsBytes-four a b c d (fits 0) (fits 1) (fits 2) (fits 3)) refl in
    subst (λ (y : ℕ × List ℕ). Takes (a ∷ b ∷ c ∷ d ∷ rest) (to_be_bytes w32 y.0) y.1) (ok_is OpFault (n, rest) x e)
    (record { parts = ap (λ (t : List ℕ). t ++ rest) (sym l); rest_fits = λ i. fits (suc (suc (suc (suc i)))) })
tag_takes _ x fits e = absurd cc

value_takes : (bytes : List ℕ) (x : List ℕ × List ℕ) → IsBytes bytes → value_text_at bytes ≡ Ok x
    → Takes bytes (to_be_bytes w16 (length x.0) ++ x.0) x.1
unfolding value_text_at
value_takes (a ∷ b ∷ rest) x fits e =
    let n = from_be_bytes w16 (a ∷ b ∷ []) in
    let made : List ℕ × List ℕ = (take n rest, drop n rest) in
    let g = guard_ok (ltb (length rest) n) Shape made x e in
    let len : length (take n rest) ≡ n = omega (arith, length-take n rest, ltb-false _ _ g.0) in
    let l : to_be_bytes w16 (length (take n rest)) ≡ a ∷ b ∷ [] = be_bytes_2 (a ∷ b ∷ []) _
    refl (IsBytes-two a b (fits 0) (fits 1)) len in
    let whole : a ∷ b ∷ rest ≡ (to_be_bytes w16 (length (take n rest)) ++ take n rest) ++ drop n rest =
    ap (λ (t : List ℕ). a ∷ b ∷ t) (sym (take-append-drop n rest))
    ∙ ap (λ (t : List ℕ). (t ++ take n rest) ++ drop n rest) (sym l)
    in
    subst (λ (y : List ℕ × List ℕ). Takes (a ∷ b ∷ rest) (to_be_bytes w16 (length y.0) ++ y.0) y.1)
    g.1 (record { parts = whole; rest_fits = IsBytes-drop n rest (λ i. fits (suc (suc i))) })
value_takes [] x fits e = absurd cc
value_takes (a ∷ []) x fits e = absurd cc

eight : (a b c d e f g h : ℕ) (rest : List ℕ) → IsBytes (a ∷ b ∷ c ∷ d ∷ e ∷ f ∷ g ∷ h ∷ rest)
    → IsBytes (a ∷ b ∷ c ∷ d ∷ e ∷ f ∷ g ∷ h ∷ [])
eight a b c d e f g h rest fits zero = fits 0
eight a b c d e f g h rest fits (suc zero) = fits 1
eight a b c d e f g h rest fits (suc (suc zero)) = fits 2
eight a b c d e f g h rest fits (suc (suc (suc zero))) = fits 3
eight a b c d e f g h rest fits (suc (suc (suc (suc zero)))) = fits 4
eight a b c d e f g h rest fits (suc (suc (suc (suc (suc zero))))) = fits 5
eight a b c d e f g h rest fits (suc (suc (suc (suc (suc (suc zero)))))) = fits 6
eight a b c d e f g h rest fits (suc (suc (suc (suc (suc (suc (suc zero))))))) = fits 7
eight a b c d e f g h rest fits (suc (suc (suc (suc (suc (suc (suc (suc i)))))))) = omega arith

stamp_takes : (bytes : List ℕ) (x : Stamp) → IsBytes bytes → stamp_at bytes ≡ Ok x
    → (bytes ≡ to_be_bytes w64 x.counter ++ to_be_bytes w16 x.site) × (x.counter < 2 ^ 64) × (x.site < 2 ^ 16)
unfolding stamp_at
stamp_takes (a ∷ b ∷ c ∷ d ∷ e ∷ f ∷ g ∷ h ∷ i ∷ j ∷ []) x fits is =
    let front = a ∷ b ∷ c ∷ d ∷ e ∷ f ∷ g ∷ h ∷ [] in
    let back = i ∷ j ∷ [] in
    let l : to_be_bytes w64 (from_be_bytes w64 front) ≡ front = be_bytes_8 front _
    refl (eight a b c d e f g h back fits) refl in
    let m : to_be_bytes w16 (from_be_bytes w16 back) ≡ back = be_bytes_2 back _ refl (IsBytes-two i j (fits 8) (fits 9))
    refl in
    let made : Stamp = record { counter = from_be_bytes w64 front; site = from_be_bytes w16 back } in
    subst (λ (y : Stamp). (a ∷ b ∷ c ∷ d ∷ e ∷ f ∷ g ∷ h ∷ i ∷ j ∷ [] ≡ to_be_bytes w64 y.counter ++ to_be_bytes w16
    y.site) × (y.counter < 2 ^ 64) × (y.site < 2 ^ 16)) (ok_is OpFault made x is) (
      ap (λ (t : List ℕ). t ++ back) (sym l) ∙ ap (λ (t : List ℕ). to_be_bytes w64 (from_be_bytes w64 front) ++ t)
          (sym m),
      omega (arith, fits 0, fits 1, fits 2, fits 3, fits 4, fits 5, fits 6, fits 7),
      omega (arith, fits 8, fits 9),
    )
stamp_takes _ x fits is = absurd cc

abbrev with_target : Target × List ℕ → Result CorrectionParts OpFault
with_target target = tag_at target.1 >>= λ tag. value_text_at tag.1 >>= λ value. stamp_at value.1 >>= λ stamp. Ok
    (record { target = target.0; tag = tag.0; value = value.0; stamp = stamp })

pub parts_takes : (bytes : List ℕ) (k : CorrectionParts) → IsBytes bytes → parts_at bytes ≡ Ok k
    → (bytes ≡ correction_text k) × (k.stamp.counter < 2 ^ 64) × (k.stamp.site < 2 ^ 16)
unfolding parts_at
parts_takes bytes k fits e =
    let p = bind_ok (target_at bytes) with_target k e in
    let q = bind_ok (tag_at p.0.1) (λ tag. value_text_at tag.1 >>= λ value. stamp_at value.1 >>= λ stamp. Ok
    (record { target = p.0.0; tag = tag.0; value = value.0; stamp = stamp })) k p.2 in
    let r = bind_ok (value_text_at q.0.1) (λ value. stamp_at value.1 >>= λ stamp. Ok
    (record { target = p.0.0; tag = q.0.0; value = value.0; stamp = stamp })) k q.2 in
    let s = bind_ok (stamp_at r.0.1) (λ stamp. Ok (record {
      target = p.0.0;
      tag = q.0.0;
      value = r.0.0;
      stamp =
          stamp;
    })) k r.2 in
    let t1 = target_takes bytes p.0 fits p.1 in
    let t2 = tag_takes p.0.1 q.0 t1.rest_fits q.1 in
    let t3 = value_takes q.0.1 r.0 t2.rest_fits r.1 in
    let t4 = stamp_takes r.0.1 s.0 t3.rest_fits s.1 in
    let made : CorrectionParts = record { target = p.0.0; tag = q.0.0; value = r.0.0; stamp = s.0 } in
    let whole : bytes ≡ correction_text made =
    t1.parts ∙ ap (λ (t : List ℕ). target_text p.0.0 ++ t) (t2.parts ∙ ap (λ (t : List ℕ). to_be_bytes w32 q.0.0 ++ t)
    (t3.parts ∙ append_assoc (to_be_bytes w16 (length r.0.0)) r.0.0 r.0.1
    ∙ ap (λ (t : List ℕ). to_be_bytes w16 (length r.0.0) ++ (r.0.0 ++ t)) t4.0))
    in
    subst (λ (y : CorrectionParts). (bytes ≡ correction_text y) × (y.stamp.counter < 2 ^ 64) × (y.stamp.site < 2 ^ 16))
    (ok_is OpFault made k s.2) (whole, t4.1, t4.2)

-- ---- what is spelled so is read

short_again : (text rest : List ℕ) → short_at (short_text text ++ rest) ≡ Ok (text, rest)
unfolding short_at
short_again text rest =
    let long : ltb (length (text ++ rest)) (length text) ≡ false = le-ltb _ _ (omega (arith, length-append text rest))
    in
    rw (long, take_at text rest (length text) refl, drop_at text rest (length text) refl) refl

uid_again : (text rest : List ℕ) → is_padded text ≡ false → uid_at (short_text text ++ rest) ≡ Ok (text, rest)
unfolding uid_at
uid_again text rest bare = rw (short_again text rest) (ap (λ (b : Bool). cond b (Err Shape) (Ok (text, rest))) bare)

syntax_again : (s : Syntax) (rest : List ℕ) → syntax_at (syntax_byte s ∷ rest) ≡ Ok (s, rest)
unfolding syntax_at
syntax_again Implicit rest = refl
syntax_again Explicit rest = refl

body_again : (body : List ℕ) → length body < 2 ^ 32 → body_at (to_be_bytes w32 (length body) ++ body) ≡ Ok body
unfolding body_at
body_again body lt =
    rw (from_be_bytes-to_be_bytes_4 (length body) lt) (ap (λ (b : Bool). cond b (Ok body) (Err Shape))
    (same (length body)))
  where
    same : (n : ℕ) → eqb n n ≡ true
    same n = grind arith

pub draft_again : (d : Draft) → is_padded d.class ≡ false → is_padded d.instance ≡ false → length d.body < 2 ^ 32
    → draft_at (draft_text d) ≡ Ok d
unfolding draft_at
draft_again d class instance body =
    rw (
      uid_again d.class (short_text d.instance
          ++ (syntax_byte d.syntax ∷ (to_be_bytes w32 (length d.body) ++ d.body))) class,
      uid_again d.instance
          (syntax_byte d.syntax ∷ (to_be_bytes w32 (length d.body) ++ d.body)) instance,
      syntax_again d.syntax
          (to_be_bytes w32 (length d.body) ++ d.body),
      body_again d.body body,
    ) refl

target_again : (target : Target) (rest : List ℕ) → target_at (target_text target ++ rest) ≡ Ok (target, rest)
unfolding target_at
target_again (Study key) rest = rw (short_again key rest) refl
target_again (Patient key) rest = rw (short_again key rest) refl
target_again (Series key) rest = rw (short_again key rest) refl

tag_again : (tag : ℕ) (rest : List ℕ) → tag < 2 ^ 32 → tag_at (to_be_bytes w32 tag ++ rest) ≡ Ok (tag, rest)
unfolding tag_at
tag_again tag rest lt = rw (from_be_bytes-to_be_bytes_4 tag lt) refl

value_again : (value rest : List ℕ) → length value < 2 ^ 16
    → value_text_at (to_be_bytes w16 (length value) ++ (value ++ rest)) ≡ Ok (value, rest)
unfolding value_text_at
value_again value rest lt =
    let long : ltb (length (value ++ rest)) (length value) ≡ false =
    le-ltb _ _ (omega (arith, length-append value rest)) in
    rw (
      from_be_bytes-to_be_bytes_2 (length value) lt,
      long,
      take_at value rest (length value) refl,
      drop_at value
          rest (length value) refl,
    ) refl

stamp_again : (x : Stamp) → x.counter < 2 ^ 64 → x.site < 2 ^ 16
    → stamp_at (to_be_bytes w64 x.counter ++ to_be_bytes w16 x.site) ≡ Ok x
unfolding stamp_at
stamp_again x counter site = rw (from_be_bytes-to_be_bytes_8 x.counter counter, from_be_bytes-to_be_bytes_2 x.site site)
    refl

pub parts_again : (k : CorrectionParts) → k.tag < 2 ^ 32 → length k.value < 2 ^ 16 → k.stamp.counter < 2 ^ 64
    → k.stamp.site < 2 ^ 16 → parts_at (correction_text k) ≡ Ok k
unfolding parts_at
parts_again k tag value counter site =
    rw (
      target_again k.target (to_be_bytes w32 k.tag ++ (to_be_bytes w16 (length k.value)
          ++ (k.value ++ (to_be_bytes w64 k.stamp.counter ++ to_be_bytes w16 k.stamp.site)))),
      tag_again
          k.tag (to_be_bytes w16 (length k.value) ++ (k.value ++ (to_be_bytes w64 k.stamp.counter ++ to_be_bytes w16
          k.stamp.site))) tag,
      value_again k.value (to_be_bytes w64 k.stamp.counter ++ to_be_bytes w16 k.stamp.site)
          value,
      stamp_again k.stamp counter site,
    ) refl

-- ---- where a data set stands

drop_front : (front body text : List ℕ) → text ≡ front ++ body → drop (length text - length body) text ≡ body
drop_front front body text e =
    let n : length text - length body ≡ length front = omega (arith, ap length e, length-append front body) in
    rw (n, e) (drop_at front body (length front) refl)

-- a data set stands at the end of its content's spelling
pub body_behind : (d : Draft) (text : List ℕ) → text ≡ draft_text d → drop (length text - length d.body) text ≡ d.body
body_behind d text e =
    drop_front (short_text d.class ++ (short_text d.instance ++ (syntax_byte d.syntax ∷ to_be_bytes
    w32 (length d.body)))) d.body text (e ∙ sym (simp append_assoc))

-- what is made of parts that a text spells is spelled by it
pub checked_spelled : (k : CorrectionParts) (text : List ℕ) (r : Result CorrectionParts OpFault)
    → text ≡ correction_text k → r ≡ checked k → IfOk r (λ made. text ≡ correction_text made)
checked_spelled k text r spelled e = subst (λ (x : Result CorrectionParts OpFault). IfOk
    x (λ made. text ≡ correction_text made)) (sym e) (by_test (is_correction k))
  where
    by_test : (b : Bool) → IfOk (if b then Ok k else Err BadCorrection) (λ made. text ≡ correction_text made)
    by_test true = spelled
    by_test false = tt
