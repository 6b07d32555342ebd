-- A text comes to one outcome.
use Rattle.std.proofs.Common.{◌≡◌, ℕ, zero, suc, ◌<◌, ◌-◌, List, [], ◌∷◌, ◌++◌, length, Bool, true, false, cond, Some}
use Rattle.std.proofs.Common.{Result, Ok, Err, refl, sym, ap, subst, ◌∙◌, arith}
use Rattle.std.proofs.lemmas.Bool.Decides.{nat_tests}
use Rattle.std.specs.Prelude.{not, slice_get, ◌==◌, ◌&&◌, nat_le}
use Rattle.std.specs.Int.{w16, w32, w64, to_be_bytes}
use Rattle.std.specs.List.{list_all}
use Rattle.std.proofs.lemmas.Bool.{and_parts as both}
use Rattle.octets.specs.Gives.{◌>>=◌, Tells, Gives}
use Rattle.octets.proofs.ByteLaws.{tells_map}
use Rattle.octets.specs.Uid.{is_uid_text, is_uid_byte}
use Rattle.octets.specs.Padding.{is_padding}
use Rattle.operation.specs.declared.draft.Draft.{Draft}
use Rattle.operation.specs.declared.fault.OpFault.{OpFault}
use Rattle.operation.specs.declared.fault.OpFault.TheVariants.{Shape, UnknownKind, BadCorrection}
use Rattle.operation.specs.declared.op.Op.{Op}
use Rattle.operation.specs.declared.op.Op.TheVariants.{Content as a_content, Correction as a_correction}
use Rattle.operation.specs.declared.target.Target.{Target}
use Rattle.operation.specs.declared.target.Target.TheVariants.{Study, Patient, Series}
use Rattle.operation.specs.Parts.{ContentParts, CorrectionParts}
use Rattle.operation.specs.Contents.{IsContent, draft_of}
use Rattle.operation.specs.Corrections.{IsCorrection, checked}
use Rattle.operation.specs.Fault.{is_memory}
use Rattle.operation.specs.Reading.{IsReading, IsMade, IsFaultOf, IsOp, HasFault, is_pad, is_padded, draft_at, parts_at}
use Rattle.operation.specs.Reading.{correction_at}
use Rattle.operation.specs.Spelling.{spelling, target_text, draft_text, correction_text}
use Rattle.operation.proofs.Bounds.{class_uid, instance_uid, body_short, value_short}
use Rattle.operation.proofs.TagLaws.{tag_small}
use Rattle.operation.proofs.ContentLaws.{outcome_once}
use Rattle.operation.proofs.ReadingLaws.{draft_again, parts_again}

-- ---- one outcome

made_once : (d : Result Draft OpFault) (r s : Result ContentParts OpFault) → IsMade d r → IsMade d s → r ≡ s
made_once (Err f) r s p q = p ∙ sym q
made_once (Ok draft) r s p q = outcome_once draft r s p q

abbrev as_content : Result ContentParts OpFault → Result Op OpFault
as_content r = r >>= λ c. Ok (a_content c)

pub reading_once : (text : List ℕ) (r s : Result Op OpFault) → IsReading text r → IsReading text s → r ≡ s
reading_once [] r s p q = p ∙ sym q
reading_once (suc zero ∷ text) r s p q = p.2 ∙ ap as_content (made_once (draft_at text) p.0 q.0 p.1 q.1) ∙ sym q.2
reading_once (suc (suc zero) ∷ text) r s p q = p ∙ sym q
reading_once (suc (suc (suc zero)) ∷ text) r s p q = p ∙ sym q
reading_once (zero ∷ text) r s p q = p ∙ sym q
reading_once (suc (suc (suc (suc n))) ∷ text) r s p q = p ∙ sym q

-- ---- faults

made_fault : (d : Result Draft OpFault) (f : OpFault) → IsFaultOf d f → IsMade d (Err f)
made_fault (Err g) f e = ap (λ (x : OpFault). Err x) (sym e)
made_fault (Ok draft) f refused = refused

pub fault_reading : (text : List ℕ) (f : OpFault) → HasFault text f → IsReading text (Err f)
fault_reading [] f e = ap (λ (x : OpFault). Err x) (sym e)
fault_reading (suc zero ∷ text) f e = (Err f, made_fault (draft_at text) f e, refl)
fault_reading (suc (suc zero) ∷ text) f e =
    sym (ap (λ (r : Result CorrectionParts OpFault). r >>= λ k. Ok (a_correction k)) e)
fault_reading (suc (suc (suc zero)) ∷ text) f e =
    sym (ap (λ (r : Result CorrectionParts OpFault). r >>= λ k. Ok (a_correction k)) e)
fault_reading (zero ∷ text) f e = ap (λ (x : OpFault). Err x) (sym e)
fault_reading (suc (suc (suc (suc n))) ∷ text) f e = ap (λ (x : OpFault). Err x) (sym e)

abbrev failed : (A : Type 0) → OpFault → Result A OpFault
failed A f = Err f

err_is : (A : Type 0) (f g : OpFault) → failed A f ≡ failed A g → f ≡ g
err_is A f g e = cc

fault_made : (d : Result Draft OpFault) (f : OpFault) → IsMade d (Err f) → IsFaultOf d f
fault_made (Err g) f e = sym (err_is ContentParts f g e)
fault_made (Ok draft) f refused = refused

fault_from : (d : Result Draft OpFault) (s : Result ContentParts OpFault) (f : OpFault) → IsMade d s
    → failed Op f ≡ as_content s → IsFaultOf d f
fault_from d (Ok c) f is e = absurd cc
fault_from d (Err g) f is e = subst (IsFaultOf d) (err_is Op g f (sym e)) (fault_made d g is)

correction_fault : (r : Result CorrectionParts OpFault) (f : OpFault) → failed Op f ≡ (r >>= λ k. Ok (a_correction k))
    → r ≡ Err f
correction_fault (Ok k) f e = absurd cc
correction_fault (Err g) f e = ap (failed CorrectionParts) (err_is Op g f (sym e))

pub reading_fault : (text : List ℕ) (f : OpFault) → IsReading text (Err f) → HasFault text f
reading_fault [] f e = sym (err_is Op f Shape e)
reading_fault (suc zero ∷ text) f e = fault_from (draft_at text) e.0 f e.1 e.2
reading_fault (suc (suc zero) ∷ text) f e = correction_fault (correction_at (2 ∷ text)) f e
reading_fault (suc (suc (suc zero)) ∷ text) f e = correction_fault (correction_at (3 ∷ text)) f e
reading_fault (zero ∷ text) f e = sym (err_is Op f UnknownKind e)
reading_fault (suc (suc (suc (suc n))) ∷ text) f e = sym (err_is Op f UnknownKind e)

-- ---- what is spelled is read

last_passes : (p : ℕ → Bool) (text : List ℕ) → list_all p text ≡ true → 0 < length text → (b : ℕ)
    × (slice_get text (length text - 1) ≡ Some b) × (p b ≡ true)
last_passes p [] all some = absurd (omega arith)
last_passes p (b ∷ []) all some = (b, refl, (both (p b) true all).0)
last_passes p (b ∷ c ∷ rest) all some =
    let deeper = last_passes p (c ∷ rest) (both (p b) _ all).1 (omega arith) in
    let n : length (b ∷ c ∷ rest) - 1 ≡ suc (length (c ∷ rest) - 1) = omega arith in
    (deeper.0, ap (slice_get (b ∷ c ∷ rest)) n ∙ deeper.1, deeper.2)

no_pad : (b : ℕ) → is_uid_byte b ≡ true → is_padding b ≡ false
no_pad b e = grind (arith, nat_tests)

some_bytes : (n : ℕ) → not (n == 0) ≡ true → 0 < n
some_bytes n e = grind (arith, nat_tests)

-- a UID has no padding
pub uid_bare : (text : List ℕ) → is_uid_text text ≡ true → is_padded text ≡ false
unfolding is_uid_text
uid_bare text is =
    let some = (both (not (length text == 0)) (nat_le (length text) 64)
    (both (not (length text == 0) && nat_le (length text) 64) (list_all is_uid_byte text) is).0).0 in
    let all = (both (not (length text == 0) && nat_le (length text) 64) (list_all is_uid_byte text) is).1 in
    let last = last_passes is_uid_byte text all (some_bytes (length text) some) in
    ap is_pad last.1 ∙ no_pad last.0 last.2

content_again : (c : ContentParts) → IsContent c → IsReading (spelling (a_content c)) (Ok (a_content c))
unfolding spelling
content_again c is =
    let read : draft_at (draft_text (draft_of c)) ≡ Ok (draft_of c) = draft_again (draft_of c)
    (uid_bare c.class (class_uid c is)) (uid_bare c.instance (instance_uid c is)) (omega (arith, body_short c is))
    in
    (Ok c, subst (λ (d : Result Draft OpFault). IsMade d (Ok c)) (sym read) (refl, is), refl)

-- whatever its target, a text that begins with one is read as a correction
behind_target : (target : Target) (rest : List ℕ) (r : Result Op OpFault)
    → r ≡ (correction_at (target_text target ++ rest) >>= λ k. Ok (a_correction k))
    → IsReading (target_text target ++ rest) r
behind_target (Study key) rest r e = e
behind_target (Patient key) rest r e = e
behind_target (Series key) rest r e = e

correction_again : (k : CorrectionParts) → IsCorrection k → IsReading (spelling (a_correction k)) (Ok (a_correction k))
unfolding spelling correction_at
correction_again k is =
    let read : parts_at (correction_text k) ≡ Ok k = parts_again k (tag_small k is) (omega (arith, value_short k is))
    is.counter is.site in
    let lawful : checked k ≡ Ok k = ap (λ (b : Bool). cond b (Ok k) (Err BadCorrection)) is.lawful in
    let told : Ok (a_correction k) ≡ (correction_at (correction_text k) >>= λ x. Ok (a_correction x)) =
    sym (ap (λ (r : Result CorrectionParts OpFault). (r >>= checked) >>= λ x. Ok (a_correction x)) read
    ∙ ap (λ (r : Result CorrectionParts OpFault). r >>= λ x. Ok (a_correction x)) lawful)
    in
    behind_target k.target (to_be_bytes w32 k.tag ++ (to_be_bytes w16 (length k.value)
    ++ (k.value ++ (to_be_bytes w64 k.stamp.counter ++ to_be_bytes w16 k.stamp.site)))) (Ok (a_correction k)) told

pub spelled_reading : (op : Op) → IsOp op → IsReading (spelling op) (Ok op)
spelled_reading (a_content c) is = content_again c is
spelled_reading (a_correction k) is = correction_again k is

-- whatever a text comes to is answered, unless memory ran out
pub only_reading : (text : List ℕ) (given s : Result Op OpFault) → Tells is_memory (λ op. op) given (IsReading text)
    → IsReading text s → Gives is_memory (λ op. op) given s
only_reading text given s told is = tells_map is_memory (λ op. op) given (IsReading text) (λ r. s ≡ r)
    (λ r p. reading_once text s r is p) told

pub only_spelled : (text : List ℕ) (given : Result Op OpFault) (op : Op) → Tells is_memory (λ op. op)
    given (IsReading text) → IsOp op → text ≡ spelling op → Gives is_memory (λ op. op) given (Ok op)
only_spelled text given op told is e = only_reading text given (Ok op) told (subst (λ (t : List ℕ). IsReading t (Ok op))
    (sym e) (spelled_reading op is))

-- ---- unequal operations have unequal spellings

ok_op : (a b : Op) (r : Result Op OpFault) → r ≡ Ok a → r ≡ Ok b → a ≡ b
ok_op a b r p q = same a b (sym p ∙ q)
  where
    ok : Op → Result Op OpFault
    ok x = Ok x

    same : (a b : Op) → ok a ≡ ok b → a ≡ b
    same a b e = cc

pub spelling_once : (a b : Op) → IsOp a → IsOp b → spelling a ≡ spelling b → a ≡ b
spelling_once a b p q e =
    ok_op a b (Ok b) (sym (reading_once (spelling b) (Ok a) (Ok b) (subst (λ (t : List ℕ). IsReading t (Ok a))
    e (spelled_reading a p)) (spelled_reading b q))) refl

pub one_fault : (text : List ℕ) (f g : OpFault) → HasFault text f → HasFault text g → f ≡ g
one_fault text f g p q = err_is Op f g (reading_once text (Err f) (Err g) (fault_reading text f p)
    (fault_reading text g q))

apart : (op : Op) (f : OpFault) (r : Result Op OpFault) → r ≡ Ok op → r ≡ Err f → ⊥
apart op f r p q = absurd (no (sym p ∙ q))
  where
    ok : Op → Result Op OpFault
    ok x = Ok x

    no : ok op ≡ failed Op f → ⊥
    no e = cc

pub spelled_or_fault : (op : Op) (f : OpFault) → IsOp op → HasFault (spelling op) f → ⊥
spelled_or_fault op f is has = apart op f (Ok op) refl (reading_once (spelling op) (Ok op) (Err f)
    (spelled_reading op is) (fault_reading (spelling op) f has))
