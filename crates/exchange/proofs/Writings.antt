-- Texts that are written one after another.
use Rattle.std.proofs.Common.{inl, inr, ◌≡◌, ℕ, List, [], ◌∷◌, ◌++◌, take, drop, Bool, true, false}
use Rattle.std.proofs.Common.{Option, Result, Ok, Err}
use Rattle.std.proofs.Common.{refl, sym, ap, subst, ◌∙◌, append_assoc, append-nil}
use Rattle.std.specs.Prelude.{OnOk, OnErr, IfErr, ◌||◌}
use Rattle.std.specs.List.{list_any}
use Rattle.std.specs.Io.KnownBytes.{Appends}
use Rattle.std.proofs.KnownBytes.{Appends-nil, Appends-trans}
use Rattle.std.proofs.lemmas.Grind.{flat_map-append}
use Rattle.std.proofs.lemmas.List.{take-append-drop}
use Rattle.std.proofs.lemmas.Bool.{or_right as any_or}
use Rattle.std.proofs.lemmas.Bool.{false_from_ne_true as not_true}
use Rattle.exchange_frames.specs.declared.fault.FrameFault.{FrameFault}
use Rattle.exchange_frames.specs.declared.frame.Frame.{Frame}
use Rattle.exchange_frames.specs.declared.frame.Frame.TheVariants.{Give}
use Rattle.exchange_frames.specs.Spelling.{text_of}
use Rattle.exchange_frames.specs.Writing.{is_too_long}
use Rattle.exchange.proofs.Outcomes.{has_left, has_right}
use Rattle.exchange.specs.declared.fault.HolderFault.{HolderFault}
use Rattle.exchange.specs.declared.fault.HolderFault.TheVariants as holders
use Rattle.exchange.specs.Fault.{of_holder}
use Rattle.exchange.specs.declared.fault.ExchangeFault.{ExchangeFault}
use Rattle.exchange.specs.declared.fault.ExchangeFault.TheVariants.{BadFrame, TooLong, Stranger, Io, Memory, Turns}
use Rattle.exchange.specs.declared.fault.ExchangeFault.TheVariants.{Refused}
use Rattle.exchange.specs.Hearing.{texts}
use Rattle.exchange.specs.Saying.{IsFront, WroteFront, WhyUnwritten, WhyUnsaid, GivesLawful, IsSayable, AreSayable}
use Rattle.exchange.specs.Saying.{Speaks}

pub on_ok_map : {X E : Type 0} (r : Result X E) (A B : Type 0) → (A → B) → OnOk r A → OnOk r B
on_ok_map (Ok x) A B to p = to p
on_ok_map (Err e) A B to p = tt

pub on_err_map : {X E : Type 0} (r : Result X E) (A B : Type 0) → (A → B) → OnErr r A → OnErr r B
on_err_map (Ok x) A B to p = tt
on_err_map (Err e) A B to p = to p

pub on_ok_both : {X E : Type 0} (r : Result X E) (A B : Type 0) → OnOk r A → OnOk r B → OnOk r (A × B)
on_ok_both (Ok x) A B p q = (p, q)
on_ok_both (Err e) A B p q = tt

pub on_ok_is : {X E : Type 0} (r : Result X E) (A : Type 0) → A → OnOk r A
on_ok_is (Ok x) A p = p
on_ok_is (Err e) A p = tt

pub take_front : (n : ℕ) (text : List ℕ) → IsFront (take n text) text
take_front n text = (drop n text, sym (take-append-drop n text))

pub wrote_nothing : (w : Option (List ℕ)) (text : List ℕ) → WroteFront w w text
wrote_nothing w text = ([], Appends-nil w, (text, refl))

-- a front of a text is a front of more
pub wrote_more : (w0 w1 : Option (List ℕ)) (x y : List ℕ) → WroteFront w0 w1 x → WroteFront w0 w1 (x ++ y)
wrote_more w0 w1 x y p = (p.0, p.1, (p.2.0 ++ y, ap (λ (t : List ℕ). t ++ y) p.2.1 ∙ append_assoc p.0 p.2.0 y))

-- a text, and a front of another
pub wrote_then : (w0 w1 w2 : Option (List ℕ)) (x y : List ℕ) → Appends w0 w1 x → WroteFront w1 w2 y
    → WroteFront w0 w2 (x ++ y)
wrote_then w0 w1 w2 x y a p = (
  x ++ p.0,
  Appends-trans w0 w1 w2 x p.0 a p.1,
  (p.2.0, ap (λ (t : List ℕ). x ++ t) p.2.1 ∙ sym (append_assoc x p.0 p.2.0)),
)

-- ---- why

or_either : (b c d : Bool) → (c ≡ true → d ≡ true) → (b || c) ≡ true → (b || d) ≡ true
or_either true c d to e = refl
or_either false c d to e = to e

any_before : (frames more : List Frame) → list_any is_too_long frames ≡ true
    → list_any is_too_long (frames ++ more) ≡ true
any_before [] more e = absurd cc
any_before (f ∷ frames) more e = or_either (is_too_long f) _ _ (any_before frames more) e

any_behind : (frames more : List Frame) → list_any is_too_long more ≡ true
    → list_any is_too_long (frames ++ more) ≡ true
any_behind [] more e = e
any_behind (f ∷ frames) more e = any_or (is_too_long f) _ (any_behind frames more e)

unwritten_by : (few many : List Frame) (fault : ExchangeFault)
    → (list_any is_too_long few ≡ true → list_any is_too_long many ≡ true) → WhyUnwritten few fault
    → WhyUnwritten many fault
unwritten_by few many BadFrame long why = why
unwritten_by few many TooLong long why = long why
unwritten_by few many Stranger long why = why
unwritten_by few many Io long why = why
unwritten_by few many Memory long why = why
unwritten_by few many Turns long why = why
unwritten_by few many Refused long why = why

why_before : (frames more : List Frame) (fault : ExchangeFault) → WhyUnsaid frames fault
    → WhyUnsaid (frames ++ more) fault
why_before frames more fault (inl why) = inl (unwritten_by frames (frames ++ more) fault (any_before frames more) why)
why_before frames more fault (inr why) =
    inr (why.0, (why.1.0, has_left frames more (Give why.1.0) why.1.1))

pub why_behind : (frames more : List Frame) (fault : ExchangeFault) → WhyUnsaid more fault
    → WhyUnsaid (frames ++ more) fault
why_behind frames more fault (inl why) = inl (unwritten_by more (frames ++ more) fault (any_behind frames more) why)
why_behind frames more fault (inr why) =
    inr (why.0, (why.1.0, has_right frames more (Give why.1.0) why.1.1))

pub unsaid_turns : (frames : List Frame) (fault : ExchangeFault) → WhyUnsaid frames fault → fault ≡ Turns → ⊥
unsaid_turns frames fault (inl why) e = subst (λ (x : ExchangeFault). WhyUnwritten frames x) e why
unsaid_turns frames fault (inr why) e = no_turns why.0.0 (sym why.0.1 ∙ e)
  where
    no_turns : (cause : HolderFault) → of_holder cause ≡ Turns → ⊥
    no_turns holders.Memory is = cc
    no_turns holders.Refused is = cc
    no_turns holders.Unreadable is = cc

-- What could not be written no holder refused.
pub unwritten_refused : (frames : List Frame) (r : Result (Unit {0}) ExchangeFault) → IfErr r (WhyUnwritten frames)
    → r ≡ Err Refused → ⊥
unwritten_refused frames r why e =
    subst (λ (x : Result (Unit {0}) ExchangeFault). IfErr x (WhyUnwritten frames)) e why

pub long_one : (frame : Frame) → is_too_long frame ≡ true → list_any is_too_long (frame ∷ []) ≡ true
long_one frame is = rw is refl

-- ---- frames, one after another

pub texts_more : (frames more : List Frame) → texts (frames ++ more) ≡ texts frames ++ texts more
texts_more frames more = flat_map-append text_of frames more

pub sayable_more : (frames more : List Frame) → AreSayable frames → AreSayable more → AreSayable (frames ++ more)
sayable_more [] more are too = too
sayable_more (f ∷ frames) more are too = (are.0, sayable_more frames more are.1 too)

-- Of all frames the rest is still to be written: those before it were.
abbrev pub SpokeSome : Option (List ℕ) → Option (List ℕ) → List Frame → List Frame → Type 0
SpokeSome w0 w1 all rest = (told : List Frame) × (all ≡ told ++ rest) × Appends w0 w1 (texts told) × AreSayable told

module _ (w0 w1 w2 : Option (List ℕ)) (all first more : List Frame) (so : SpokeSome w0 w1 all (first ++ more)) where
  pub spoke_on : Appends w1 w2 (texts first) × AreSayable first → SpokeSome w0 w2 all more
  spoke_on p = (
    so.0 ++ first,
    so.1 ∙ sym (append_assoc so.0 first more),
    subst (λ (t : List ℕ). Appends w0 w2 t) (sym (texts_more so.0 first))
        (Appends-trans w0 w1 w2 (texts so.0) (texts first) so.2 p.0),
    sayable_more so.0 first so.3 p.1,
  )

  all_text : texts all ≡ texts so.0 ++ (texts first ++ texts more)
  all_text = ap (λ (frames : List Frame). texts frames) so.1 ∙ texts_more so.0 (first ++ more)
      ∙ ap (λ (t : List ℕ). texts so.0 ++ t) (texts_more first more)

  pub breaks_off : (fault : ExchangeFault) → WroteFront w1 w2 (texts first) × WhyUnsaid first fault
      → WroteFront w0 w2 (texts all) × WhyUnsaid all fault
  breaks_off fault p = (
    subst (λ (t : List ℕ). WroteFront w0 w2 t) (sym all_text)
        (wrote_then w0 w1 w2 (texts so.0) (texts first ++ texts more) so.2
        (wrote_more w1 w2 (texts first) (texts more) p.0)),
    subst (λ (frames : List Frame). WhyUnsaid frames fault) (sym so.1)
        (why_behind so.0 (first ++ more) fault (why_before first more fault p.1)),
  )

pub spoke_all : {X : Type 0} (w0 w1 w2 : Option (List ℕ)) (all rest : List Frame) → SpokeSome w0 w1 all rest
    → (r : Result X ExchangeFault) → Speaks w1 w2 rest r → Speaks w0 w2 all r
spoke_all w0 w1 w2 all rest so (Ok x) p = (
  subst (λ (t : List ℕ). Appends w0 w2 t) (sym (ap (λ (frames : List Frame). texts frames) so.1 ∙ texts_more so.0 rest))
      (Appends-trans w0 w1 w2 (texts so.0) (texts rest) so.2 p.0),
  subst (λ (frames : List Frame). AreSayable frames) (sym so.1) (sayable_more so.0 rest so.3 p.1),
)
spoke_all w0 w1 w2 all rest so (Err fault) p =
    let same = ap (λ (l : List Frame). so.0 ++ l) (sym (append-nil rest)) in
    breaks_off w0 w1 w2 all rest [] (so.0, so.1 ∙ same, so.2, so.3) fault p

-- One frame was written, or a front of it.
pub speaks_one : {X : Type 0} (w0 w1 : Option (List ℕ)) (frame : Frame) (r : Result X ExchangeFault)
    → OnOk r (Appends w0 w1 (text_of frame)) → OnErr r (WroteFront w0 w1 (text_of frame))
    → IfErr r (WhyUnwritten (frame ∷ [])) → OnOk r (IsSayable frame) → Speaks w0 w1 (frame ∷ []) r
speaks_one w0 w1 frame (Ok x) ok err why sayable =
    (subst (λ (t : List ℕ). Appends w0 w1 t) (sym (append-nil (text_of frame))) ok, (sayable, tt))
speaks_one w0 w1 frame (Err fault) ok err why sayable =
    (subst (λ (t : List ℕ). WroteFront w0 w1 t) (sym (append-nil (text_of frame))) err, inl why)

-- ---- what is known of frames that were written

pub sayable_is : {X : Type 0} (frame : Frame) (x : X) (fault : FrameFault)
    → (is_too_long frame ≡ true → Ok x ≡ Err fault) → GivesLawful frame → IsSayable frame
sayable_is frame x fault never lawful =
    (not_true (is_too_long frame) (λ is. let clash : Ok x ≡ Err fault = never is in absurd cc), lawful)
