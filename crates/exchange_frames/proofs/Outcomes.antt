-- A body comes to one outcome.
use Rattle.std.proofs.Common.{◌≡◌, ℕ, false, List, ◌∷◌, ◌++◌, length, drop, get_or, Option, Some, None}
use Rattle.std.proofs.Common.{Result, Ok, Err, refl, sym, ap, subst, ◌∙◌, inl, inr}
use Rattle.std.specs.Prelude.{◌⊎◌, IfOk}
use Rattle.std.specs.Int.{w32, to_be_bytes}
use Rattle.std.proofs.lemmas.Bool.{both_ways}
use Rattle.octets.specs.Bytes.{IsBytes}
use Rattle.octets.specs.Gives.{Gives, Tells}
use Rattle.octets.proofs.ByteLaws.{tells_map}
use Rattle.operation.specs.declared.op.Op.{Op}
use Rattle.operation.proofs.OutcomeLaws.{spelling_once}
use Rattle.exchange_frames.specs.declared.fault.FrameFault.{FrameFault}
use Rattle.exchange_frames.specs.declared.fault.FrameFault.TheVariants.{BadFrame, TooLong, Memory}
use Rattle.exchange_frames.specs.declared.frame.Frame.{Frame}
use Rattle.exchange_frames.specs.declared.frame.Frame.TheVariants.{Have, Want, Give, End, Buckets, Differ, Hello}
use Rattle.exchange_frames.specs.Fault.{is_memory}
use Rattle.exchange_frames.specs.Header.{HeaderParts, header_text}
use Rattle.exchange_frames.specs.Spelling.{code_of, body_text, text_of, IsFrame}
use Rattle.exchange_frames.specs.Reading.{is_long, frame_at, or_bad, IsBodyOf, HasFault, IsOutcome}
use Rattle.exchange_frames.proofs.Frames.{frame_takes, frame_again, frame_few}

abbrev Answer : Type 0
Answer = Result Frame FrameFault

-- ---- one frame

-- a frame of kind 03 is a GIVE
given : (f : Frame) → ((op : Op) × (f ≡ Give op)) ⊎ (code_of f ≡ 3 → ⊥)
given (Give op) = inl (op, refl)
given (Have ds) = inr (λ e. absurd cc)
given (Want ds) = inr (λ e. absurd cc)
given End = inr (λ e. absurd cc)
given (Buckets ds) = inr (λ e. absurd cc)
given (Differ ps) = inr (λ e. absurd cc)
given (Hello v) = inr (λ e. absurd cc)

gives_once : (a b : Op) (kind : ℕ) (body : List ℕ) → IsBodyOf (Give a) kind body → IsBodyOf (Give b) kind body
    → Give a ≡ Give b
gives_once a b kind body p q = ap (λ (x : Op). Give x) (spelling_once a b p.lawful q.lawful (p.body_is ∙ sym q.body_is))

some_once : (f g : Frame) (o : Option Frame) → o ≡ Some f → o ≡ Some g → f ≡ g
some_once f g o p q = cc

pub frame_once : (f g : Frame) (kind : ℕ) (body : List ℕ) → IsBodyOf f kind body → IsBodyOf g kind body → f ≡ g
frame_once f g kind body p q = by_kind (given f) (given g)
  where
    by_kind : ((op : Op) × (f ≡ Give op)) ⊎ (code_of f ≡ 3 → ⊥) → ((op : Op) × (g ≡ Give op)) ⊎ (code_of g ≡ 3 → ⊥)
        → f ≡ g
    by_kind (inl a) (inl b) =
        a.1 ∙ gives_once a.0 b.0 kind body (subst (λ (x : Frame). IsBodyOf x kind body) a.1 p)
        (subst (λ (x : Frame). IsBodyOf x kind body) b.1 q) ∙ sym b.1
    by_kind (inr a) b = some_once f g (frame_at kind body) (frame_again f kind body p (λ e. a (p.kind_is ∙ e)))
        (frame_again g kind body q (λ e. a (p.kind_is ∙ e)))
    by_kind a (inr b) = some_once f g (frame_at kind body) (frame_again f kind body p (λ e. b (q.kind_is ∙ e)))
        (frame_again g kind body q (λ e. b (q.kind_is ∙ e)))

-- ---- one outcome

abbrev failed : FrameFault → Answer
failed e = Err e

fault_once : (kind : ℕ) (body : List ℕ) (d e : FrameFault) → HasFault kind body d → HasFault kind body e
    → failed d ≡ failed e
fault_once kind body BadFrame BadFrame p q = refl
fault_once kind body TooLong TooLong p q = refl
fault_once kind body BadFrame TooLong p q = absurd (both_ways (is_long kind body) p.0 q)
fault_once kind body TooLong BadFrame p q = absurd (both_ways (is_long kind body) q.0 p)
fault_once kind body Memory e p q = absurd p
fault_once kind body d Memory p q = absurd q

frame_or_fault : (kind : ℕ) (body : List ℕ) (f : Frame) (e : FrameFault) → IsBodyOf f kind body → HasFault kind body e
    → ⊥
frame_or_fault kind body f BadFrame p q = q.1 f p
frame_or_fault kind body f TooLong p q = both_ways (is_long kind body) (frame_few f kind body p) q
frame_or_fault kind body f Memory p q = q

pub outcome_once : (kind : ℕ) (body : List ℕ) (r s : Answer) → IsOutcome kind body r → IsOutcome kind body s → s ≡ r
outcome_once kind body (Ok f) (Ok g) p q = ap (λ (x : Frame). Ok x) (frame_once g f kind body q p)
outcome_once kind body (Ok f) (Err e) p q = absurd (frame_or_fault kind body f e p q)
outcome_once kind body (Err d) (Ok g) p q = absurd (frame_or_fault kind body g d q p)
outcome_once kind body (Err d) (Err e) p q = fault_once kind body e d q p

pub only_outcome : (kind : ℕ) (body : List ℕ) (answered s : Answer) → Tells is_memory (λ f. f) answered
    (IsOutcome kind body) → IsOutcome kind body s → Gives is_memory (λ f. f) answered s
only_outcome kind body answered s told is =
    tells_map is_memory (λ f. f) answered (IsOutcome kind body) (λ r. s ≡ r) (λ r p. outcome_once kind body r s p is)
    told

-- ---- what is read

none_some : (f : Frame) (o : Option Frame) → o ≡ None → o ≡ Some f → ⊥
none_some f o p q = absurd cc

read_outcome : (kind : ℕ) (body : List ℕ) (o : Option Frame) → IsBytes body → is_long kind body ≡ false → (kind ≡ 3 → ⊥)
    → frame_at kind body ≡ o → IsOutcome kind body (or_bad o)
read_outcome kind body (Some f) fits few other e = frame_takes kind body f fits few e
read_outcome kind body None fits few other e = (
  few,
  λ f is. none_some f (frame_at kind body)
      e (frame_again f kind body is other),
)

pub read_tells : (kind : ℕ) (body : List ℕ) (answered : Answer) → IsBytes body → is_long kind body ≡ false
    → (kind ≡ 3 → ⊥)
    → Gives is_memory (λ f. f) answered (or_bad (frame_at kind body)) → Tells is_memory (λ f. f) answered
    (IsOutcome kind body)
read_tells kind body answered fits few other gives =
    tells_map is_memory (λ f. f) answered (λ r. or_bad (frame_at kind body) ≡ r) (IsOutcome kind body)
    (λ r e. subst (IsOutcome kind body) e (read_outcome kind body (frame_at kind body) fits few other refl)) gives

-- ---- whole texts

pub text_is : (h : HeaderParts) (body : List ℕ) (f : Frame) → length body ≡ h.length → IsBodyOf f h.kind body
    → header_text h ++ body ≡ text_of f
unfolding text_of
text_is h body f len is =
    let size : h.length ≡ length (body_text f) = sym len ∙ ap length (sym is.body_is) in
    ap (λ (k : ℕ). k ∷ (to_be_bytes w32 h.length ++ body)) (sym is.kind_is)
    ∙ ap (λ (n : ℕ). code_of f ∷ (to_be_bytes w32 n ++ body)) size
    ∙ ap (λ (t : List ℕ). code_of f ∷ (to_be_bytes w32 (length (body_text f)) ++ t)) (sym is.body_is)

pub body_is : (h : HeaderParts) (body : List ℕ) (f : Frame) → IsFrame f → header_text h ++ body ≡ text_of f
    → IsBodyOf f h.kind body
unfolding text_of
body_is h body f is e = record {
  kind_is = sym (ap (λ (t : List ℕ). get_or t 0 0) e);
  body_is = sym (ap (drop 5) e);
  lawful = is;
}

pub one_text : (f g : Frame) → IsFrame f → IsFrame g → text_of f ≡ text_of g → f ≡ g
unfolding text_of
one_text f g p q e =
    frame_once f g (code_of f) (body_text f) (record { kind_is = refl; body_is = refl; lawful = p })
    (record { kind_is = sym (ap (λ (t : List ℕ). get_or t 0 0) e); body_is = sym (ap (drop 5) e); lawful = q })

pub found_text : (h : HeaderParts) (body : List ℕ) (answered : Answer) → length body ≡ h.length
    → Tells is_memory (λ f. f) answered (IsOutcome h.kind body) → IfOk answered (λ f. header_text h ++ body ≡ text_of f)
found_text h body (Ok f) len told = text_is h body f len told
found_text h body (Err e) len told = tt
