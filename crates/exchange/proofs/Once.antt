-- A stream spells one list of frames.
use Rattle.std.proofs.Common.{◌≡◌, ◌≤◌, ◌+◌, ℕ, List, [], ◌∷◌, ◌++◌, length, take, drop, Result, Ok}
use Rattle.std.proofs.Common.{refl, sym, ap, ◌∙◌, arith}
use Rattle.std.proofs.Math.Seq.{take-append_seam, drop-append_seam}
use Rattle.std.proofs.lemmas.List.{length-append, length-take-le, take-append-drop}
use Rattle.std.proofs.lemmas.List.Concat.{flat_map-cons}
use Rattle.exchange_frames.specs.declared.fault.FrameFault.{FrameFault}
use Rattle.exchange_frames.specs.declared.frame.Frame.{Frame}
use Rattle.exchange_frames.specs.Header.{HeaderParts, header_at}
use Rattle.exchange_frames.specs.Spelling.{text_of, IsFrame}
use Rattle.exchange_frames.proofs.Outcomes.{one_text}
use Rattle.exchange_frames.proofs.Writings.{written_again}
use Rattle.exchange.specs.Hearing.{texts, AreFrames}

-- the first five bytes of a text are those of its frame
head_of : (f : Frame) (rest : List ℕ) → take 5 (text_of f ++ rest) ≡ take 5 (text_of f)
unfolding text_of
head_of f rest = refl

head_long : (f : Frame) → 5 ≤ length (text_of f)
unfolding text_of
head_long f = omega arith

drop_length : (n : ℕ) (text : List ℕ) → n ≤ length text → n + length (drop n text) ≡ length text
drop_length n text le =
    omega (
      arith,
      le,
      ap length (take-append-drop n text),
      length-append (take n text) (drop n text),
      length-take-le n text le,
    )

same_parts : (p q : HeaderParts) (r s : Result HeaderParts FrameFault) → r ≡ Ok p → s ≡ Ok q → r ≡ s → p ≡ q
same_parts p q r s is_p is_q e = let one : Ok p ≡ Ok q = sym is_p ∙ e ∙ is_q in cc

-- frames whose texts stand first in one stream have texts of one length
same_length : (f g : Frame) (x y : List ℕ) → IsFrame f → IsFrame g → text_of f ++ x ≡ text_of g ++ y
    → length (text_of f) ≡ length (text_of g)
same_length f g x y is_f is_g e =
    let again_f = written_again f is_f in
    let again_g = written_again g is_g in
    let heads : take 5 (text_of f) ≡ take 5 (text_of g) = sym (head_of f x) ∙ ap (take 5) e ∙ head_of g y in
    let parts = same_parts again_f.parts again_g.parts (header_at (take 5 (text_of f))) (header_at (take 5 (text_of g)))
    again_f.header again_g.header (ap header_at heads) in
    omega (
      arith,
      again_f.length_is,
      again_g.length_is,
      ap (λ (p : HeaderParts). p.length) parts,
      drop_length 5 (text_of f) (head_long f),
      drop_length 5 (text_of g) (head_long g),
    )

both_parts : (a b x y : List ℕ) → length a ≡ length b → a ++ x ≡ b ++ y → (a ≡ b) × (x ≡ y)
both_parts a b x y same e = (
  sym (take-append_seam a x) ∙ ap (λ (n : ℕ). take n (a ++ x)) same ∙ ap (take (length b)) e ∙ take-append_seam b y,
  sym (drop-append_seam a x) ∙ ap (λ (n : ℕ). drop n (a ++ x)) same ∙ ap (drop (length b)) e ∙ drop-append_seam b y,
)

no_text : (f : Frame) (rest : List ℕ) → [] ≡ text_of f ++ rest → ⊥
no_text f rest e = absurd (omega (arith, ap length e, length-append (text_of f) rest, head_long f))

pub texts_once : (fs gs : List Frame) → AreFrames fs → AreFrames gs → texts fs ≡ texts gs → fs ≡ gs
texts_once [] [] are_f are_g e = refl
texts_once [] (g ∷ gs) are_f are_g e = absurd (no_text g (texts gs) (e ∙ flat_map-cons text_of g gs))
texts_once (f ∷ fs) [] are_f are_g e = absurd (no_text f (texts fs) (sym e ∙ flat_map-cons text_of f fs))
texts_once (f ∷ fs) (g ∷ gs) are_f are_g e =
    let whole = sym (flat_map-cons text_of f fs) ∙ e ∙ flat_map-cons text_of g gs in
    let parts = both_parts (text_of f) (text_of g) (texts fs) (texts gs)
    (same_length f g (texts fs) (texts gs) are_f.0 are_g.0 whole) whole in
    ap (λ (x : Frame). x ∷ fs) (one_text f g are_f.0 are_g.0 parts.0)
    ∙ ap (λ (xs : List Frame). g ∷ xs) (texts_once fs gs are_f.1 are_g.1 parts.1)
