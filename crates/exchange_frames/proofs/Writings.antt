-- What is written is read again.
use Rattle.std.proofs.Common.{◌≡◌, ℕ, ◌+◌, ◌≤◌, ◌<◌, true, false, List, ◌∷◌, ◌++◌, length, take, Option, None, Ok, refl}
use Rattle.std.proofs.Common.{ap, ◌∙◌, arith}
use Rattle.std.specs.Int.{w16, w32, w64, to_be_bytes}
use Rattle.std.proofs.lemmas.Bool.{le-ltb}
use Rattle.std.proofs.lemmas.List.{length-append}
use Rattle.std.proofs.lemmas.Nat.{from_be_bytes-to_be_bytes_4}
use Rattle.operation.specs.declared.op.Op.{Op}
use Rattle.operation.specs.declared.op.Op.TheVariants.{Content, Correction}
use Rattle.operation.specs.declared.target.Target.{Target}
use Rattle.operation.specs.declared.target.Target.TheVariants.{Study, Patient, Series}
use Rattle.operation.specs.Contents.{IsContent}
use Rattle.operation.specs.Corrections.{IsCorrection}
use Rattle.operation.specs.Parts.{ContentParts, CorrectionParts, key_of}
use Rattle.operation.specs.Reading.{IsOp}
use Rattle.operation.specs.Spelling.{spelling, content_text, correction_text, target_text, short_text, syntax_byte}
use Rattle.operation.proofs.Bounds.{class_short, instance_short, body_short, value_short, target_short}
use Rattle.exchange_frames.specs.declared.fault.FrameFault.{FrameFault}
use Rattle.exchange_frames.specs.declared.frame.Frame.{Frame}
use Rattle.exchange_frames.specs.declared.frame.Frame.TheVariants.{Have, Want, Give, End, Buckets, Differ, Hello}
use Rattle.exchange_frames.specs.declared.header.TheConstants.{LONGEST_BODY}
use Rattle.exchange_frames.specs.Header.{HeaderParts, is_kind, header_fault, header_of, header_at, or_fault, head_text}
use Rattle.exchange_frames.specs.Spelling.{code_of, body_text, text_of, IsFrame}
use Rattle.exchange_frames.specs.Writing.{is_too_long, IsWrittenAgain}
use Rattle.exchange_frames.proofs.Lists.{text_length}

-- ---- how long a spelling is

content_length : (c : ContentParts) → IsContent c → length (content_text c) ≤ 67109000
content_length c is =
    let behind : List ℕ = syntax_byte c.syntax ∷ (to_be_bytes w32 (length c.body) ++ c.body) in
    omega (
      arith,
      length-append c.class (short_text c.instance ++ behind),
      length-append c.instance behind,
      class_short
          c is,
      instance_short c is,
      body_short c is,
    )

target_length : (t : Target) (rest : List ℕ) → length (target_text t ++ rest) ≤ 3 + (length (key_of t) + length rest)
target_length (Study key) rest = omega (arith, length-append key rest)
target_length (Patient key) rest = omega (arith, length-append key rest)
target_length (Series key) rest = omega (arith, length-append key rest)

correction_length : (k : CorrectionParts) → IsCorrection k → length (correction_text k) ≤ 67109000
correction_length k is =
    let after : List ℕ = to_be_bytes w64 k.stamp.counter ++ to_be_bytes w16 k.stamp.site in
    let behind : List ℕ = to_be_bytes w32 k.tag ++ (to_be_bytes w16 (length k.value) ++ (k.value ++ after)) in
    omega (arith, target_length k.target behind, length-append k.value after, value_short k is, target_short k is)

pub spelling_length : (op : Op) → IsOp op → length (spelling op) ≤ 67109000
unfolding spelling
spelling_length (Content c) is = content_length c is
spelling_length (Correction k) is = correction_length k is

pub short_spelling : (op : Op) (text : List ℕ) → text ≡ spelling op → IsOp op → length text < 4294967296
short_spelling op text e is = omega (arith, ap length e, spelling_length op is)

body_length : (f : Frame) → IsFrame f → length (body_text f) ≤ LONGEST_BODY
body_length (Have ds) is = omega (arith, text_length ds is.whole, is.short)
body_length (Want ds) is = omega (arith, text_length ds is.whole, is.short)
body_length (Give op) is = spelling_length op is
body_length End is = omega arith
body_length (Buckets ds) is = omega (arith, text_length ds is.1, is.0)
body_length (Differ ps) is = omega (arith, is.0)
body_length (Hello v) is = omega arith

-- ---- headers

known : (f : Frame) → is_kind (code_of f) ≡ true
known (Have ds) = refl
known (Want ds) = refl
known (Give op) = refl
known End = refl
known (Buckets ds) = refl
known (Differ ps) = refl
known (Hello v) = refl

no_fault : (kind n : ℕ) → is_kind kind ≡ true → n ≤ LONGEST_BODY → header_fault kind n ≡ None
no_fault kind n is short = rw (is, le-ltb LONGEST_BODY n short) refl

abbrev parts_of : Frame → HeaderParts
parts_of f = record { kind = code_of f; length = length (body_text f) }

header_again : (f : Frame) → length (body_text f) ≤ LONGEST_BODY → header_of (code_of f) (length (body_text f)) ≡ Ok
    (parts_of f)
header_again f short = ap (λ (o : Option FrameFault). or_fault o (parts_of f))
    (no_fault (code_of f) (length (body_text f)) (known f) short)

again : (f : Frame) → length (body_text f) ≤ LONGEST_BODY → header_at (take 5 (text_of f)) ≡ Ok (parts_of f)
unfolding text_of
again f short =
    ap (λ (n : ℕ). header_of (code_of f) n) (from_be_bytes-to_be_bytes_4 (length (body_text f)) (omega (arith, short)))
    ∙ header_again f short

not_long : (f : Frame) → IsFrame f → is_too_long f ≡ false
not_long (Have ds) is = le-ltb _ _ is.short
not_long (Want ds) is = le-ltb _ _ is.short
not_long (Give op) is = refl
not_long End is = refl
not_long (Buckets ds) is = le-ltb _ _ (omega (arith, is.0))
not_long (Differ ps) is = le-ltb _ _ (omega (arith, is.0))
not_long (Hello v) is = refl

pub written_again : (f : Frame) → IsFrame f → IsWrittenAgain f
unfolding text_of
written_again f is = record {
  parts = parts_of f;
  header = again f (body_length f is);
  length_is = refl;
  body = record { kind_is = refl; body_is = refl; lawful = is };
  short = not_long f is;
}

-- ---- a GIVE

pub of_whole : (out before body text : List ℕ) → before ++ body ≡ text → out ≡ head_text 3 (length (before ++ body))
    ++ (before ++ body) → out ≡ head_text 3 (length text) ++ text
of_whole out before body text whole e = e ∙ ap (λ (t : List ℕ). head_text 3 (length t) ++ t) whole

pub of_spelled : (out text : List ℕ) (op : Op) → text ≡ spelling op → out ≡ head_text 3 (length text) ++ text
    → out ≡ text_of (Give op)
unfolding text_of
of_spelled out text op e is = is ∙ ap (λ (t : List ℕ). head_text 3 (length t) ++ t) e
