-- What a read brings to what is in hand.
use Rattle.std.proofs.Common.{◌≡◌, ℕ, ◌+◌, ◌<◌, ◌≤◌, List, ◌++◌, length, take, drop, slice_index, refl, sym, ap, ◌∙◌}
use Rattle.std.proofs.Common.{arith, inl, inr, length-append, length-drop, length-take-le}
use Rattle.std.proofs.Math.Seq.{take-add}
use Rattle.std.proofs.Math.ListN.{get_or-append}
use Rattle.std.proofs.lemmas.List.{take_all, take-append-le}
use Rattle.pdu.specs.Grammar.{HasLawfulHeader, size_of}
use Rattle.association_run.specs.inner.Inbox.{Wants}

-- the bytes so far, and those that were read behind them
pub grown : (filled count : ℕ) (old mid new : List ℕ) → take filled mid ≡ take filled old → take filled new ≡ take
    filled mid → take (filled + count) new ≡ take filled old ++ take count (drop filled new)
grown filled count old mid new was kept = take-add filled count new
    ∙ ap (λ (t : List ℕ). t ++ take count (drop filled new)) (kept ∙ was)

at_front : (text more : List ℕ) (i : ℕ) → i < length text → slice_index (text ++ more) i ≡ slice_index text i
at_front text more i lt = get_or-append text more 0 i lt

size_kept : (text more : List ℕ) → 6 ≤ length text → size_of (text ++ more) ≡ size_of text
size_kept text more le =
    rw (
      at_front text more 2 (omega (arith, le)),
      at_front text more 3 (omega (arith, le)),
      at_front text more
          4 (omega (arith, le)),
      at_front text more 5 (omega (arith, le)),
    ) refl

lawful_kept : (text more : List ℕ) → HasLawfulHeader text → HasLawfulHeader (text ++ more)
lawful_kept text more h = (
  omega (arith, h.0, length-append text more),
  rw (
    size_kept text more h.0,
    at_front text more
        0 (omega (arith, h.0)),
  ) h.1,
)

pub wants_still : (text more : List ℕ) (wanted : ℕ) → length (text ++ more) ≤ wanted
    → Wants (record { text = text; wanted = wanted }) → Wants (record { text = text ++ more; wanted = wanted })
wants_still text more wanted le (few, inl header) = (le, inl header)
wants_still text more wanted le (few, inr body) =
    (le, inr (lawful_kept text more body.0, body.1 ∙ ap (λ (n : ℕ). n + 6) (sym (size_kept text more body.0.0))))

-- what was wanted is filled up to there, with room behind it
pub resized : (filled n : ℕ) (bytes room : List ℕ) → filled ≤ length bytes → length bytes ≤ n
    → take filled (take n bytes ++ room) ≡ take filled bytes
resized filled n bytes room le upto =
    ap (λ (t : List ℕ). take filled (t ++ room)) (take_all n bytes upto) ∙ take-append-le filled bytes room le

-- as many bytes as are there
pub counted : (filled count : ℕ) (bytes : List ℕ) → filled + count ≤ length bytes
    → length (take count (drop filled bytes)) ≡ count
counted filled count bytes le = length-take-le count (drop filled bytes) (omega (arith, le, length-drop filled bytes))
