-- What a log has goes on to be there, and nothing else comes.
use Rattle.std.proofs.Common.{◌≡◌, ◌+◌, ◌≤◌, ℕ, List, All, length, take, drop, sym, ◌∙◌, ap, subst, arith}
use Rattle.std.proofs.lemmas.List.{length-take-le, length-drop, get_or-take, get_or-drop}
use Rattle.sqlite_disk.specs.Disk.{Holds}
use Rattle.sqlite_disk.specs.declared.Disk.{Ghosts}
use Rattle.body_log.specs.Lasts.{Spares}
use Rattle.head_log.proofs.Texts.{once}
use Rattle.sha2.specs.Sha256.{sha256}
use Rattle.operation.specs.declared.op.Op.{Op}
use Rattle.operation.specs.Spelling.{hash_of, spelling}
use Rattle.op_log.specs.Heads.{Entry, Head, body_of, head_of}
use Rattle.op_log.proofs.Lookups.{among}
use Rattle.op_log.specs.Kept.{Has, IsBelow, IsHeld}

-- operations that are spelled alike have one digest
pub one_digest : (a b : Op) → spelling a ≡ spelling b → hash_of a ≡ hash_of b
unfolding hash_of
one_digest a b same = ap sha256 same

-- a file has, at an offset, the bytes that it has there
pub own_bytes : (file : List ℕ) (at n : ℕ) → at + n ≤ length file → Holds file at (take n (drop at file))
own_bytes file at n low =
    let many : length (take n (drop at file)) ≡ n = length-take-le n (drop at file) (omega (arith, low, length-drop at file)) in
    record {
      within = omega (arith, low, many);
      each = λ i few. sym (get_or-take n (drop at file) i 0 (omega (arith, few, many)) ∙ get_or-drop at file i 0);
    }

-- bytes below an offset that a file has now it had before, if it reached so far
pub back : {B : Type 0} (g : Ghosts B) (end : ℕ) (old new : B) → Spares g end old new → end ≤ length (g.seen old) → (at : ℕ) (bytes : List ℕ)
    → at + length bytes ≤ end → Holds (g.seen new) at bytes → Holds (g.seen old) at bytes
back g end old new spared reach at bytes low now =
    let was = own_bytes (g.seen old) at (length bytes) (omega (arith, low, reach)) in
    let many : length (take (length bytes) (drop at (g.seen old))) ≡ length bytes =
    length-take-le (length bytes) (drop at (g.seen old)) (omega (arith, low, reach, length-drop at (g.seen old))) in
    let still = spared.kept at (take (length bytes) (drop at (g.seen old))) (omega (arith, low, many)) was in
    subst (λ (bs : List ℕ). Holds (g.seen old) at bs) (once (g.seen new) at _ _ many still now) was

module _ {B : Type 0} (g : Ghosts B) (old new : B) (end end' : ℕ) (spared : Spares g end old new) (longer : end ≤ end') where
  -- a data set goes on to lie there
  pub held_on : (e : Entry) → IsHeld g old end e → IsHeld g new end' e
  held_on e held some =
      let was = held some in
      (spared.kept e.1 (body_of e.0) was.1 was.0, omega (arith, was.1, longer))

  -- no operation that was not had before is had under the same heads
  pub has_back : (heads : List Head) (op : Op) → end ≤ length (g.seen old) → All (IsBelow end) heads → Has g new end' heads op
      → Has g old end heads op
  has_back heads op reach below (at, first, held) =
      let low = among (IsBelow end) heads (hash_of op) (head_of (op, at)) first below in
      (at, first, λ some. (back g end old new spared reach at (body_of op) low (held some).0, low))
