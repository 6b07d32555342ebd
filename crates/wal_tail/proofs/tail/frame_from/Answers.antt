use Rattle.std.proofs.Common.{◌≡◌, ◌+◌, ◌-◌, ◌≤◌, ℕ, List, length, take, drop, ap, ◌∙◌, arith}
use Rattle.std.proofs.lemmas.List.{length-drop, length-take-le}
use Rattle.sqlite_wal.specs.Format.{part}
use Rattle.wal_tail.specs.Tail.{IsFrameFrom, page_size}
use Rattle.wal_tail.proofs.tail.frame_from.Goals as goal

module _ (log : List ℕ) (begin page : ℕ) (is : page ≡ page_size log) (within : begin + (24 + page) ≤ length log) where
  size : begin + (24 + page) - begin ≡ 24 + page_size log
  size = omega (arith, is)

  long : length (take (24 + page_size log) (drop begin log)) ≡ 24 + page_size log
  long = length-take-le (24 + page_size log) (drop begin log) (omega (arith, is, within, length-drop begin log))

  from : IsFrameFrom log begin (take (begin + (24 + page) - begin) (drop begin log))
  unfolding part
  from = record {
    within = omega (arith, is, within);
    is = ap (λ n. take n (drop begin log)) size;
    long = ap (λ n. length (take n (drop begin log))) size ∙ long;
  }

-- The bytes from the place on are that frame.
pub returns-clause-whole : goal.returns-clause-whole
returns-clause-whole c = from c.args.log.now c.args.begin c.number_at.result c.number_at.ensures (omega arith)
