-- The parts in which an operation is written.
use Rattle.std.specs.Prelude.{ℕ, length}
use Rattle.op_log.specs.declared.head.Spelled.{Spelled}
use Rattle.op_log.specs.Heads.{Head}

-- the head of an operation whose data set lies at an offset
abbrev pub head_spelled : Spelled → ℕ → Head
head_spelled s at = record { digest = s.digest.now; front = s.front.now; at = at; size = length s.body.now }
