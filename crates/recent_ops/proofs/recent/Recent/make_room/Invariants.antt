use Rattle.std.proofs.Common.{◌≡◌, ◌-◌, length}
use Rattle.std.specs.Map.{values_of}
use Rattle.recent_ops.specs.Recent.{IsKept, fitting}
use Rattle.recent_ops.proofs.recent.Recent.make_room.Given as goal

-- Of those that stay none has gone.
abbrev pub invariant-loop-self : goal.invariant-loop-self
invariant-loop-self l =
    IsKept l.self-inside.ops.entries l.self-inside.ops.cap l.self-inside.bytes l.self-inside.room
    × (l.self-inside.room ≡ l.fn.self.room) × (l.most ≡ l.fn.self.room - l.weight)
    × (fitting l.most (values_of l.self-inside.ops.entries) ≡ fitting l.most l.fn.self.held)

-- With each that goes fewer are left.
abbrev pub decreases-loop-self : goal.decreases-loop-self
decreases-loop-self l = length l.self-inside.ops.entries
