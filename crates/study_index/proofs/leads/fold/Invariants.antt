use Prim.Native.Nat.{◌-◌}
use Rattle.std.proofs.Common.{◌≡◌, refl, length}
use Rattle.std.specs.Char.{to_ascii_uppercase}
use Rattle.study_index.proofs.Folded.{Upto}
use Rattle.study_index.proofs.leads.fold.Given as goal

-- the bytes so far are capitals, and the others are as they were
abbrev pub invariant-loop-i : goal.invariant-loop-i
invariant-loop-i l = (l.i-end ≡ length l.initial.text) × Upto to_ascii_uppercase refl l.initial.text l.text l.i

abbrev pub decreases-loop-i : goal.decreases-loop-i
decreases-loop-i l = ◌-◌ l.i-end l.i
