-- Walking a file of heads from group to group.
use Rattle.std.specs.Prelude.{◌≡◌, ℕ, List, [], length, map}
use Rattle.head_log.specs.declared.gate.Gate.{Gate}
use Rattle.head_log.specs.Groups.{Laid, first_gate, joined}
use Rattle.op_log.specs.Filling.{AreFit}
use Rattle.op_log.specs.Heads.{Head, group_text}
use Rattle.op_log.specs.Kept.{StandsFor, settled}

-- these heads lie in groups from the front of the file to a gate, and their data sets lie below an offset
pub record AreLaid (file : List ℕ) (gate : Gate) (end : ℕ) (heads : List Head) : Type 0 where
  pub groups : List (List Head)
  pub are : settled (joined groups) ≡ heads
  pub laid : Laid file first_gate (map group_text groups) gate
  pub fit : AreFit end [] (joined groups)

-- One file stands for these heads. The data set of each that lies there is within the other file, and two of one digest
-- have one front.
pub record AreOfLog (heads bodies : List ℕ) (them : List Head) : Type 0 where
  pub stands : StandsFor heads them
  pub fit : AreFit (length bodies) [] (joined stands.groups)
