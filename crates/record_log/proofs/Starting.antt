-- A file that is opened, and read.
use Rattle.std.proofs.Common.{◌≡◌, ℕ, List, [], length, map, inr, refl, arith}
use Rattle.sqlite_disk.specs.declared.Disk.{Ghosts}
use Rattle.head_log.specs.declared.gate.Gate.{Gate}
use Rattle.head_log.specs.Gates.{IsCutAt}
use Rattle.head_log.specs.Reads.{OnlyReads}
use Rattle.head_log.proofs.Gates.{groups_not_cut}
use Rattle.operation.specs.Parts.{ContentParts}
use Rattle.record_log.specs.Entries.{AreKept, AreTold, StandsFor, entries_text}

-- a file of no byte stands for no content
pub none_stands : (file : List ℕ) → length file ≡ 0 → StandsFor file []
none_stands file empty = record { groups = []; are = refl; laid = inr (omega (arith, empty), refl); told = tt }

-- a file that stands for contents is cut nowhere
pub stands_not_cut : (file : List ℕ) (cs : List ContentParts) (at : ℕ) → StandsFor file cs → IsCutAt file at → ⊥
stands_not_cut file cs at stands cut = groups_not_cut file (map entries_text stands.groups) at stands.laid cut

module _ {D : Type 0} (g : Ghosts D) where
  -- what a file keeps it tells
  pub told_of : (disk : D) (end : Gate) (cs : List ContentParts) → AreKept g disk end cs → g.may_leave disk (g.seen disk)
      → AreTold (g.seen disk) end cs
  told_of disk end cs kept may =
      record { groups = kept.groups; are = kept.are; laid = (kept.ready (g.seen disk) may).laid; told = kept.told }

  -- what is only read keeps the same
  pub kept_through : (old new : D) (end : Gate) (cs : List ContentParts) → OnlyReads g old new → AreKept g old end cs
      → AreKept g new end cs
  kept_through old new end cs reads kept =
      record {
        groups = kept.groups;
        are = kept.are;
        ready = λ file may. kept.ready file (reads.crash file may);
        told = kept.told;
      }
