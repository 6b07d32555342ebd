-- A log's words as a shelf's.
use Rattle.op_log.specs.declared.fault.LogFault.{LogFault}
use Rattle.op_log.specs.declared.fault.LogFault.TheVariants as of_log
use Rattle.op_log.specs.declared.kept.Kept.{Kept as Told}
use Rattle.op_log.specs.declared.kept.Kept.TheVariants as told
use Rattle.op_shelf.specs.declared.fault.ShelfFault.{ShelfFault}
use Rattle.op_shelf.specs.declared.fault.ShelfFault.TheVariants.{Store, BadRow, Memory}
use Rattle.op_shelf.specs.declared.fault.StoreCause.TheVariants as cause
use Rattle.op_shelf.specs.declared.kept.Kept.{Kept}
use Rattle.op_shelf.specs.declared.kept.Kept.TheVariants.{New, Known}

-- what a log tells of an operation is told so by what keeps operations
abbrev pub kept_of : Told → Kept
kept_of told.New = New
kept_of told.Known = Known

-- another operation under the digest, or what is none, is told as a bad row; want of memory as such
abbrev pub fault_of : LogFault → ShelfFault
fault_of of_log.Disk = Store cause.Failed
fault_of of_log.Closed = Store cause.Closed
fault_of of_log.TooLong = Store cause.Other
fault_of (of_log.DamagedHeads at) = BadRow
fault_of (of_log.DamagedBody at) = BadRow
fault_of of_log.Collision = BadRow
fault_of of_log.Memory = Memory
