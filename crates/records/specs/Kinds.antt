-- What a recorded operation is seen as.
use Rattle.operation.specs.declared.op.Op.{Op}
use Rattle.operation.specs.declared.op.Op.TheVariants.{Content as a_content, Correction as a_correction}
use Rattle.records.specs.declared.recorded_op.Parts.{Parts}
use Rattle.records.specs.declared.recorded_op.Parts.TheVariants.{Content as content_part, Correction as correction_part}

abbrev pub op_of : Parts → Op
op_of (content_part c) = a_content c
op_of (correction_part k) = a_correction k
