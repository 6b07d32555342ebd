-- Which kind an operation is of.
use Rattle.std.specs.Prelude.{Option, Some, None}
use Rattle.operation.specs.declared.op.Op.{Op}
use Rattle.operation.specs.declared.op.Op.TheVariants.{Content as a_content, Correction as a_correction}
use Rattle.operation.specs.Parts.{ContentParts, CorrectionParts}

abbrev pub content_in : Op → Option ContentParts
content_in (a_content c) = Some c
content_in (a_correction k) = None

abbrev pub correction_in : Op → Option CorrectionParts
correction_in (a_content c) = None
correction_in (a_correction k) = Some k
