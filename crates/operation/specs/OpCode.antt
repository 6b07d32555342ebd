-- Operations as one of two, by which proofs tell them apart.
use Rattle.std.specs.Prelude.{◌≡◌, refl, ◌⊎◌}
use Rattle.std.proofs.Common.{inl, inr}
use Rattle.std.specs.Coded.{Coded, code_by, coded⊎}
use Rattle.operation.specs.declared.op.Op.{Op}
use Rattle.operation.specs.declared.op.Op.TheVariants.{Content as a_content, Correction as a_correction}
use Rattle.operation.specs.Parts.{ContentParts, CorrectionParts}
use Rattle.operation.specs.Code.{content_code, correction_code}

abbrev pub op_to : Op → ContentParts ⊎ CorrectionParts
op_to (a_content c) = inl c
op_to (a_correction k) = inr k

abbrev pub op_from : ContentParts ⊎ CorrectionParts → Op
op_from (inl c) = a_content c
op_from (inr k) = a_correction k

abbrev pub op_back : (o : Op) → op_from (op_to o) ≡ o
op_back (a_content c) = refl
op_back (a_correction k) = refl

abbrev pub op_code : Coded Op
op_code = code_by (ContentParts ⊎ CorrectionParts) (coded⊎ content_code correction_code) op_to op_from op_back
