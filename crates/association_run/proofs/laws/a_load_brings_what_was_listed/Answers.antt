use Rattle.std.proofs.Common.{◌≡◌, ap}
use Rattle.operation.specs.declared.op.Op.TheVariants.{Content as a_content}
use Rattle.operation.specs.RecordParts.{ContentRecordParts}
use Rattle.association_run.proofs.laws.a_load_brings_what_was_listed.Goals as goal

-- Both have the digest of the record.
pub returns : goal.returns
returns g c before after held loaded loads apart =
    let same : a_content loaded ≡ a_content held = apart (ap (λ (r : ContentRecordParts). r.digest) loads.replied) in
    cc
