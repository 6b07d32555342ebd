-- What is told of a site that took what stands for some operations is told of one that took these.
use Rattle.std.specs.Prelude.{◌≡◌, ℕ, List}
use Rattle.operation.specs.declared.op.Op.{Op}
use Rattle.operation.specs.declared.target.Target.{Target}
use Rattle.site_state.specs.Laws.{after_taking}
use Rattle.site_state.specs.Site.{ops_of}
use Rattle.site_state.specs.Whole.{recorded}
use Rattle.site_hub.specs.Stamps.{next_correction}
use Rattle.shelved_site.specs.Corrections.{is_known}
use Rattle.shelved_site.specs.Reports.{reported}
use Rattle.shelved_site.specs.Sites.{after_recording}

-- it has, under each digest, what stands for the operation that the other has
abbrev pub HoldsTheirRecords : Type 0
HoldsTheirRecords = (ops : List Op) → after_recording ops ≡ recorded (after_taking ops)

-- its report is the same
abbrev pub ReportsTheSame : Type 0
ReportsTheSame = (ops : List Op) (series : ℕ)
    → reported (after_recording ops) series ≡ reported (after_taking ops) series

-- the same correction comes next
abbrev pub IsFollowedByTheSame : Type 0
IsFollowedByTheSame = (ops : List Op) (number : ℕ) (target : Target) (tag : ℕ) (value : List ℕ)
    → next_correction number (after_recording ops) target tag value
    ≡ next_correction number (after_taking ops) target tag value

-- the same targets are known
abbrev pub KnowsTheSame : Type 0
KnowsTheSame = (ops : List Op) (target : Target)
    → is_known target (ops_of (after_recording ops)) ≡ is_known target (ops_of (after_taking ops))
