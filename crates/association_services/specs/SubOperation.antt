-- Where a C-GET is whose sub-operations are performed (PS3.7, 9.1.3; PS3.4, C.4.3).
use Rattle.std.specs.Prelude.{◌≤◌, ℕ, ◌+◌, Bool, List}
use Rattle.archive_model.specs.declared.listed.Listed.{Listed}
use Rattle.association_services.specs.declared.retrieval.Progress.{Progress}
use Rattle.association_services.specs.declared.retrieval.TheConstants.{MOST_SUB_OPERATIONS}
use Rattle.association_services.specs.declared.way.Way.{Way}
use Rattle.association_services.specs.Get.{all_counted}

-- what is to be sent for it, in order
pub record Retrieval : Type 0 where
  pub progress : Progress
  pub left : List Listed

-- a sub-operation whose content is awaited of the port; what is to be sent behind it; and on which context it goes out
pub record Loading : Type 0 where
  pub progress : Progress
  pub listed : Listed
  pub left : List Listed
  pub way : Way

-- a sub-operation whose response is awaited; what is to be sent behind it; and whether a C-CANCEL was heard
pub record SubOperation : Type 0 where
  pub progress : Progress
  pub left : List Listed
  pub instance : List ℕ
  pub cancelled : Bool

-- No more are counted, and no greater message ID is used, than there are sub-operations.
abbrev pub IsBound : Progress → ℕ → Type 0
IsBound g left = (g.sent + left ≤ MOST_SUB_OPERATIONS) × (all_counted g.counts + left ≤ MOST_SUB_OPERATIONS)

-- the same, with the one whose response is awaited
abbrev pub IsBoundSent : Progress → ℕ → Type 0
IsBoundSent g left = (g.sent + left ≤ MOST_SUB_OPERATIONS)
    × (all_counted g.counts + (left + 1) ≤ MOST_SUB_OPERATIONS)
