-- Corrections that a store keeps.
use Rattle.std.specs.Prelude.{◌≡◌, ◌<◌, ℕ, List, Ok, Err, Bool, false, ⊤, length}
use Rattle.std.specs.List.{list_any}
use Rattle.operation.specs.declared.op.Op.{Op}
use Rattle.operation.specs.declared.op.Op.TheVariants.{Content as a_content, Correction as a_correction}
use Rattle.operation.specs.declared.target.Target.{Target}
use Rattle.operation.specs.Parts.{CorrectionParts}
use Rattle.archive_model.specs.Attributes.{is_target_of}
use Rattle.site_state.specs.Site.{Map, ops_of, top_counter_of}
use Rattle.site_hub.specs.Stamps.{next_correction, LAST_COUNTER}
use Rattle.shelved_site.specs.Sites.{after_recording}
use Rattle.shelved_site.specs.declared.correcting.Corrected.{Corrected}
use Rattle.shelved_site.specs.declared.unreadable.Unreadable.{Unreadable}
use Rattle.shelved_site.specs.declared.fault.ShelvedFault.{ShelvedFault}
use Rattle.shelved_site.specs.declared.fault.ShelvedFault.TheVariants.{Shelf, Site, Hub, Hidden}

-- whether an operation is a content of a target
abbrev pub is_of : Target → Op → Bool
is_of target (a_content c) = is_target_of c target
is_of target (a_correction k) = false

-- whether a set has a content of a target
abbrev pub is_known : Target → List Op → Bool
is_known target ops = list_any (is_of target) ops

-- The correction that comes next at the site of the store: it has this stamp, and whatever a crash leaves of the store
-- has it afterwards. Whether its target was known there is told.
pub record IsCorrected (lists : List Op → Type 0) (is_left : Op → Type 0) (number : ℕ) (target : Target) (tag : ℕ)
    (value : List ℕ) (told : Corrected) : Type 0 where
  pub ops : List Op
  pub listed : lists ops
  pub made : CorrectionParts
  pub next : Ok made ≡ next_correction number (after_recording ops) target tag value
  pub stamped : told.stamp ≡ made.stamp
  pub known : told.is_known ≡ is_known target (ops_of (after_recording ops))
  pub lasts : is_left (a_correction made)

-- the same of a site: the correction that comes next there, and whether its target is known
pub record IsNext (site : Map) (is_left : Op → Type 0) (number : ℕ) (target : Target) (tag : ℕ) (value : List ℕ)
    (told : Corrected) : Type 0 where
  pub made : CorrectionParts
  pub next : Ok made ≡ next_correction number site target tag value
  pub stamped : told.stamp ≡ made.stamp
  pub known : told.is_known ≡ is_known target (ops_of site)
  pub lasts : is_left (a_correction made)

-- a correction with the last counter is in the store
pub record IsSpent (lists : List Op → Type 0) : Type 0 where
  pub ops : List Op
  pub listed : lists ops
  pub spent : top_counter_of (ops_of (after_recording ops)) ≡ LAST_COUNTER

-- some of a store's operations could not be read
pub record LacksSome (reads : List Unreadable → List Op → Type 0) : Type 0 where
  pub told : List Unreadable
  pub some : 0 < length told
  pub ops : List Op
  pub read : reads told ops

-- No correction was made in a store: it refused, or its site did, or some of it can't be read, or over its operations
-- none comes next, for this reason.
abbrev pub IsUncorrected : (List Op → Type 0) → ℕ → Target → ℕ → List ℕ → ShelvedFault → Type 0
IsUncorrected lists number target tag value (Shelf _) = ⊤
IsUncorrected lists number target tag value (Site _) = ⊤
IsUncorrected lists number target tag value (Hub fault) =
    (ops : List Op) × lists ops × (next_correction number (after_recording ops) target tag value ≡ Err fault)
IsUncorrected lists number target tag value Hidden = ⊤

-- no correction was made at a site: its store refused, or none comes next there, for this reason
abbrev pub IsUnmade : Map → ℕ → Target → ℕ → List ℕ → ShelvedFault → Type 0
IsUnmade site number target tag value (Shelf _) = ⊤
IsUnmade site number target tag value (Site _) = ⊥
IsUnmade site number target tag value (Hub fault) = next_correction number site target tag value ≡ Err fault
IsUnmade site number target tag value Hidden = ⊥
