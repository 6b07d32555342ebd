-- The site of a store.
use Rattle.std.specs.Prelude.{◌≡◌, List, ⊤, map, All}
use Rattle.operation.specs.declared.op.Op.{Op}
use Rattle.records.specs.StandIn.{op_in}
use Rattle.op_shelf.specs.Recording.{KeepsDigest}
use Rattle.op_shelf.specs.declared.fault.ShelfFault.{ShelfFault}
use Rattle.site_state.specs.Site.{Map}
use Rattle.site_state.specs.Laws.{after_taking}
use Rattle.shelved_site.specs.declared.fault.ShelvedFault.{ShelvedFault}
use Rattle.shelved_site.specs.declared.fault.ShelvedFault.TheVariants.{Shelf, Site, Hub, Hidden}

-- records that stand for operations, which a store lists, and have their digests
pub record AreRecords (lists : List Op → Type 0) (recorded : List Op) : Type 0 where
  pub ops : List Op
  pub listed : lists ops
  pub digests : All KeepsDigest ops
  pub stand : recorded ≡ map op_in ops

-- what a new site holds once it took what stands for some operations
abbrev pub after_recording : List Op → Map
after_recording ops = after_taking (map op_in ops)

-- the site that took what stands for operations, which a store lists
pub record IsSiteOf (lists : List Op → Type 0) (site : Map) : Type 0 where
  pub ops : List Op
  pub listed : lists ops
  pub took : site ≡ after_recording ops

-- a fault of a store or of its site, before there is a hub
abbrev pub IsBeforeHub : ShelvedFault → Type 0
IsBeforeHub (Shelf _) = ⊤
IsBeforeHub (Site _) = ⊤
IsBeforeHub (Hub _) = ⊥
IsBeforeHub Hidden = ⊥

-- a fault of a hub, or a refusal to open one
abbrev pub IsBehindSite : ShelvedFault → Type 0
IsBehindSite (Shelf _) = ⊥
IsBehindSite (Site _) = ⊥
IsBehindSite (Hub _) = ⊤
IsBehindSite Hidden = ⊤

-- a fault of a store only where that refuses so
abbrev pub IsOfStore : (ShelfFault → Type 0) → ShelvedFault → Type 0
IsOfStore refuses (Shelf fault) = refuses fault
IsOfStore refuses (Site _) = ⊤
IsOfStore refuses (Hub _) = ⊤
IsOfStore refuses Hidden = ⊤
