-- The public numbers of the faults of a world.
use Rattle.std.specs.Prelude.{ℕ}
use Rattle.site_world.specs.declared.fault.WorldFault.{WorldFault}
use Rattle.site_world.specs.declared.fault.WorldFault.TheVariants.{NoSite, NoMessage, Site, StampsSpent, Memory}
use Rattle.site_world.specs.declared.fault.WorldFault.TheVariants.{BadCorrection, OldSite}

abbrev pub number_of_world_fault : WorldFault → ℕ
number_of_world_fault NoSite = 1
number_of_world_fault NoMessage = 2
number_of_world_fault (Site fault) = 3
number_of_world_fault StampsSpent = 4
number_of_world_fault Memory = 5
number_of_world_fault BadCorrection = 6
number_of_world_fault OldSite = 7
