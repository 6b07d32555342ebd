-- The faults of a site.
use Rattle.std.specs.Prelude.{ℕ}
use Rattle.site_state.specs.declared.fault.SiteFault.{SiteFault}
use Rattle.site_state.specs.declared.fault.SiteFault.TheVariants.{Collision, Memory}

-- the public number of a fault
abbrev pub number_of : SiteFault → ℕ
number_of Collision = 1
number_of Memory = 2
