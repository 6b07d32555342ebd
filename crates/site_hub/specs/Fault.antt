-- The faults of a hub.
use Rattle.std.specs.Prelude.{ℕ, ◌⊎◌, ◌≡◌}
use Rattle.site_hub.specs.declared.fault.HubFault.{HubFault}
use Rattle.site_hub.specs.declared.fault.HubFault.TheVariants.{Busy, Collision, Memory, StampsSpent, Torn, Pending}
use Rattle.site_hub.specs.declared.fault.HubFault.TheVariants.{BadCorrection}

-- the public number of a fault
abbrev pub number_of : HubFault → ℕ
number_of Busy = 1
number_of Collision = 2
number_of Memory = 3
number_of StampsSpent = 4
number_of Torn = 5
number_of Pending = 6
number_of BadCorrection = 7

-- the faults of a look
abbrev pub IsLookFault : HubFault → Type 0
IsLookFault fault = (fault ≡ Busy) ⊎ (fault ≡ Memory)

-- the faults of a correction that are told at its pass's turn
abbrev pub IsTurnFault : HubFault → Type 0
IsTurnFault fault = (fault ≡ StampsSpent) ⊎ (fault ≡ Collision) ⊎ (fault ≡ Pending)
