-- What is refused to a pass: `Busy` and `Pending` are told where it was, and nowhere else.
use Rattle.std.specs.Prelude.{◌≡◌, ℕ, Bool, Result, MatchResult, MatchBool, ⊤}
use Rattle.devices.specs.Failures.{Rose}
use Rattle.site_hub.specs.declared.fault.HubFault.{HubFault}
use Rattle.site_hub.specs.declared.fault.HubFault.TheVariants.{Busy, Collision, Memory, StampsSpent, Torn, Pending}
use Rattle.site_hub.specs.declared.fault.HubFault.TheVariants.{BadCorrection}

-- one refusal was counted, unless this is true
abbrev pub CountsUnless : Bool → ℕ → ℕ → Type 0
CountsUnless done old new = MatchBool done (new ≡ old) (Rose old new)

-- what a fault says of the count: one refusal more for these two, and nothing for any other
abbrev pub TellsFault : ℕ → ℕ → HubFault → Type 0
TellsFault old new Busy = Rose old new
TellsFault old new Pending = Rose old new
TellsFault old new Collision = ⊤
TellsFault old new Memory = ⊤
TellsFault old new StampsSpent = ⊤
TellsFault old new Torn = ⊤
TellsFault old new BadCorrection = ⊤

-- what a call says of it: none where it succeeded
abbrev pub Tells : {A : Type 0} → Result A HubFault → ℕ → ℕ → Type 0
Tells result old new = MatchResult result (λ _. new ≡ old) (TellsFault old new)
