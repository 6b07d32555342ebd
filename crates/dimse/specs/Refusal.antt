-- Why a command set is refused.
use Rattle.std.specs.Prelude.{ℕ, List}
use Rattle.dimse.specs.declared.command.Command.{Command}
use Rattle.dimse.specs.declared.fault.DimseFault.{DimseFault}
use Rattle.dimse.specs.declared.fault.DimseFault.TheVariants.{BadCommand, Memory}
use Rattle.dimse.specs.Elements.{Element}
use Rattle.dimse.specs.Command.{Says, SpellsElements, Spells}

-- The text spells no command, or memory ran out.
abbrev pub IsRefusal : List ℕ → DimseFault → Type 0
IsRefusal text BadCommand = (c : Command) → Spells text c → ⊥
IsRefusal text Memory = Unit {0}
IsRefusal text _ = ⊥

-- The text spells no elements, or memory ran out.
abbrev pub RefusesElements : List ℕ → DimseFault → Type 0
RefusesElements text BadCommand = (es : List Element) → SpellsElements text es → ⊥
RefusesElements text Memory = Unit {0}
RefusesElements text _ = ⊥

-- The elements say no command, or memory ran out.
abbrev pub RefusesCommand : List Element → DimseFault → Type 0
RefusesCommand es BadCommand = (c : Command) → Says es c → ⊥
RefusesCommand es Memory = Unit {0}
RefusesCommand es _ = ⊥
