-- What a round tells of an operation that its holder refuses.
use Rattle.std.proofs.Common.{◌≡◌, Result, Err}
use Rattle.operation.specs.declared.taken.Taken.{Taken}
use Rattle.exchange.specs.declared.fault.HolderFault.{HolderFault}
use Rattle.exchange.specs.declared.fault.HolderFault.TheVariants as holders
use Rattle.exchange.specs.declared.fault.ExchangeFault.{ExchangeFault}
use Rattle.exchange.specs.declared.fault.ExchangeFault.TheVariants.{Memory, Refused}
use Rattle.exchange.specs.Fault.{of_holder, IsRefusal}

abbrev pub told : ExchangeFault → Result Taken ExchangeFault
told fault = Err fault

-- What the holder refused is told as that.
pub refused_is : (P : HolderFault → Type 0) (cause : HolderFault) → P cause → told (of_holder cause) ≡ told Refused
    → IsRefusal P
refused_is P cause is e = (cause, is, cc)

pub memory_is : (P : HolderFault → Type 0) (cause : HolderFault) → P cause → told (of_holder cause) ≡ told Memory
    → P holders.Memory
memory_is P holders.Memory is e = is
memory_is P holders.Refused is e = absurd cc
memory_is P holders.Unreadable is e = absurd cc
