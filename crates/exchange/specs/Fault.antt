-- Faults of holders and of exchanges.
use Rattle.std.specs.Prelude.{◌≡◌, ℕ}
use Rattle.exchange_frames.specs.declared.fault.FrameFault.{FrameFault}
use Rattle.exchange_frames.specs.declared.fault.FrameFault.TheVariants.{BadFrame, TooLong, Memory}
use Rattle.exchange.specs.declared.fault.HolderFault.{HolderFault}
use Rattle.exchange.specs.declared.fault.HolderFault.TheVariants as holders
use Rattle.exchange.specs.declared.fault.ExchangeFault.{ExchangeFault}
use Rattle.exchange.specs.declared.fault.ExchangeFault.TheVariants as exchanges

-- the public number of a fault
abbrev pub number_of_holder : HolderFault → ℕ
number_of_holder holders.Memory = 1
number_of_holder holders.Refused = 2
number_of_holder holders.Unreadable = 3

abbrev pub number_of_exchange : ExchangeFault → ℕ
number_of_exchange exchanges.BadFrame = 1
number_of_exchange exchanges.TooLong = 2
number_of_exchange exchanges.Stranger = 3
number_of_exchange exchanges.Io = 4
number_of_exchange exchanges.Memory = 5
number_of_exchange exchanges.Turns = 6
number_of_exchange exchanges.Refused = 7

-- what the fault of a frame is to an exchange
abbrev pub of_frame : FrameFault → ExchangeFault
of_frame BadFrame = exchanges.BadFrame
of_frame TooLong = exchanges.TooLong
of_frame Memory = exchanges.Memory

-- and that of a holder: a load that can't be read ends no exchange, and nothing else answers so
abbrev pub of_holder : HolderFault → ExchangeFault
of_holder holders.Memory = exchanges.Memory
of_holder holders.Refused = exchanges.Refused
of_holder holders.Unreadable = exchanges.Refused

-- A holder may refuse so for a cause that an exchange is told as a refusal.
abbrev pub IsRefusal : (HolderFault → Type 0) → Type 0
IsRefusal refuses = (cause : HolderFault) × refuses cause × (of_holder cause ≡ exchanges.Refused)
