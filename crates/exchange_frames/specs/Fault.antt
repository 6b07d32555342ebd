-- Faults of frames.
use Rattle.std.specs.Prelude.{ℕ, Bool, true, false}
use Rattle.exchange_frames.specs.declared.fault.FrameFault.{FrameFault}
use Rattle.exchange_frames.specs.declared.fault.FrameFault.TheVariants.{BadFrame, TooLong, Memory}

-- the public number of a fault
abbrev pub number_of : FrameFault → ℕ
number_of BadFrame = 1
number_of TooLong = 2
number_of Memory = 5

-- Want of memory says nothing of the text.
abbrev pub is_memory : FrameFault → Bool
is_memory BadFrame = false
is_memory TooLong = false
is_memory Memory = true
