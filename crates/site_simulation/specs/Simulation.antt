-- What a script has printed in the middle of its input.
use Rattle.std.specs.Prelude.{◌≡◌, ℕ, ◌+◌, ◌≤◌, ◌<◌, List, [], ◌++◌, length, take, Option, IfSome, MatchOption, Bool}
use Rattle.std.specs.Prelude.{true, false, Result, Ok, Err, refl}
use Rattle.std.specs.Coded.{Coded, code_by, coded×, coded_ℕ, coded_list}
use Rattle.std.specs.Io.KnownBytes.{Appends}
use Rattle.site_simulation.specs.declared.run.SimFault.{SimFault}
use Rattle.site_simulation.specs.declared.run.SimFault.TheVariants.{Read, Write, LongLine, Memory, Turns}
use Rattle.site_simulation.specs.declared.progress.LineFault.{LineFault}
use Rattle.site_simulation.specs.declared.progress.LineFault.TheVariants.{LongLine as long_line, Memory as line_memory}
use Rattle.site_simulation.specs.declared.progress.LineFault.TheVariants.{Turns as line_turns}
use Rattle.site_simulation.specs.Output.{NOTHING, output_from, ended_from, count_from, is_long_from, output_of}
use Rattle.site_simulation.specs.Output.{ended_of, count_of, has_long_line}
use Rattle.site_simulation.specs.State.{State, state_code}

-- what was made, the front of the line in hand, and how many lines ended
pub record Place : Type 0 where
  pub state : State
  pub front : List ℕ
  pub lines : ℕ

-- Some bytes more lead from one place to another, and a text was printed of the lines that ended in them.
abbrev pub Leads : Place → List ℕ → List ℕ → Place → List ℕ → Type 0
Leads old out bytes new text = (rest : List ℕ) →
    (text ++ output_from new.state new.front rest ≡ out ++ output_from old.state old.front (bytes ++ rest))
    × (new.lines + count_from new.front rest ≡ old.lines + count_from old.front (bytes ++ rest))
    × (is_long_from new.front rest ≡ is_long_from old.front (bytes ++ rest))
    × (text ++ ended_from new.state new.front rest ≡ out ++ ended_from old.state old.front (bytes ++ rest))

-- A front of these bytes leads somewhere, and what was printed is the text of the lines that ended in it.
abbrev pub StopsWithin : Place → List ℕ → List ℕ → List ℕ → Type 0
StopsWithin old out bytes text = (count : ℕ) × (mid : Place) × Leads old out (take count bytes) mid text

-- A line among these bytes is too long, and nothing is printed of them.
abbrev pub HasLong : Place → List ℕ → Type 0
HasLong old bytes =
    (rest : List ℕ) → (is_long_from old.front (bytes ++ rest) ≡ true)
    × (output_from old.state old.front (bytes ++ rest) ≡ [])

-- A line among these bytes is too long, and the lines before it were printed.
abbrev pub StopsAtLong : Place → List ℕ → List ℕ → List ℕ → Type 0
StopsAtLong old out bytes text =
    (rest : List ℕ) → (is_long_from old.front (bytes ++ rest) ≡ true)
    × (text ≡ out ++ output_from old.state old.front (bytes ++ rest))

-- the most lines that are counted
abbrev pub MOST_LINES : ℕ
MOST_LINES = 18446744073709551615

-- With these bytes more lines end than are counted.
abbrev pub HasTooManyLines : Place → List ℕ → Type 0
HasTooManyLines old bytes = (rest : List ℕ) → MOST_LINES < old.lines + count_from old.front (bytes ++ rest)

-- a script that has read nothing
abbrev pub START : Place
START = record { state = NOTHING; front = []; lines = 0 }

-- what was read of an input, and said of it, and where that led
pub record OwesFor (input : List ℕ) (before now : Option (List ℕ)) (place : Place) (left : List ℕ) : Type 0 where
  pub read : List ℕ
  pub said : List ℕ
  pub wrote : Appends before now said
  pub parts : read ++ left ≡ input
  pub leads : Leads START [] read place said

abbrev pub Owes : Option (List ℕ) → Option (List ℕ) → Option (List ℕ) → Option (List ℕ) → Place → Type 0
Owes input before rest now place = IfSome input (λ bytes. MatchOption rest ⊥
    (λ left. OwesFor bytes before now place left))

-- ---- what was written of an input

-- a front of all that is printed for it
abbrev pub WroteFront : Option (List ℕ) → Option (List ℕ) → Option (List ℕ) → Type 0
WroteFront input before now =
    IfSome input (λ bytes. (said : List ℕ) × (more : List ℕ) × Appends before now said
    × (said ++ more ≡ output_of bytes))

-- what the whole lines of a front of it print, which is a front of all that is printed for it
abbrev pub WroteWholeLines : Option (List ℕ) → Option (List ℕ) → Option (List ℕ) → Type 0
WroteWholeLines input before now =
    IfSome input (λ bytes. (read : List ℕ) × (left : List ℕ) × (more : List ℕ) × (read ++ left ≡ bytes)
    × Appends before now (ended_of read) × (ended_of read ++ more ≡ output_of bytes))

-- all that is printed for it, and its lines were counted
abbrev pub WroteAll : Option (List ℕ) → Option (List ℕ) → Option (List ℕ) → ℕ → Type 0
WroteAll input before now lines =
    IfSome input (λ bytes. Appends before now (output_of bytes) × (lines ≡ count_of bytes)
    × (has_long_line bytes ≡ false))

-- all that the lines before one that is too long print
abbrev pub WroteUpToLong : Option (List ℕ) → Option (List ℕ) → Option (List ℕ) → Type 0
WroteUpToLong input before now = IfSome input (λ bytes. Appends before now (output_of bytes)
    × (has_long_line bytes ≡ true))

-- the most reads of a run
abbrev pub MOST_READS : ℕ
MOST_READS = 4294967296

-- an input has a byte for each read of the longest run, or more
abbrev pub IsEndless : Option (List ℕ) → Type 0
IsEndless input = IfSome input (λ bytes. MOST_READS ≤ length bytes)

-- What is written where a script ends before its input: of a failed write a front, before a line that is too long
-- all of the lines before it, and else whole lines; an input that does not end has as many bytes as there are reads.
abbrev pub BreaksOff : Option (List ℕ) → Option (List ℕ) → SimFault → Option (List ℕ) → Type 0
BreaksOff input before Read now = WroteWholeLines input before now
BreaksOff input before Write now = WroteFront input before now
BreaksOff input before LongLine now = WroteUpToLong input before now
BreaksOff input before Memory now = WroteWholeLines input before now
BreaksOff input before Turns now = WroteWholeLines input before now × IsEndless input

-- What a read and what it brings come to.
abbrev pub Turn : Option (List ℕ) → Option (List ℕ) → Result ℕ SimFault → Option (List ℕ) → Option (List ℕ) → Place →
    Type 0
Turn input before (Ok count) rest now place = Owes input before rest now place
Turn input before (Err fault) rest now place = BreaksOff input before fault now

-- What the end of an input comes to.
abbrev pub Ends : Option (List ℕ) → Option (List ℕ) → Result ℕ SimFault → Option (List ℕ) → Type 0
Ends input before (Ok lines) now = WroteAll input before now lines
Ends input before (Err fault) now = BreaksOff input before fault now

-- so many bytes of an input were read, or more
abbrev pub TookBytes : ℕ → Option (List ℕ) → Option (List ℕ) → Type 0
TookBytes count before now = IfSome before (λ bytes. MatchOption now ⊥ (λ left. count + length left ≤ length bytes))

-- whether a fault of the reader, or of the writer, is told
abbrev pub tells_read : {A : Type 0} → Result A SimFault → Bool
tells_read (Err Read) = true
tells_read _ = false

abbrev pub tells_write : {A : Type 0} → Result A SimFault → Bool
tells_write (Err Write) = true
tells_write _ = false

-- what the fault of a line is in a script
abbrev pub fault_of_line : LineFault → SimFault
fault_of_line long_line = LongLine
fault_of_line line_memory = Memory
fault_of_line line_turns = Turns

-- the public numbers of the faults
abbrev pub number_of : SimFault → ℕ
number_of Read = 1
number_of Write = 2
number_of LongLine = 3
number_of Memory = 4
number_of Turns = 5

abbrev pub place_code : Coded Place
place_code = code_by (State × (List ℕ × ℕ)) (coded× state_code (coded× (coded_list coded_ℕ) coded_ℕ))
    (λ p. (p.state, (p.front, p.lines))) (λ p. record { state = p.0; front = p.1.0; lines = p.1.1 }) (λ _. refl)
