-- Whether a correction that is asked for may be, and which one comes next.
use Rattle.std.specs.Prelude.{ℕ, ◌≡◌, ◌⊎◌, ◌+◌, ◌==◌, Option, Some, None, Result, Ok, Err, if◌then◌else◌, IsUtf8}
use Rattle.operation.specs.declared.fault.OpFault.{OpFault}
use Rattle.operation.specs.Corrections.{checked}
use Rattle.operation.specs.Parts.{CorrectionParts}
use Rattle.op_shelf.specs.declared.fault.ShelfFault.{ShelfFault}
use Rattle.op_shelf.specs.declared.fault.ShelfFault.TheVariants as shelf_faults
use Rattle.site_desk.specs.declared.fault.DeskFault.{DeskFault}
use Rattle.site_desk.specs.declared.fault.DeskFault.TheVariants.{BadKey, BadTag, BadValue, NoSite, StampsSpent, Shelf}
use Rattle.site_desk.specs.declared.fault.DeskFault.TheVariants.{Memory, NoChange}
use Rattle.site_desk.specs.declared.words.Words.{Words}
use Rattle.command_words.specs.declared.Change.{Change}
use Rattle.command_words.specs.declared.parts.Part.{Part}
use Rattle.command_words.specs.declared.parts.Part.TheVariants.{Key, Tag, Value}
use Rattle.command_words.specs.Words.{change_in}
use Rattle.site_hub.specs.Stamps.{LAST_COUNTER, made_with}

-- the change that the words of a request ask for
abbrev pub change_of : Words → Option Change
change_of words = change_in words.target words.key words.tag words.value

-- each of four words is a text of UTF-8
abbrev pub AreTexts : Words → Type 0
AreTexts words = IsUtf8 words.target × IsUtf8 words.key × IsUtf8 words.tag × IsUtf8 words.value

-- why four words ask for no change: one is no text, or they name no target and tag; or memory was refused
abbrev pub AsksNone : Words → DeskFault → Type 0
AsksNone words fault = (fault ≡ Memory) ⊎ ((fault ≡ NoChange) × (¬ (AreTexts words) ⊎ (change_of words ≡ None)))

-- what is told of a part that may not be
abbrev pub fault_of_part : Part → DeskFault
fault_of_part Key = BadKey
fault_of_part Tag = BadTag
fault_of_part Value = BadValue

-- what is told of a shelf that refused
abbrev pub fault_of_shelf : ShelfFault → DeskFault
fault_of_shelf (shelf_faults.Store _) = Shelf
fault_of_shelf shelf_faults.BadRow = Shelf
fault_of_shelf shelf_faults.Memory = Memory

-- the fault is that of the part that may not be, or want of memory
abbrev pub IsOfPart : Option Part → DeskFault → Type 0
IsOfPart None fault = fault ≡ Memory
IsOfPart (Some part) fault = (fault ≡ Memory) ⊎ (fault ≡ fault_of_part part)

abbrev pub made_by : Result CorrectionParts OpFault → Result CorrectionParts DeskFault
made_by (Ok parts) = Ok parts
made_by (Err fault) = Err NoSite

-- the correction that comes next behind a counter, at a site of a number: what is asked for, with one counter more
abbrev pub next_over : ℕ → ℕ → Change → Result CorrectionParts DeskFault
next_over site top change =
    if top == LAST_COUNTER then Err StampsSpent
    else made_by (checked (made_with (top + 1) site change.target change.tag change.value))
