-- The texts that a script prints.
use Rattle.std.specs.Prelude.{ℕ, List, [], ◌∷◌, ◌++◌, length, Option, Some, None, Ok, Err, Result, Bool, codes}
use Rattle.std.specs.Prelude.{if◌then◌else◌}
use Rattle.std.specs.List.{flat_map}
use Rattle.std.specs.Fmt.{decimal}
use Rattle.hex.specs.Hex.{encode_lower}
use Rattle.data_set.specs.declared.syntax.Syntax.{Syntax}
use Rattle.data_set.specs.declared.syntax.Syntax.TheVariants.{Implicit}
use Rattle.data_set.specs.Set.{Set}
use Rattle.data_set.specs.Converted.{converted}
use Rattle.data_set.specs.Written.{text_of}
use Rattle.operation.specs.declared.stamp.Stamp.{Stamp}
use Rattle.operation.specs.declared.taken.Taken.{Taken}
use Rattle.operation.specs.declared.taken.Taken.TheVariants.{New, Known}
use Rattle.archive_model.specs.declared.sending.Sending.{Sending}
use Rattle.site_world.specs.declared.fault.WorldFault.{WorldFault}
use Rattle.site_world.specs.declared.fault.WorldFault.TheVariants.{NoSite, NoMessage, Site, StampsSpent, Memory}
use Rattle.site_world.specs.declared.fault.WorldFault.TheVariants.{BadCorrection, OldSite}
use Rattle.site_world.specs.declared.step.Seen.{Seen}
use Rattle.site_world.specs.declared.step.Seen.TheVariants.{Took, Stamped, Offered, Wanted, Gave, Differs, Has, Aged}
use Rattle.site_world.specs.declared.step.Seen.TheVariants.{Rows, Sent}
use Rattle.site_state.specs.Fault.{number_of as number_of_site_fault}

-- a line, with its end
abbrev pub line : List ℕ → List ℕ
line text = text ++ (10 ∷ [])

abbrev pub BAD : List ℕ
BAD = line (codes "bad")

-- a refusal: whose it is, and its number
abbrev pub fault_line : List ℕ → ℕ → List ℕ
fault_line whose number = line (codes "fault " ++ (whose ++ (32 ∷ decimal number)))

-- site A NUMBER
abbrev pub site_line : List ℕ → ℕ → List ℕ
site_line name number = line (codes "site " ++ (name ++ (32 ∷ decimal number)))

abbrev pub taken_line : Taken → List ℕ
taken_line New = line (codes "new")
taken_line Known = line (codes "known")

abbrev pub stamp_line : Stamp → List ℕ
stamp_line stamp = line (codes "stamp " ++ (decimal stamp.counter ++ (32 ∷ decimal stamp.site)))

-- how many lines came before
abbrev pub end_line : ℕ → List ℕ
end_line count = line (codes "end " ++ decimal count)

-- a UID a line
abbrev pub uid_lines : List (List ℕ) → List ℕ
uid_lines uids = flat_map line uids

abbrev pub flagged_lines : List (List ℕ) → List ℕ
flagged_lines uids = uid_lines uids ++ end_line (length uids)

abbrev pub same_line : Bool → List ℕ
same_line same = if same then line (codes "equal") else line (codes "unequal")

-- a row, in hexadecimal digits of the implicit syntax
abbrev pub answer_line : Set → List ℕ
answer_line row = line (codes "answer " ++ encode_lower (text_of (converted Implicit row.elements)))

abbrev pub answer_lines : List Set → List ℕ
answer_lines rows = flat_map answer_line rows

abbrev pub rows_lines : List Set → List ℕ
rows_lines rows = answer_lines rows ++ end_line (length rows)

-- the bytes of a data set that is sent, and none where no accepted syntax serves
abbrev pub bytes_of : Option (Syntax × List ℕ) → List ℕ
bytes_of None = []
bytes_of (Some sent) = sent.1

-- an instance that is sent, in hexadecimal digits
abbrev pub sending_line : Sending → List ℕ
sending_line sending = line (codes "answer " ++ encode_lower (bytes_of sending.body))

abbrev pub sending_lines : List Sending → List ℕ
sending_lines sendings = flat_map sending_line sendings

abbrev pub sent_lines : List Sending → List ℕ
sent_lines sendings = sending_lines sendings ++ end_line (length sendings)

-- a message that was sent, by a word and its number
abbrev pub message_line : List ℕ → ℕ → List ℕ
message_line word number = line (word ++ (32 ∷ decimal number))

-- a number behind a space
abbrev pub spaced : ℕ → List ℕ
spaced number = 32 ∷ decimal number

abbrev pub spaced_numbers : List ℕ → List ℕ
spaced_numbers numbers = flat_map spaced numbers

-- the messages that give what was wanted, if any
abbrev pub gave_line : List ℕ → List ℕ
gave_line [] = line (codes "give none")
gave_line (number ∷ numbers) = line (codes "give" ++ spaced_numbers (number ∷ numbers))

-- the refusal of a step
abbrev pub world_fault_line : WorldFault → List ℕ
world_fault_line (Site fault) = fault_line (codes "site") (number_of_site_fault fault)
world_fault_line NoSite = fault_line (codes "world") 1
world_fault_line NoMessage = fault_line (codes "world") 2
world_fault_line StampsSpent = fault_line (codes "world") 4
world_fault_line Memory = fault_line (codes "world") 5
world_fault_line BadCorrection = fault_line (codes "world") 6
world_fault_line OldSite = fault_line (codes "world") 7

-- what is seen of a step
abbrev pub seen_lines : Result Seen WorldFault → List ℕ
seen_lines (Ok (Took taken)) = taken_line taken
seen_lines (Ok (Stamped stamp)) = stamp_line stamp
seen_lines (Ok (Offered number)) = message_line (codes "sent") number
seen_lines (Ok (Wanted number)) = message_line (codes "want") number
seen_lines (Ok (Gave numbers)) = gave_line numbers
seen_lines (Ok (Differs number)) = message_line (codes "differ") number
seen_lines (Ok (Has number)) = message_line (codes "have") number
seen_lines (Ok Aged) = line (codes "old")
seen_lines (Ok (Rows rows)) = rows_lines rows
seen_lines (Ok (Sent sendings)) = sent_lines sendings
seen_lines (Err fault) = world_fault_line fault
