-- Lines that are not too long, and the data sets that they make.
use Rattle.std.specs.Prelude.{ℕ, ◌≤◌, List, length}
use Rattle.data_set.specs.declared.syntax.Syntax.TheVariants.{Implicit}
use Rattle.data_set.specs.Written.{IsSet}
use Rattle.site_script.specs.declared.command.Command.{Command}
use Rattle.site_script.specs.declared.command.Command.TheVariants.{Skip, Bad, Site, Image, Note, Correct, Find, Get}
use Rattle.site_script.specs.declared.command.Command.TheVariants.{Offer, Buckets, Deliver, Old, Same, Flagged}
use Rattle.site_script.specs.Sets.{image_elements, note_elements, identifier}

-- the most bytes of a line
abbrev pub LONGEST_LINE : ℕ
LONGEST_LINE = 65536

abbrev pub IsShort : List ℕ → Type 0
IsShort line = length line ≤ LONGEST_LINE

-- What a line asks for is made of elements that a data set may have. It is so of each line that is not too long.
abbrev pub MakesSets : Command → Type 0
MakesSets Skip = Unit {0}
MakesSets Bad = Unit {0}
MakesSets (Site name) = Unit {0}
MakesSets (Image line) = IsSet Implicit (image_elements line)
MakesSets (Note line) = IsSet Implicit (note_elements line)
MakesSets (Correct line) = Unit {0}
MakesSets (Find line) = IsSet Implicit (identifier line.keys)
MakesSets (Get line) = IsSet Implicit (identifier line.keys)
MakesSets (Offer from to) = Unit {0}
MakesSets (Buckets from to) = Unit {0}
MakesSets (Deliver number) = Unit {0}
MakesSets (Old site) = Unit {0}
MakesSets (Same a b) = Unit {0}
MakesSets (Flagged site) = Unit {0}
