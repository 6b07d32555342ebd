-- What is asked of a running site.
use Rattle.std.specs.Prelude.{ℕ, List, Option, Some, None, codes, IsSome}
use Rattle.site_tables.specs.declared.table.Table.{Table}
use Rattle.site_tables.specs.declared.table.Table.TheVariants.{Conflicts, Rejected, Corrections, Studies}
use Rattle.command_words.specs.Words.{change_in, IsInRange}
use Rattle.command_line.specs.declared.there.CorrectingAt.{CorrectingAt}
use Rattle.command_line.specs.declared.there.Wanted.{Wanted}
use Rattle.command_line.specs.declared.there.Wanted.TheVariants.{Here, CorrectAt, ReportAt}

-- the path of the page that tells a table in JSON, or the counts where none is named
abbrev pub path_of : Option Table → List ℕ
path_of None = codes "/site.json"
path_of (Some Conflicts) = codes "/conflicts.json"
path_of (Some Rejected) = codes "/rejected.json"
path_of (Some Corrections) = codes "/corrections.json"
path_of (Some Studies) = codes "/studies.json"

-- the words of a correction name a target and a tag
abbrev pub NamesChange : CorrectingAt → Type 0
NamesChange c = IsSome (change_in c.target.now c.key.now c.tag.now c.value.now)

-- the numbers that are asked with are in their ranges, and a correction names a target and a tag
abbrev pub IsWellAsked : Wanted → Type 0
IsWellAsked (Here asked) = IsInRange asked
IsWellAsked (CorrectAt correcting) = NamesChange correcting
IsWellAsked (ReportAt reporting) = Unit {0}
