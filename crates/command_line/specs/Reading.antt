-- What the words of a command ask for, by what was found of them.
use Rattle.std.specs.Prelude.{ℕ, ◌≡◌, ◌⊎◌, ◌==◌, List, Option, None, Some, if◌then◌else◌, codes}
use Rattle.clap.specs.Walk.{Row}
use Rattle.site_tables.specs.declared.table.Table.{Table}
use Rattle.site_tables.specs.declared.table.Table.TheVariants.{Conflicts, Rejected, Corrections, Studies}
use Rattle.exchange.specs.declared.role.Role.{Role}
use Rattle.exchange.specs.declared.role.Role.TheVariants.{Caller, OldCaller}
use Rattle.command_words.specs.Words.{change_in}
use Rattle.command_words.specs.declared.Correcting.{Correcting}
use Rattle.command_words.specs.declared.Exchanging.{Exchanging}
use Rattle.command_words.specs.declared.Reporting.{Reporting}
use Rattle.command_words.specs.declared.Moving.{Moving}
use Rattle.command_words.specs.declared.Verifying.{Verifying}
use Rattle.command_words.specs.declared.Asked.{Asked}
use Rattle.command_words.specs.declared.Asked.TheVariants.{Simulate, Report, Correct, Serve, Exchange, Move, Verify}
use Rattle.command_line.specs.Found.{given_at, text_at, number_at, short_at, flag_at}
use Rattle.command_line.specs.Serving.{ServesAs, idle_at}
use Rattle.command_line.specs.declared.there.CorrectingAt.{CorrectingAt}
use Rattle.command_line.specs.declared.there.ReportingAt.{ReportingAt}
use Rattle.command_line.specs.declared.there.Wanted.{Wanted}
use Rattle.command_line.specs.declared.there.Wanted.TheVariants.{Here, CorrectAt, ReportAt}

-- the table that an option names, or none
abbrev pub table_at : List Row → Option Table
table_at rows = if flag_at rows (codes "conflicts") then Some Conflicts
    else if flag_at rows (codes "rejected") then Some Rejected
    else if flag_at rows (codes "corrections") then Some Corrections
    else if flag_at rows (codes "studies") then Some Studies
    else None

-- what the words behind `report` ask for
pub record ReportsAs (rows : List Row) (reporting : Reporting) : Type 0 where
  pub file : reporting.file.now ≡ text_at rows (codes "FILE")
  pub table : reporting.table ≡ table_at rows
  pub separated : reporting.separated ≡ flag_at rows (codes "tsv")
  pub fingerprint : reporting.fingerprint ≡ flag_at rows (codes "fingerprint")

-- what the words behind `report --at` ask for
pub record ReportsAtAs (rows : List Row) (reporting : ReportingAt) : Type 0 where
  pub table : reporting.table ≡ table_at rows
  pub separated : reporting.separated ≡ flag_at rows (codes "tsv")

-- what the words behind `correct` ask for
pub record CorrectsAs (rows : List Row) (correcting : Correcting) : Type 0 where
  pub file : correcting.file.now ≡ text_at rows (codes "FILE")
  pub site : short_at rows (codes "site") ≡ Some correcting.site
  pub change : change_in (text_at rows (codes "TARGET")) (text_at rows (codes "KEY"))
      (text_at rows (codes "TAG")) (text_at rows (codes "VALUE")) ≡ Some correcting.change

-- what the words behind `correct --at` ask for: each stands in the place of the one before it
pub record CorrectsAtAs (rows : List Row) (correcting : CorrectingAt) : Type 0 where
  pub target : correcting.target.now ≡ text_at rows (codes "FILE")
  pub key : correcting.key.now ≡ text_at rows (codes "TARGET")
  pub tag : correcting.tag.now ≡ text_at rows (codes "KEY")
  pub value : correcting.value.now ≡ text_at rows (codes "TAG")

-- the side of an exchange with a peer of a version, the older one of version 1
abbrev pub role_for : Option ℕ → Role
role_for None = Caller
role_for (Some version) = if version == 1 then OldCaller else Caller

-- what the words behind `exchange` ask for
pub record ExchangesAs (rows : List Row) (exchanging : Exchanging) : Type 0 where
  pub file : exchanging.file.now ≡ text_at rows (codes "FILE")
  pub peer : exchanging.peer.now ≡ text_at rows (codes "peer")
  pub role : exchanging.role ≡ role_for (number_at rows (codes "peer-version"))
  pub idle : exchanging.idle ≡ idle_at rows

-- what the words behind `move` ask for
pub record MovesAs (rows : List Row) (moving : Moving) : Type 0 where
  pub from : moving.from.now ≡ text_at rows (codes "FROM")
  pub to : moving.to.now ≡ text_at rows (codes "TO")

-- what the words behind `verify` ask for
pub record VerifiesAs (rows : List Row) (verifying : Verifying) : Type 0 where
  pub file : verifying.file.now ≡ text_at rows (codes "FILE")

-- what the command of a name asks for, by what was found of the words behind it
abbrev pub IsAskedBy : List ℕ → List Row → Asked → Type 0
IsAskedBy name rows Simulate = name ≡ codes "simulate"
IsAskedBy name rows (Report reporting) = (name ≡ codes "report") × ReportsAs rows reporting
IsAskedBy name rows (Correct correcting) = (name ≡ codes "correct") × CorrectsAs rows correcting
IsAskedBy name rows (Serve serving) = (name ≡ codes "serve") × ServesAs rows serving
IsAskedBy name rows (Exchange exchanging) = (name ≡ codes "exchange") × ExchangesAs rows exchanging
IsAskedBy name rows (Move moving) = (name ≡ codes "move") × MovesAs rows moving
IsAskedBy name rows (Verify verifying) = (name ≡ codes "verify") × VerifiesAs rows verifying

-- a command that may be asked of a running site
abbrev pub MayBeThere : List ℕ → Type 0
MayBeThere name = (name ≡ codes "report") ⊎ (name ≡ codes "correct")

-- the same of a running site where --at says where that is, and else here
abbrev pub IsWantedBy : List ℕ → List Row → Wanted → Type 0
IsWantedBy name rows (Here asked) = (MayBeThere name → given_at rows (codes "at") ≡ None)
    × IsAskedBy name rows asked
IsWantedBy name rows (CorrectAt correcting) = (name ≡ codes "correct")
    × (given_at rows (codes "at") ≡ Some correcting.at.now) × CorrectsAtAs rows correcting
IsWantedBy name rows (ReportAt reporting) = (name ≡ codes "report")
    × (given_at rows (codes "at") ≡ Some reporting.at.now) × ReportsAtAs rows reporting

-- a command was named, and this is what it asks for
abbrev pub IsWantedOf : Option (List ℕ × List Row) → Wanted → Type 0
IsWantedOf None wanted = ⊥
IsWantedOf (Some command) wanted = IsWantedBy command.0 command.1 wanted
