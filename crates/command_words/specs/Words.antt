-- What the words of a command line ask for.
use Rattle.std.specs.Prelude.{ℕ, ◌≤◌, ◌+◌, List, [], ◌∷◌, Option, Some, None, vec_len}
use Rattle.archive_model.specs.declared.view.View.{View}
use Rattle.archive_model.specs.declared.view.View.TheVariants.{Archive, Quality, Audit}
use Rattle.operation.specs.declared.target.Target.{Target}
use Rattle.site_script.specs.Commands.{target_in}
use Rattle.site_script.specs.Names.{tag_in}
use Rattle.command_words.specs.declared.Change.{Change}
use Rattle.command_words.specs.declared.Correcting.{Correcting}
use Rattle.command_words.specs.declared.DeskAt.{DeskAt}
use Rattle.command_words.specs.declared.Serving.{Serving}
use Rattle.command_words.specs.declared.Asked.{Asked}
use Rattle.command_words.specs.declared.Asked.TheVariants.{Simulate, Report, Correct, Serve, Exchange, Move, Verify}

abbrev pub change_for : Option Target → Option ℕ → List ℕ → Option Change
change_for (Some target) (Some tag) value = Some (record { target = target; tag = tag; value = value })
change_for _ _ value = None

-- TARGET KEY TAG VALUE, as a script's line has them
abbrev pub change_in : List ℕ → List ℕ → List ℕ → List ℕ → Option Change
change_in kind key tag value = change_for (target_in kind key) (tag_in tag) value

-- the site has a number from 1 on
abbrev pub HasSite : Correcting → Type 0
HasSite correcting = 1 ≤ correcting.site

-- how many threads answer what is asked for at one address, or nowhere
abbrev pub threads_at : {A : Type 0} → Option A → ℕ
threads_at None = 0
threads_at (Some address) = 1

-- a server has a worker, and its workers, those of exchanges, its peers, its page and its desk are 64 at most
abbrev pub HasPlaces : Serving → Type 0
HasPlaces serving = (1 ≤ serving.workers) × (serving.workers + serving.exchange_workers + vec_len serving.peers
    + threads_at serving.page + threads_at serving.desk ≤ 64)

-- a site that is corrected at a desk has a number from 1 on
abbrev pub HasDeskSite : Option DeskAt → Type 0
HasDeskSite None = Unit {0}
HasDeskSite (Some desk) = 1 ≤ desk.site

-- those who are named, or else these
abbrev pub named_or : {A : Type 0} → List A → List A → List A
named_or [] others = others
named_or (first ∷ rest) others = first ∷ rest

-- who may call the title of a view: of those who are named for all, for QUALITY and for AUDIT
abbrev pub callers_for : {A : Type 0} → View → List A → List A → List A → List A
callers_for Archive all quality audit = all
callers_for Quality all quality audit = named_or quality all
callers_for Audit all quality audit = named_or audit all

-- the numbers that a command names are in their ranges
abbrev pub IsInRange : Asked → Type 0
IsInRange Simulate = Unit {0}
IsInRange (Report reporting) = Unit {0}
IsInRange (Correct correcting) = HasSite correcting
IsInRange (Serve serving) = HasPlaces serving × HasDeskSite serving.desk
IsInRange (Exchange exchanging) = Unit {0}
IsInRange (Move moving) = Unit {0}
IsInRange (Verify verifying) = Unit {0}
