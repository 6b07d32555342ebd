-- What the desk of a running site does.
use Rattle.std.specs.Prelude.{◌≡◌, ℕ, ◌≤◌, ◌⊎◌, ◌++◌, ◌∷◌, [], max, List, Some, Result, Ok, Err, IfErr}
use mathlib.Core.List.{IsPrefix}
use Rattle.http.specs.declared.request.Request.{Request}
use Rattle.http_server.specs.declared.response.Response.{Response}
use Rattle.operation.specs.declared.op.Op.TheVariants.{Correction as a_correction}
use Rattle.operation.specs.Parts.{CorrectionParts}
use Rattle.operation.specs.Spelling.{digest_of}
use Rattle.site_state.specs.Site.{Map, ops_of, top_counter_of}
use Rattle.site_hub.specs.declared.entry.Entry.{Entry}
use Rattle.site_hub.specs.History.{set_of, entry_of, EndsWith}
use Rattle.site_hub.specs.Hub.{Seat, HasLooked}
use Rattle.hub_exchange.specs.Putting.{WasWritten}
use Rattle.hub_exchange.specs.Onward.{IsOnward}
use Rattle.site_desk.specs.declared.answer.Made.{Made}
use Rattle.site_desk.specs.declared.fault.DeskFault.{DeskFault}
use Rattle.site_desk.specs.declared.fault.DeskFault.TheVariants.{Memory, Busy, Shelf, Unshown}
use Rattle.site_desk.specs.declared.words.Words.{Words}
use Rattle.site_desk.specs.Answers.{answer_of}
use Rattle.site_desk.specs.Posting.{Says, SaysNone}
use Rattle.command_words.specs.declared.Change.{Change}
use Rattle.command_words.specs.Parts.{bad_part_of}
use Rattle.site_desk.specs.Making.{change_of, next_over, AsksNone, IsOfPart}
use Rattle.site_desk.specs.Requests.{posting_of}
use Rattle.site_desk.specs.Responses.{Responds}

-- a desk: its pass, what is known of the shelf's ledger, the names of the site, its number, and the greatest counter
-- that it has made
pub record AtDesk : Type 0 where
  pub pass : Seat
  pub known : List (List ℕ)
  pub names : List (List ℕ)
  pub site : ℕ
  pub last : ℕ

-- A desk afterwards: its pass has gone on, what became its own was written to the shelf's ledger, of which no less is
-- known, and its greatest counter is no less: what comes next is behind it.
pub record GoesOn (before after : AtDesk) : Type 0 where
  pub onward : IsOnward (WasWritten after.known) before.pass after.pass
  pub known : IsPrefix before.known after.known
  pub names : after.names ≡ before.names
  pub site : after.site ≡ before.site
  pub last : before.last ≤ after.last

-- A correction that was asked for was stored for a desk: its counter comes next over a history that begins with what
-- the pass had seen, and begins what it has seen since, and over what the desk had made; it was written to the shelf's
-- ledger; and its counter is the last that the desk has made.
pub record Stores (opening : Map) (before : AtDesk) (change : Change) (after : AtDesk) (parts : CorrectionParts)
    : Type 0 where
  pub turn : List Entry
  pub sees : IsPrefix before.pass.seen turn
  pub seen : IsPrefix turn after.pass.seen
  pub next : next_over before.site (max (top_counter_of (ops_of (set_of opening turn))) before.last) change ≡ Ok parts
  pub stored : WasWritten after.known (digest_of (a_correction parts))
  pub last : after.last ≡ parts.stamp.counter

-- A desk made the correction that was asked for: it was stored, it is the last that the pass has seen, and it alone
-- became the pass's own.
pub record Makes (opening : Map) (before : AtDesk) (change : Change) (after : AtDesk) (made : Made) : Type 0 where
  pub parts : CorrectionParts
  pub stores : Stores opening before change after parts
  pub shown : EndsWith after.pass.seen (entry_of before.pass.number (a_correction parts))
  pub mine : after.pass.mine ≡ before.pass.mine ++ digest_of (a_correction parts) ∷ []
  pub counter : made.counter ≡ parts.stamp.counter
  pub site : made.site ≡ parts.stamp.site

-- A desk made none: its pass has only looked. Or one that was asked for was stored, and the hub does not show it yet,
-- which alone is told so.
pub record MakesNone (opening : Map) (before : AtDesk) (asks : Change → Type 0) (after : AtDesk) (fault : DeskFault)
    : Type 0 where
  pub unshown : fault ≡ Unshown → (change : Change) × asks change
      × ((parts : CorrectionParts) × Stores opening before change after parts)
  pub kept : (fault ≡ Unshown) ⊎ HasLooked before.pass after.pass

-- the words of a request ask for a change of the site that has these names
abbrev pub Asks : List (List ℕ) → Request (List ℕ) → Change → Type 0
Asks names request change = (words : Words) × Says (posting_of names request) words × (change_of words ≡ Some change)

-- what a request comes to: the correction that its words ask for was made, or none was
abbrev pub ComesTo : Map → AtDesk → Request (List ℕ) → AtDesk → Result Made DeskFault → Type 0
ComesTo opening before request after (Ok made) =
    (change : Change) × Asks before.names request change × Makes opening before change after made
ComesTo opening before request after (Err fault) = MakesNone opening before (Asks before.names request) after fault

-- what holds up a correction that may be made: memory, a site that is busy, the shelf, or the hub
abbrev pub IsHeldUp : DeskFault → Type 0
IsHeldUp fault = (fault ≡ Memory) ⊎ (fault ≡ Busy) ⊎ (fault ≡ Shelf) ⊎ (fault ≡ Unshown)

-- Why a change of which each part may be is not made: it is held up, or none comes next over what the pass has seen
-- then, and what the desk had made.
abbrev pub WhyUnmade : Map → AtDesk → Change → AtDesk → DeskFault → Type 0
WhyUnmade opening before change after fault = IsHeldUp fault
    ⊎ (next_over before.site (max (top_counter_of (ops_of (set_of opening after.pass.seen))) before.last) change
    ≡ Err fault)

-- Why the correction that four words ask for is not made: they ask for none, a part of it may not be, or it is not made.
abbrev pub WhyRefused : Map → AtDesk → Words → AtDesk → DeskFault → Type 0
WhyRefused opening before words after fault = AsksNone words fault ⊎ ((change : Change) × (change_of words ≡ Some change)
    × (IsOfPart (bad_part_of change) fault ⊎ WhyUnmade opening before change after fault))

-- Why none is made of a request: it says no four words, or what these ask for is not made.
abbrev pub WhyNone : Map → AtDesk → Request (List ℕ) → AtDesk → DeskFault → Type 0
WhyNone opening before request after fault = SaysNone (posting_of before.names request) fault
    ⊎ ((words : Words) × Says (posting_of before.names request) words × WhyRefused opening before words after fault)

-- a request is answered with what it comes to, or is refused without words
pub record AnswersAt (opening : Map) (before : AtDesk) (request : Request (List ℕ)) (response : Response)
    (after : AtDesk) : Type 0 where
  pub outcome : Result Made DeskFault
  pub comes : ComesTo opening before request after outcome
  pub why : IfErr outcome (WhyNone opening before request after)
  pub goes_on : GoesOn before after
  pub told : Responds (answer_of outcome) response
