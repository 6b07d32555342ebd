-- What a desk answered, read by who asked.
use Rattle.std.specs.Prelude.{ℕ, ◌<◌, ◌^◌, List, [], ◌∷◌, ◌++◌, Option, Some, None, cond, ⊤}
use Rattle.std.specs.Fmt.{decimal}
use Rattle.octets.specs.Texts.{same}
use Rattle.site_desk.specs.declared.ask_fault.AskFault.{AskFault}
use Rattle.site_desk.specs.declared.ask_fault.AskFault.TheVariants.{Broken, TooLong, NoAnswer, Memory, Refused}
use Rattle.site_desk.specs.declared.ask_fault.AskFault.TheVariants.{Unready, Unsaid}
use Rattle.site_desk.specs.declared.fault.DeskFault.{DeskFault}
use Rattle.site_desk.specs.declared.fault.DeskFault.TheVariants as Fault
use Rattle.site_desk.specs.declared.answer.Made.{Made}
use Rattle.site_desk.specs.Answers.{refusal_line, stamp_line}
use Rattle.site_desk.specs.Heard.{HasBody, HasStatus}

-- all that a desk refuses for
abbrev pub all_faults : List DeskFault
all_faults =
    Fault.ForeignHost ∷ Fault.NoPath ∷ Fault.NoPost ∷ Fault.HasOrigin ∷ Fault.NoKind ∷ Fault.NoForm
    ∷ Fault.NoObject ∷ Fault.NoChange ∷ Fault.BadKey ∷ Fault.BadTag ∷ Fault.BadValue ∷ Fault.NoSite
    ∷ Fault.StampsSpent ∷ Fault.Shelf ∷ Fault.Busy ∷ Fault.Unshown ∷ Fault.Memory ∷ []

-- the first of some reasons of which this is the line
abbrev pub fault_by : List ℕ → List DeskFault → Option DeskFault
fault_by line [] = None
fault_by line (fault ∷ faults) = cond (same (refusal_line fault) line) (Some fault) (fault_by line faults)

-- an answer says nothing but that it can't be told now
pub record SaysNothing (text : List ℕ) : Type 0 where
  pub has_status : HasStatus text 503
  pub has_body : HasBody text []

-- a counter and a number of a site that a stamp may have
abbrev pub IsStamp : Made → Type 0
IsStamp made = (made.counter < 2 ^ 64) × (made.site < 2 ^ 16)

-- what stands between the first word of the line of a stamp and its end
abbrev pub stamp_text : Made → List ℕ
stamp_text made = decimal made.counter ++ 32 ∷ decimal made.site

-- an answer has the line of no reason
abbrev pub HasNoReason : List ℕ → Type 0
HasNoReason text = (fault : DeskFault) → ¬ (HasBody text (refusal_line fault))

-- an answer has the line of no stamp
abbrev pub HasNoStamp : List ℕ → Type 0
HasNoStamp text = (made : Made) → IsStamp made → ¬ (HasBody text (stamp_line made))

-- where a reason is told, an answer has its line; what says nothing is told as that; what is none of a site has the
-- line of no reason and of no stamp, and is none that says nothing
abbrev pub TellsRefusal : List ℕ → AskFault → Type 0
TellsRefusal text (Refused fault) = HasBody text (refusal_line fault)
TellsRefusal text Unsaid = SaysNothing text
TellsRefusal text NoAnswer = HasNoReason text × HasNoStamp text × (¬ (SaysNothing text))
TellsRefusal text Memory = ⊤
TellsRefusal text Unready = ⊥
TellsRefusal text Broken = ⊥
TellsRefusal text TooLong = ⊥
