-- What holds of every C-GET: its counts add up, and a C-CANCEL ends it (PS3.7, 9.1.3; PS3.4, C.4.3).
use Rattle.std.specs.Prelude.{◌≡◌, ℕ, ◌+◌, true, List, ◌∷◌, length, map, Option, Some, None}
use Rattle.archive_model.specs.declared.view.View.{View}
use Rattle.dimse.specs.declared.message.Message.{Message}
use Rattle.pdu.specs.declared.value.Pdu.{Pdu}
use Rattle.ul_state.specs.declared.event.Event.TheVariants.{LocalAbort}
use Rattle.ul_state.specs.declared.table.State.TheVariants.{Sta6}
use Rattle.ul_state.specs.declared.titles.Title.{Title}
use Rattle.association_session.specs.declared.deed.Deed.{Deed}
use Rattle.association_session.specs.declared.deed.Deed.TheVariants.{Send}
use Rattle.association_services.specs.declared.reply.Reply.{Reply}
use Rattle.association_services.specs.declared.retrieval.Meaning.{Meaning}
use Rattle.association_services.specs.declared.retrieval.Meaning.TheVariants.{Cancelled, Performed, Unawaited}
use Rattle.association_services.specs.Get.{all_counted}
use Rattle.association_services.specs.Retrieval.{cancelling, performed, meaning_of, RespondsCancel}
use Rattle.association_session.specs.Row.{Within, row, met}
use Rattle.association_services.specs.SubOperation.{SubOperation}
use Rattle.association_session.specs.Talks.{Heard, Said, Then, Talks}

-- ---- its counts

-- how many instances a C-GET selected, by the sub-operation whose response is awaited: those that ended, this one, and
-- those that are left
abbrev pub selected_by : SubOperation → ℕ
selected_by sub = all_counted sub.progress.counts + (length sub.left + 1)

-- how many sub-operations remain: none where it is not told
abbrev pub remaining_in : Option ℕ → ℕ
remaining_in None = 0
remaining_in (Some remaining) = remaining

-- A response tells how many sub-operations completed, failed and have a warning, and with those that remain they are as
-- many as were selected (PS3.7, 9.1.3.1).
pub record AddsUp (selected : ℕ) (m : Message) : Type 0 where
  pub completed : ℕ
  pub failed : ℕ
  pub warning : ℕ
  pub tells_completed : m.command.completed ≡ Some completed
  pub tells_failed : m.command.failed ≡ Some failed
  pub tells_warning : m.command.warning ≡ Some warning
  pub all : remaining_in m.command.remaining + completed + failed + warning ≡ selected

-- A response tells nothing of sub-operations.
pub record TellsNoCounts (m : Message) : Type 0 where
  pub remaining : m.command.remaining ≡ None
  pub completed : m.command.completed ≡ None
  pub failed : m.command.failed ≡ None
  pub warning : m.command.warning ≡ None

-- what a response counts for a request that selected so many, or none
abbrev pub CountsFor : Option ℕ → Message → Type 0
CountsFor None m = TellsNoCounts m
CountsFor (Some selected) m = AddsUp selected m

-- ---- its end

-- what a message leads to once a C-CANCEL was heard: it is kept in mind once more; behind the response that is awaited
-- the last one is sent, and no sub-operation is awaited; any other message is the local user's abort
abbrev pub EndsBy : Meaning → List (Title View) → Within → SubOperation → List Heard → List Reply → List Deed → Type 0
EndsBy Cancelled titles w sub us rs deeds = Talks titles w (Some (cancelling sub)) us rs deeds
EndsBy (Performed outcome) titles w sub us rs deeds = (pdus : List Pdu)
    × RespondsCancel (performed sub outcome) sub.left pdus × Then (map Send pdus) (Talks titles w None us rs) deeds
EndsBy Unawaited titles w sub us rs deeds = Then (row titles w.state LocalAbort)
    (Talks titles (met titles w LocalAbort) None us rs) deeds

-- Once a C-CANCEL was heard no sub-operation is begun, and so nothing is loaded for one.
abbrev pub CancelEnds : Type 0
CancelEnds = (titles : List (Title View)) (w : Within) (sub : SubOperation) (m : Message) (us : List Heard)
    (rs : List Reply) (deeds : List Deed) → w.state ≡ Sta6 → sub.cancelled ≡ true
    → Talks titles w (Some sub) (Said m ∷ us) rs deeds
    → EndsBy (meaning_of sub.progress m.command) titles w sub us rs deeds
