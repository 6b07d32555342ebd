-- The counts of a C-GET add up, and a C-CANCEL ends it.
use Rattle.std.proofs.Common.{◌≡◌, ℕ, ◌+◌, suc, Bool, true, false, List, [], ◌∷◌, map, length, Option}
use Rattle.std.proofs.Common.{Some, None}
use Rattle.std.proofs.Common.{refl, subst, length-append, arith}
use Rattle.archive_model.specs.declared.view.View.{View}
use Rattle.data_set.specs.declared.syntax.Syntax.{Syntax}
use Rattle.dimse.specs.declared.status.Status.{Status}
use Rattle.pdu.specs.declared.value.Pdu.{Pdu}
use Rattle.archive_model.specs.declared.listed.Listed.{Listed}
use Rattle.ul_state.specs.declared.event.Event.TheVariants.{LocalAbort}
use Rattle.ul_state.specs.declared.table.State.{State}
use Rattle.ul_state.specs.declared.table.State.TheVariants.{Sta1, Sta2, Sta6, Sta13}
use Rattle.ul_state.specs.declared.titles.Title.{Title}
use Rattle.association_services.specs.declared.counts.Counts.{Counts}
use Rattle.association_services.specs.declared.counts.Outcome.{Outcome}
use Rattle.association_services.specs.declared.counts.Outcome.TheVariants.{Completed, Warned, Failed}
use Rattle.association_session.specs.declared.deed.Deed.{Deed}
use Rattle.association_session.specs.declared.deed.Deed.TheVariants.{Send}
use Rattle.association_services.specs.declared.reply.Reply.{Reply}
use Rattle.association_services.specs.declared.retrieval.Meaning.{Meaning}
use Rattle.association_services.specs.declared.retrieval.Meaning.TheVariants.{Cancelled, Performed, Unawaited}
use Rattle.association_services.specs.declared.retrieval.Progress.{Progress}
use Rattle.association_services.specs.Get.{all_counted, counted}
use Rattle.association_services.specs.Response.{Awaited}
use Rattle.association_services.specs.Retrieval.{setting_out, counting, failing, sending, performed, RespondsBy}
use Rattle.association_services.specs.Retrieval.{RespondsCancel, meaning_of}
use Rattle.association_session.specs.Row.{Within, row, met}
use Rattle.association_session.specs.Selected.{selected_by, remaining_in, AddsUp, EndsBy, CancelEnds}
use Rattle.association_services.specs.SubOperation.{Retrieval, SubOperation}
use Rattle.association_session.specs.Talks.{Heard, Goes, Then, GoesOnBy, Performs, Attends, InState, Talks}

-- ---- its counts

-- how many instances it selected: those that ended, and those that are left
abbrev pub selected_in : Progress → List Listed → ℕ
selected_in g left = all_counted g.counts + length left

-- one more is counted
counted_more : (outcome : Outcome) (uid : List ℕ) (k : Counts) → all_counted (counted outcome uid k)
    ≡ suc (all_counted k)
counted_more Completed uid k = omega arith
counted_more Warned uid k = omega arith
counted_more Failed uid k = omega (arith, length-append k.failed (uid ∷ []))

-- In each response the counts add up to the instances that were selected,
pub counts_add_up : (g : Progress) (left : List Listed) (status : Status) (remaining : Option ℕ)
    (body : Option (List ℕ)) → remaining_in remaining ≡ length left
    → AddsUp (selected_in g left) (counting g status remaining body)
counts_add_up g left status remaining body told = record {
  completed = g.counts.completed;
  failed = length g.counts.failed;
  warning = g.counts.warning;
  tells_completed = refl;
  tells_failed = refl;
  tells_warning = refl;
  all = omega (arith, told);
}

-- and these stay: all that the port replied are selected at first; one that fails unsent leaves as many,
pub starts_with_all : (a : Awaited) (syntax : Syntax) (left : List Listed)
    → selected_in (setting_out a syntax) left ≡ length left
starts_with_all a syntax left = omega arith

pub unsent_keeps_all : (g : Progress) (p : Listed) (left : List Listed) → selected_in (failing g p) left
    ≡ selected_in g (p ∷ left)
unsent_keeps_all g p left = omega (arith, counted_more Failed p.content.instance g.counts)

-- one that is sent does,
pub sent_keeps_all : (g : Progress) (p : Listed) (left : List Listed) → selected_by (sending g p left)
    ≡ selected_in g (p ∷ left)
sent_keeps_all g p left = omega arith

-- and so does the response to it.
pub performed_keeps_all : (sub : SubOperation) (outcome : Outcome) → selected_in (performed sub outcome) sub.left
    ≡ selected_by sub
performed_keeps_all sub outcome = omega (arith, counted_more outcome sub.instance sub.progress.counts)

-- ---- a C-CANCEL

cancelled_next : (b : Bool) (g : Progress) (left : List Listed) (pdus : List Pdu) (next : Option Retrieval) → b ≡ true
    → RespondsBy b g left pdus next → RespondsCancel g left pdus × (next ≡ None)
cancelled_next true g left pdus next is p = p
cancelled_next false g left pdus next is p = absurd cc

ends_by : (meaning : Meaning) (titles : List (Title View)) (w : Within) (sub : SubOperation) (us : List Heard)
    (rs : List Reply) (deeds : List Deed) → sub.cancelled ≡ true
    → Performs meaning sub w.link.contexts (row titles w.state LocalAbort) (λ next. Talks titles w next us)
    (Talks titles (met titles w LocalAbort) None us) rs deeds
    → EndsBy meaning titles w sub us rs deeds
ends_by Cancelled titles w sub us rs deeds is p = p
ends_by Unawaited titles w sub us rs deeds is p = p
ends_by (Performed outcome) titles w sub us rs deeds is p =
    let told = cancelled_next sub.cancelled (performed sub outcome) sub.left p.0 p.1 is p.2 in (
      p.0,
      told.0,
      subst (λ (n : Option Retrieval). Then (map Send p.0) (GoesOnBy n w.link.contexts
          (λ next. Talks titles w next us) rs) deeds) told.1 p.3,
    )

served_in : (s : State) (A B : Goes) (rs : List Reply) (deeds : List Deed) → s ≡ Sta6 → InState s A B rs deeds
    → A rs deeds
served_in Sta6 A B rs deeds is p = p
served_in Sta1 A B rs deeds is p = absurd cc
served_in Sta2 A B rs deeds is p = absurd cc
served_in Sta13 A B rs deeds is p = absurd cc

pub cancel_ends : CancelEnds
cancel_ends titles w sub m us rs deeds opened is talk =
    ends_by (meaning_of sub.progress m.command) titles w sub us rs deeds is
    (served_in w.state (Attends (Some sub) w m (row titles w.state LocalAbort) (λ next. Talks titles w next us)
    (Talks titles (met titles w LocalAbort) None us)) (Talks titles w (Some sub) us) rs deeds opened talk)
