-- What the steps of several sites do.
use Rattle.std.specs.Prelude.{◌≡◌, ℕ, zero, suc, ◌+◌, min, List, [], ◌∷◌, ◌++◌, length, Option, Some, None, Ok, Err}
use Rattle.std.specs.Prelude.{Result, Bool, true, false, not, ◌==◌, if◌then◌else◌, MatchBool, MatchResult, codes}
use Rattle.std.specs.List.{slice_get, slice_set}
use Rattle.operation.specs.declared.op.Op.{Op}
use Rattle.operation.specs.declared.op.Op.TheVariants.{Correction as a_correction}
use Rattle.operation.specs.declared.stamp.Stamp.{Stamp}
use Rattle.operation.specs.declared.target.Target.{Target}
use Rattle.operation.specs.Parts.{CorrectionParts}
use Rattle.operation.specs.Spelling.{digest_of}
use Rattle.operation.specs.Corrections.{is_correction}
use Rattle.archive_model.specs.declared.view.View.{View}
use Rattle.archive_model.specs.declared.view.View.TheVariants.{Archive, Quality, Audit}
use Rattle.archive_model.specs.declared.query.Query.{Query}
use Rattle.archive_model.specs.Rows.{rows_of}
use Rattle.archive_model.specs.declared.accepts.Accepts.{Accepts}
use Rattle.archive_model.specs.declared.selection.Selection.{Selection}
use Rattle.archive_model.specs.Sending.{sendings_of}
use Rattle.site_state.specs.Site.{Map, held_at, with_op, ops_of, top_counter_of}
use Rattle.operation.specs.declared.taken.Taken.{Taken}
use Rattle.operation.specs.declared.taken.Taken.TheVariants.{New, Known}
use Rattle.site_state.specs.declared.fault.SiteFault.{SiteFault}
use Rattle.site_state.specs.declared.fault.SiteFault.TheVariants.{Collision, Memory as site_memory}
use Rattle.exchange.specs.declared.version.Version.{Version}
use Rattle.exchange.specs.Held.{is_spoken, offered}
use Rattle.exchange.specs.Buckets.{bucket_list}
use Rattle.site_world.specs.declared.fault.WorldFault.{WorldFault}
use Rattle.site_world.specs.declared.fault.WorldFault.TheVariants.{NoSite, NoMessage, Site, StampsSpent, Memory}
use Rattle.site_world.specs.declared.fault.WorldFault.TheVariants.{BadCorrection, OldSite}
use Rattle.site_world.specs.declared.step.Step.{Step}
use Rattle.site_world.specs.declared.step.Step.TheVariants.{Take, Correct, Offer, Buckets, Deliver, Old, Look, Get}
use Rattle.site_world.specs.declared.step.Seen.{Seen}
use Rattle.site_world.specs.declared.step.Seen.TheVariants.{Took, Stamped, Offered, Wanted, Gave, Differs, Has, Aged}
use Rattle.site_world.specs.declared.step.Seen.TheVariants.{Rows, Sent}
use Rattle.site_world.specs.declared.message.Message.{Message}
use Rattle.site_world.specs.declared.message.Says.{Says}
use Rattle.site_world.specs.declared.message.Says.TheVariants.{Have, Want, Buckets as says_buckets, Differ}
use Rattle.site_world.specs.declared.message.Reaction.{Reaction}
use Rattle.site_world.specs.declared.message.Reaction.TheVariants.{Asks, Compares, Offers, Gives as gives_them, Takes}
use Rattle.site_world.specs.Messages.{WorldState, message_at, site_for, version_at, version_between, has_begun}
use Rattle.site_world.specs.Messages.{reaction, message, gives, numbers_behind}
use Rattle.site_world.specs.Same.{same_op}

-- want of memory, which may refuse any step
abbrev pub is_memory : WorldFault → Bool
is_memory Memory = true
is_memory NoSite = false
is_memory NoMessage = false
is_memory (Site fault) = false
is_memory StampsSpent = false
is_memory BadCorrection = false
is_memory OldSite = false

abbrev pub is_refused_memory : {A : Type 0} → Result A WorldFault → Bool
is_refused_memory (Ok x) = false
is_refused_memory (Err fault) = is_memory fault

-- what the fault of a site is in a world
abbrev pub fault_of_site : SiteFault → WorldFault
fault_of_site Collision = Site Collision
fault_of_site site_memory = Memory

-- ---- one site

-- what is answered to an operation where this is held under its digest
abbrev pub answer_to : Option Op → Op → Result Taken WorldFault
answer_to None op = Ok New
answer_to (Some held) op = if same_op held op then Ok Known else Err (Site Collision)

-- what a site answers to an operation that it is to take
abbrev pub taken_by : Map → Op → Result Taken WorldFault
taken_by m op = answer_to (held_at m (digest_of op)) op

-- what a site answers that knows what a version speaks of
abbrev pub taken_in : Version → Map → Op → Result Taken WorldFault
taken_in version m op = if is_spoken version op then taken_by m op else Err OldSite

-- What a step is answered; the operation that it brought, if it brought one; the messages that it sent; and the number
-- of the site that it made old, if it did.
pub record Told : Type 0 where
  pub seen : Result Seen WorldFault
  pub brings : Option Op
  pub sends : List Message
  pub ages : Option ℕ

-- an answer, and nothing else
abbrev pub only : Result Seen WorldFault → Told
only seen = record { seen = seen; brings = None; sends = []; ages = None }

-- an operation that was brought
abbrev pub bringing : Seen → Op → Told
bringing seen op = record { seen = Ok seen; brings = Some op; sends = []; ages = None }

abbrev pub told_of_taking : Op → Result Taken WorldFault → Told
told_of_taking op (Ok taken) = bringing (Took taken) op
told_of_taking op (Err fault) = only (Err fault)

abbrev pub told_of_stamping : Stamp → Op → Result Taken WorldFault → Told
told_of_stamping stamp op (Ok taken) = bringing (Stamped stamp) op
told_of_stamping stamp op (Err fault) = only (Err fault)

abbrev pub LAST_COUNTER : ℕ
LAST_COUNTER = 18446744073709551615

-- the stamp of site n that comes after all corrections of its set
abbrev pub next_stamp : ℕ → Map → Stamp
next_stamp n m = record { counter = min (top_counter_of (ops_of m) + 1) LAST_COUNTER; site = n }

-- the correction that is made at site n
abbrev pub made_at : ℕ → Map → Target → ℕ → List ℕ → CorrectionParts
made_at n m target tag value = record { target = target; tag = tag; value = value; stamp = next_stamp n m }

-- a correction that was made, or the first reason why not
abbrev pub told_of_correcting : Version → Map → CorrectionParts → Told
told_of_correcting version m made =
    if not (is_correction made) then only (Err BadCorrection)
    else if top_counter_of (ops_of m) == LAST_COUNTER then only (Err StampsSpent)
    else told_of_stamping made.stamp (a_correction made) (taken_in version m (a_correction made))

-- the called title of a view
abbrev pub title_of : View → List ℕ
title_of Archive = codes "ARCHIVE"
title_of Quality = codes "QUALITY"
title_of Audit = codes "AUDIT"

-- the rows that answer a query; a look changes nothing
abbrev pub told_of_looking : Map → View → Query → Told
told_of_looking m view query = only (Ok (Rows (rows_of view (title_of view) query (ops_of m))))

-- what is sent of a selection; nor does this
abbrev pub told_of_getting : Map → View → Selection → Accepts → Told
told_of_getting m view selection accepts = only (Ok (Sent (sendings_of view selection accepts (ops_of m))))

-- ---- sites by their numbers

-- the site of this number, from 1
abbrev pub site_at : List Map → ℕ → Option Map
site_at sites zero = None
site_at sites (suc i) = slice_get sites i

-- the sites, with this one at that number
abbrev pub with_site : List Map → ℕ → Map → List Map
with_site sites zero m = sites
with_site sites (suc i) m = slice_set sites i m

-- ---- messages

-- a message that is sent, of which the number is seen
abbrev pub told_of_sending : (ℕ → Seen) → List Message → Message → Told
told_of_sending seen sent one =
    record { seen = Ok (seen (length sent + 1)); brings = None; sends = one ∷ []; ages = None }

-- operations that are given, a message each
abbrev pub told_of_giving : List Message → ℕ → ℕ → List Op → Told
told_of_giving sent from to ops =
    record {
      seen = Ok (Gave (numbers_behind sent (length ops)));
      brings = None;
      sends = gives from to ops;
      ages =
          None;
    }

-- what a message leads to at its site
abbrev pub told_of_reaction : WorldState → Map → ℕ → ℕ → Reaction → Told
told_of_reaction w m from to (Asks want) = told_of_sending Wanted w.sent (message to from (Want want))
told_of_reaction w m from to (Compares places) = told_of_sending Differs w.sent (message to from (Differ places))
told_of_reaction w m from to (Offers have) = told_of_sending Has w.sent (message to from (Have have))
told_of_reaction w m from to (gives_them ops) = told_of_giving w.sent to from ops
told_of_reaction w m from to (Takes op) = told_of_taking op (taken_in (version_at w.aged to) m op)

abbrev pub told_of_message : WorldState → Map → Option Message → Told
told_of_message w m None = only (Err NoMessage)
told_of_message w m (Some one) =
    told_of_reaction w m one.from one.to (reaction (version_between w.aged one.from one.to) m one.says)

-- Only a site that took nothing, and from and to which no message was sent, is made old.
abbrev pub told_of_aging : WorldState → ℕ → Map → Told
told_of_aging w number m =
    if has_begun w.sent number m then only (Err OldSite)
    else record { seen = Ok Aged; brings = None; sends = []; ages = Some number }

-- ---- several sites

-- where there is no such site, that is told before all else
abbrev pub on_site : WorldFault → Option Map → (Map → Told) → Told
on_site fault None tells = only (Err fault)
on_site fault (Some m) tells = tells m

-- the number of the site that a step is at; a message that was not sent is for none
abbrev pub site_of : List Message → Step → ℕ
site_of sent (Take n op) = n
site_of sent (Correct n target tag value) = n
site_of sent (Offer from to) = from
site_of sent (Buckets from to) = from
site_of sent (Deliver number) = site_for (message_at sent number)
site_of sent (Old n) = n
site_of sent (Look n view query) = n
site_of sent (Get n view selection accepts) = n

-- what is told where there is no such site
abbrev pub absent : Step → WorldFault
absent (Take n op) = NoSite
absent (Correct n target tag value) = NoSite
absent (Offer from to) = NoSite
absent (Buckets from to) = NoSite
absent (Deliver number) = NoMessage
absent (Old n) = NoSite
absent (Look n view query) = NoSite
absent (Get n view selection accepts) = NoSite

-- a message that opens a round from a site to another, which has to be there
abbrev pub told_of_opening : WorldState → ℕ → ℕ → Says → Told
told_of_opening w from to says =
    on_site NoSite (site_at w.sites to) (λ _. told_of_sending Offered w.sent (message from to says))

-- what a step is told at its site
abbrev pub told_at : WorldState → Map → Step → Told
told_at w m (Take n op) = told_of_taking op (taken_in (version_at w.aged n) m op)
told_at w m (Correct n target tag value) = told_of_correcting (version_at w.aged n) m (made_at n m target tag value)
told_at w m (Offer from to) = told_of_opening w from to (Have (offered (version_between w.aged from to) m))
told_at w m (Buckets from to) =
    told_of_opening w from to (says_buckets (bucket_list (offered (version_between w.aged from to) m)))
told_at w m (Deliver number) = told_of_message w m (message_at w.sent number)
told_at w m (Old n) = told_of_aging w n m
told_at w m (Look n view query) = told_of_looking m view query
told_at w m (Get n view selection accepts) = told_of_getting m view selection accepts

-- what a step is told
abbrev pub told : WorldState → Step → Told
told w step = on_site (absent step) (site_at w.sites (site_of w.sent step)) (λ m. told_at w m step)

abbrev pub seen_by : WorldState → Step → Result Seen WorldFault
seen_by w step = (told w step).seen

-- a site with an operation more
abbrev pub bring : List Map → ℕ → Option Map → Op → List Map
bring sites n None op = sites
bring sites n (Some m) op = with_site sites n (with_op m op)

-- the sites once an operation, if any, was brought to one of them
abbrev pub brought : List Map → ℕ → Option Op → List Map
brought sites n None = sites
brought sites n (Some op) = bring sites n (site_at sites n) op

-- the messages that were sent, with some more
abbrev pub sent_also : List Message → List Message → List Message
sent_also sent [] = sent
sent_also sent (one ∷ more) = sent ++ (one ∷ more)

-- the old sites, with one more, if any
abbrev pub aged_also : List ℕ → Option ℕ → List ℕ
aged_also old None = old
aged_also old (Some number) = old ++ (number ∷ [])

-- a world once something was told at the site of a number
abbrev pub with_told : WorldState → ℕ → Told → WorldState
with_told w n t =
    record { sites = brought w.sites n t.brings; sent = sent_also w.sent t.sends; aged = aged_also w.aged t.ages }

-- a world after a step
abbrev pub after : WorldState → Step → WorldState
after w step = with_told w (site_of w.sent step) (told w step)

-- From old, a world in which this is told at the site of a number may answer so, and go on to new.
abbrev pub Comes : WorldState → ℕ → Told → Result Seen WorldFault → WorldState → Type 0
Comes old n t answer new =
    MatchBool (is_refused_memory answer)
    (new ≡ old)
    ((answer ≡ t.seen) × (new ≡ with_told old n t))

-- From old, a world may answer so to a step, and go on to new.
abbrev pub Happens : WorldState → Step → Result Seen WorldFault → WorldState → Type 0
Happens old step answer new = Comes old (site_of old.sent step) (told old step) answer new

-- ---- what a part of a step does at its site

-- an operation handed to a site, to which this is answered
abbrev pub IsTaken : Map → Op → Result Taken WorldFault → Result Taken WorldFault → Map → Type 0
IsTaken old op told answer new =
    MatchBool (is_refused_memory answer)
    (new ≡ old)
    ((answer ≡ told) × MatchResult answer (λ _. new ≡ with_op old op) (λ _. new ≡ old))

abbrev pub holding_also : Map → Option Op → Map
holding_also m None = m
holding_also m (Some op) = with_op m op

-- a step at one site that is told so
abbrev pub IsTold : Map → Told → Result Seen WorldFault → Map → Type 0
IsTold old told answer new =
    MatchBool (is_refused_memory answer)
    (new ≡ old)
    ((answer ≡ told.seen) × (new ≡ holding_also old told.brings))
