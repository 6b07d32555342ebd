-- Steps at one site are steps of the world.
use Rattle.std.proofs.Common.{◌≡◌, ◌<◌, ℕ, suc, zero, List, [], ◌∷◌, ◌++◌, Option, Some, None, Result, Bool, true}
use Rattle.std.proofs.Common.{false, refl, sym, ap, subst, ◌∙◌, length, slice_set, slice_index_or}
use Rattle.std.proofs.lemmas.Option.{slice_get_read, same_Some}
use Rattle.std.proofs.lemmas.Bool.{eqb-true}
use Rattle.std.specs.Prelude.{MatchBool, ◌==◌, ◌+◌, Ok, Err, OnOk, not, cond, min}
use Rattle.std.specs.List.{slice_get}
use Rattle.operation.specs.declared.op.Op.{Op}
use Rattle.operation.specs.declared.target.Target.{Target}
use Rattle.archive_model.specs.declared.view.View.{View}
use Rattle.archive_model.specs.declared.query.Query.{Query}
use Rattle.archive_model.specs.declared.accepts.Accepts.{Accepts}
use Rattle.archive_model.specs.declared.selection.Selection.{Selection}
use Rattle.site_state.specs.Site.{Map}
use Rattle.site_world.specs.declared.fault.WorldFault.{WorldFault}
use Rattle.site_world.specs.declared.step.Step.{Step}
use Rattle.site_world.specs.declared.step.Step.TheVariants.{Take, Correct, Deliver, Look, Get}
use Rattle.site_world.specs.declared.step.Seen.{Seen}
use Rattle.site_world.specs.declared.fault.WorldFault.TheVariants.{NoSite, NoMessage}
use Rattle.site_world.specs.declared.fault.WorldFault.TheVariants.{BadCorrection, StampsSpent}
use Rattle.site_world.specs.declared.message.Message.{Message}
use Rattle.site_world.specs.declared.message.Reaction.{Reaction}
use Rattle.exchange.specs.declared.version.Version.{Version}
use Rattle.operation.specs.declared.op.Op.TheVariants.{Correction as a_correction}
use Rattle.operation.specs.declared.stamp.Stamp.{Stamp}
use Rattle.operation.specs.declared.taken.Taken.{Taken}
use Rattle.operation.specs.Parts.{CorrectionParts}
use Rattle.operation.specs.Corrections.{is_correction, checked}
use Rattle.operation.specs.declared.fault.OpFault.TheVariants.{BadCorrection as Breach}
use Rattle.site_state.specs.Site.{ops_of, top_counter_of}
use Rattle.site_world.specs.Messages.{WorldState, message_at, site_for}
use Rattle.site_world.specs.Messages.{version_at, version_between, reaction}
use Rattle.site_world.specs.Steps.{Told, only, is_refused_memory, on_site}
use Rattle.site_world.specs.Steps.{site_at, brought, bring, holding_also, IsTold}
use Rattle.site_world.specs.Steps.{Comes, Happens, seen_by, after}
use Rattle.site_world.specs.Steps.{with_told, told_of_taking, told_of_stamping, told_of_correcting}
use Rattle.site_world.specs.Steps.{told_of_looking, told_of_getting, told_of_message}
use Rattle.site_world.specs.Steps.{told_of_reaction, taken_in}
use Rattle.site_world.specs.Steps.{made_at, sent_also, aged_also, LAST_COUNTER}
use Rattle.site_world.specs.Runs.{Run}

-- a world of these parts
abbrev pub the_world : List Map → List Message → List ℕ → WorldState
the_world sites sent old = record { sites = sites; sent = sent; aged = old }

set_again : {X : Type 0} (xs : List X) (k : ℕ) (x : X) → slice_get xs k ≡ Some x → slice_set xs k x ≡ xs
set_again [] k x e = refl
set_again (y ∷ xs) zero x e = ap (λ z. z ∷ xs) (same_Some x y (sym e))
set_again (y ∷ xs) (suc k) x e = ap (λ ys. y ∷ ys) (set_again xs k x e)

-- what was brought to the site that stands at a place
brought_there : (sites : List Map) (k : ℕ) (m n : Map) (op : Option Op) → slice_get sites k ≡ Some m →
    n ≡ holding_also m op → slice_set sites k n ≡ brought sites (suc k) op
brought_there sites k m n None at now = ap (slice_set sites k) now ∙ set_again sites k m at
brought_there sites k m n (Some op) at now = ap (slice_set sites k) now ∙ ap (λ r. bring sites (suc k) r op) (sym at)

by_memory : (b : Bool) (sites : List Map) (k : ℕ) (m n : Map) (fault : WorldFault) (tells : Map → Told)
    (r : Result Seen WorldFault) → slice_get sites k ≡ Some m
    → MatchBool b (n ≡ m) ((r ≡ (tells m).seen) × (n ≡ holding_also m (tells m).brings))
    → MatchBool b (slice_set sites k n ≡ sites) ((r ≡ (on_site fault (slice_get sites k) tells).seen)
    × (slice_set sites k n ≡ brought sites (suc k) (on_site fault (slice_get sites k) tells).brings))
by_memory true sites k m n fault tells r at same = ap (slice_set sites k) same ∙ set_again sites k m at
by_memory false sites k m n fault tells r at did = (
  did.0 ∙ ap (λ s. (on_site fault s tells).seen) (sym at),
  brought_there sites k m n (tells m).brings at did.1
      ∙ ap (λ s. brought sites (suc k) (on_site fault s tells).brings) (sym at),
)

-- ---- what was told with no message

-- no message was sent, and no site was made old
abbrev pub Plain : Told → Type 0
Plain t = (t.sends ≡ []) × (t.ages ≡ None)

pub plain_taking : (op : Op) (r : Result Taken WorldFault) → Plain (told_of_taking op r)
plain_taking op (Ok taken) = (refl, refl)
plain_taking op (Err fault) = (refl, refl)

plain_stamping : (stamp : Stamp) (op : Op) (r : Result Taken WorldFault) → Plain (told_of_stamping stamp op r)
plain_stamping stamp op (Ok taken) = (refl, refl)
plain_stamping stamp op (Err fault) = (refl, refl)

by_correcting : (stamp : Stamp) (op : Op) (r : Result Taken WorldFault) (is_bad is_spent : Bool)
    → Plain (cond is_bad (only (Err BadCorrection)) (cond is_spent (only (Err StampsSpent)) (told_of_stamping stamp op
    r)))
by_correcting stamp op r true is_spent = (refl, refl)
by_correcting stamp op r false true = (refl, refl)
by_correcting stamp op r false false = plain_stamping stamp op r

pub plain_correcting : (version : Version) (m : Map) (made : CorrectionParts) → Plain (told_of_correcting version m
    made)
plain_correcting version m made =
    by_correcting made.stamp (a_correction made) (taken_in version m (a_correction made)) (not (is_correction made))
    (top_counter_of (ops_of m) == LAST_COUNTER)

plain_there : (fault : WorldFault) (r : Option Map) (tells : Map → Told) → ((m : Map) → Plain (tells m))
    → Plain (on_site fault r tells)
plain_there fault None tells plain = (refl, refl)
plain_there fault (Some m) tells plain = plain m

comes_by : (b : Bool) (w : WorldState) (n : ℕ) (t : Told) (r : Result Seen WorldFault) (sites : List Map) → Plain t
    → MatchBool b (sites ≡ w.sites) ((r ≡ t.seen) × (sites ≡ brought w.sites n t.brings))
    → let new : WorldState = the_world sites w.sent w.aged in
    MatchBool b (new ≡ w) ((r ≡ t.seen) × (new ≡ with_told w n t))
comes_by true w n t r sites plain same =
    ap (λ (s : List Map). the_world s w.sent w.aged) same
comes_by false w n t r sites plain did = (
  did.0,
  ap (λ (s : List Map). the_world s w.sent w.aged) did.1
      ∙ ap (λ (more : List Message). the_world (brought w.sites n t.brings) (sent_also w.sent more) w.aged)
      (sym plain.0)
      ∙ ap (λ (one : Option ℕ). the_world (brought w.sites n t.brings) (sent_also w.sent t.sends) (aged_also w.aged
      one))
      (sym plain.1),
)

-- a step at the site that stands at a place
pub step_there : (w : WorldState) (k : ℕ) (m n : Map) (fault : WorldFault) (tells : Map → Told)
    (r : Result Seen WorldFault) → slice_get w.sites k ≡ Some m → ((x : Map) → Plain (tells x))
    → IsTold m (tells m) r n
    → Comes w (suc k) (on_site fault (slice_get w.sites k) tells) r (the_world (slice_set w.sites k n) w.sent w.aged)
step_there w k m n fault tells r at plain told =
    comes_by (is_refused_memory r) w (suc k) (on_site fault (slice_get w.sites k) tells) r (slice_set w.sites k n)
    (plain_there fault (slice_get w.sites k) tells plain)
    (by_memory (is_refused_memory r) w.sites k m n fault tells r at told)

-- an operation brought to the site that stands at a place
pub bring_comes : (w : WorldState) (k : ℕ) (m n : Map) (version : Version) (op : Op) (r : Result Seen WorldFault) →
    k < length w.sites → m ≡ slice_index_or w.sites k m → version ≡ version_at w.aged (suc k)
    → IsTold m (told_of_taking op (taken_in version m op)) r n
    → Comes w (suc k) (on_site NoSite (site_at w.sites (suc k)) (λ x. told_of_taking op (taken_in (version_at w.aged
    (suc
    k)) x op))) r (the_world (slice_set w.sites k n) w.sent w.aged)
bring_comes w k m n version op r small at is told =
    step_there w k m n NoSite (λ x. told_of_taking op (taken_in (version_at w.aged (suc k)) x op)) r (slice_get_read
    w.sites (length w.sites) k m refl small at) (λ x. plain_taking op _)
    (subst (λ v. IsTold m (told_of_taking op (taken_in v m op)) r n) is told)

-- An operation that is taken is a copy.
pub take_happens : (w new : WorldState) (n : ℕ) (op copy : Op) (r : Result Seen WorldFault) → copy ≡ op
    → Comes w n (on_site NoSite (site_at w.sites n) (λ m. told_of_taking copy (taken_in (version_at w.aged n) m
    copy))) r
    new
    → Happens w (Take n op) r new
take_happens w new n op copy r copied comes =
    subst (λ o. Comes w n (on_site NoSite (site_at w.sites n) (λ m. told_of_taking o (taken_in (version_at w.aged n) m
    o))) r new) copied comes

pub correct_happens : (w : WorldState) (k : ℕ) (m n : Map) (version : Version) (target target_copy : Target) (tag : ℕ)
    (value value_copy : List ℕ) (r : Result Seen WorldFault) → k < length w.sites → m ≡ slice_index_or w.sites k m
    → version ≡ version_at w.aged (suc k) → target_copy ≡ target → value_copy ≡ value
    → IsTold m (told_of_correcting version m (made_at (suc k) m target_copy tag value_copy)) r n →
    Happens w (Correct (suc k) target tag value) r (the_world (slice_set w.sites k n) w.sent w.aged)
correct_happens w k m n version target target_copy tag value value_copy r small at is one other told =
    step_there w k m n NoSite (λ x. told_of_correcting (version_at w.aged (suc k)) x (made_at (suc k) x target tag
    value))
    r (slice_get_read w.sites (length w.sites) k m refl small at) (λ x. plain_correcting _ x _)
    (subst (λ ver. IsTold m (told_of_correcting ver m (made_at (suc k) m target tag value)) r n) is
    (subst (λ v. IsTold m (told_of_correcting version m (made_at (suc k) m target tag v)) r n) other (subst
    (λ t. IsTold m (told_of_correcting version m (made_at (suc k) m t tag value_copy)) r n) one told)))

-- ---- corrections

unequal_is : (x y : ℕ) (b : Bool) → (x == y) ≡ b → (x ≡ y → ⊥) → (x == y) ≡ false
unequal_is x y true is apart = absurd (apart (eqb-true x y is))
unequal_is x y false is apart = is

module _ (version : Version) (m n : Map) (number : ℕ) (target : Target) (tag : ℕ) (value : List ℕ)
    (r : Result Seen WorldFault) where
  -- the correction with this counter
  abbrev parts : ℕ → CorrectionParts
  parts k = record { target = target; tag = tag; value = value; stamp = record { counter = k; site = number } }

  by_made : (counter : ℕ) (made : CorrectionParts) (b : Bool) → is_correction (parts counter) ≡ b
      → Ok made ≡ cond b (Ok (parts counter)) (Err Breach) → (top_counter_of (ops_of m) == LAST_COUNTER) ≡ false
      → IsTold m (told_of_stamping (parts counter).stamp (a_correction made) (taken_in version m (a_correction
      made))) r n
      → IsTold m (told_of_correcting version m (parts counter)) r n
  by_made counter made true lawful is spent told =
      let one : made ≡ parts counter = cc in
      let tells = told_of_stamping (parts counter).stamp (a_correction (parts counter)) (taken_in version m
      (a_correction (parts counter))) in
      subst (λ b. IsTold m (cond (not b) (only (Err BadCorrection)) (cond (top_counter_of (ops_of m) == LAST_COUNTER)
      (only (Err StampsSpent)) tells)) r n) (sym lawful)
      (subst (λ b. IsTold m (cond b (only (Err StampsSpent)) tells) r n) (sym spent)
      (subst (λ x. IsTold m (told_of_stamping (parts counter).stamp (a_correction x) (taken_in version m (a_correction
      x))) r n) one told))
  by_made counter made false lawful is spent told = absurd cc

  -- A correction that may be made, with a stamp behind all others, is handed to its site.
  pub correcting_told : (counter top : ℕ) (made : CorrectionParts)
      → Ok made ≡ checked (record {
        target = target;
        tag = tag;
        value = value;
        stamp = record {
          counter = counter;
          site
              = number;
        };
      })
      → counter ≡ min (top + 1) LAST_COUNTER → top ≡ top_counter_of (ops_of m) → (top ≡ LAST_COUNTER → ⊥)
      → IsTold m (told_of_stamping (record { counter = counter; site = number }) (a_correction made) (taken_in version m
      (a_correction made))) r n
      → IsTold m (told_of_correcting version m (made_at number m target tag value)) r n
  correcting_told counter top made is behind at unspent told =
      subst (λ k. IsTold m (told_of_correcting version m (parts k)) r n) (behind ∙ ap (λ t. min (t + 1) LAST_COUNTER)
      at)
      (by_made counter made (is_correction (parts counter)) refl is (ap (λ t. t == LAST_COUNTER) (sym at) ∙
      unequal_is top LAST_COUNTER (top == LAST_COUNTER) refl unspent)
      told)

-- ---- messages

-- A message leads to what comes of it at its site.
pub deliver_happens : (w new : WorldState) (number : ℕ) (one : Message) (m : Map) (did : Reaction)
    (r : Result Seen WorldFault) → Some one ≡ message_at w.sent number → Some m ≡ site_at w.sites one.to
    → did ≡ reaction (version_between w.aged one.from one.to) m one.says
    → Comes w one.to (told_of_reaction w m one.from one.to did) r new → Happens w (Deliver number) r new
deliver_happens w new number one m did a at there is comes =
    subst (λ r. Comes w (site_for r) (on_site NoMessage (site_at w.sites (site_for r)) (λ x. told_of_message w x r)) a
    new) at
    (subst (λ s. Comes w one.to (on_site NoMessage s (λ x. told_of_message w x (Some one))) a new) there
    (subst (λ d. Comes w one.to (told_of_reaction w m one.from one.to d) a new) is comes))

-- ---- runs

-- One step more is a longer run.
pub run_more : (old : WorldState) (steps : List Step) (answers : List (Result Seen WorldFault)) (mid new :
    WorldState) (step
    : Step) (answer : Result Seen WorldFault)
    → Run old steps answers mid → Happens mid step answer new →
    Run old (steps ++ (step ∷ [])) (answers ++ (answer ∷ [])) new
run_more old [] [] mid new step answer same happens = (new, subst (λ w. Happens w step answer new) same happens, refl)
run_more old [] (a ∷ answers) mid new step answer run happens = absurd run
run_more old (s ∷ steps) [] mid new step answer run happens = absurd run
run_more old (s ∷ steps) (a ∷ answers) mid new step answer (w, first, rest) happens =
    (w, first, run_more w steps answers mid new step answer rest happens)

-- A site that is asked and stays as it is.
abbrev asks : (Map → Result Seen WorldFault) → Map → Told
asks seen m = only (seen m)

seen_happens : (w : WorldState) (n : ℕ) (seen : Map → Result Seen WorldFault) (m : Map) (r : Result Seen WorldFault)
    → Some m ≡ site_at w.sites n → IsTold m (asks seen m) r m → Comes w n (on_site NoSite (site_at w.sites n) (asks
    seen)) r w
seen_happens w n seen m r at told =
    subst (λ s. Comes w n (on_site NoSite s (asks seen)) r w) at (by_told (is_refused_memory r) told)
  where
    by_told : (b : Bool) → MatchBool b (m ≡ m) ((r ≡ seen m) × (m ≡ m)) →
        MatchBool b (w ≡ w) ((r ≡ seen m) × (w ≡ w))
    by_told true told = refl
    by_told false told = (told.0, refl)

pub look_happens : (w : WorldState) (n : ℕ) (view : View) (query : Query) (m : Map) (r : Result Seen WorldFault) →
    Some m ≡ site_at w.sites n → IsTold m (told_of_looking m view query) r m → Happens w (Look n view query) r w
look_happens w n view query m r at told =
    seen_happens w n (λ x. (told_of_looking x view query).seen) m r at told

pub get_happens : (w : WorldState) (n : ℕ) (view : View) (selection : Selection) (accepts : Accepts) (m : Map)
    (r : Result Seen WorldFault) → Some m ≡ site_at w.sites n → IsTold m (told_of_getting m view selection accepts) r
    m →
    Happens w (Get n view selection accepts) r w
get_happens w n view selection accepts m r at told =
    seen_happens w n (λ x. (told_of_getting x view selection accepts).seen) m r at told

-- A step that memory did not refuse leads to the world that its definition says.
pub happened : (old new : WorldState) (step : Step) (answer : Result Seen WorldFault) → Happens old step answer new
    → is_refused_memory answer ≡ false → new ≡ after old step
happened old new step answer happens e =
    (subst (λ b. MatchBool b (new ≡ old) ((answer ≡ seen_by old step) × (new ≡ after old step))) e happens).1

pub on_ok : {A E P : Type 0} (r : Result A E) → P → OnOk r P
on_ok (Ok x) p = p
on_ok (Err e) p = tt
