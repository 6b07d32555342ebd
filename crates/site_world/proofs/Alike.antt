-- Sites at which the same operations were taken are alike.
use Rattle.std.proofs.Common.{◌≡◌, ℕ, suc, zero, List, [], ◌∷◌, ◌++◌, Option, Some, None, Ok, Result, refl, sym, ap}
use Rattle.std.proofs.Common.{subst, ◌∙◌, inl, inr, ◌⊎◌, ◌+◌, take, drop, length, arith}
use Rattle.std.specs.Prelude.{replicate}
use Rattle.std.specs.List.{slice_get}
use Rattle.std.specs.Option.{option_map}
use Rattle.std.specs.FinMap.{empty}
use Rattle.std.proofs.lemmas.Option.{same_Some as some_is}
use Rattle.data_set.specs.Set.{Set}
use Rattle.operation.specs.declared.op.Op.{Op}
use Rattle.archive_model.specs.Members.{Has, SameMembers}
use Rattle.archive_model.specs.declared.view.View.{View}
use Rattle.archive_model.specs.declared.query.Query.{Query}
use Rattle.archive_model.specs.Rows.{rows_of}
use Rattle.archive_model.specs.declared.accepts.Accepts.{Accepts}
use Rattle.archive_model.specs.declared.selection.Selection.{Selection}
use Rattle.archive_model.specs.declared.sending.Sending.{Sending}
use Rattle.archive_model.specs.Sending.{sendings_of}
use Rattle.site_state.specs.Site.{Map, ops_of}
use Rattle.site_state.specs.Laws.{holding}
use Rattle.site_state.proofs.Same.{equal_maps}
use Rattle.study_index.specs.Definition.{index_value}
use Rattle.site_world.specs.declared.fault.WorldFault.{WorldFault}
use Rattle.site_world.specs.declared.step.Step.{Step}
use Rattle.site_world.specs.declared.step.Step.TheVariants.{Look, Get}
use Rattle.site_world.specs.declared.step.Seen.{Seen}
use Rattle.site_world.specs.declared.step.Seen.TheVariants.{Rows, Sent}
use Rattle.site_world.specs.declared.message.Message.{Message}
use Rattle.site_world.specs.Messages.{WorldState, new_world}
use Rattle.site_world.specs.Steps.{site_at, site_of, title_of, on_site, told_at, absent, Happens}
use Rattle.site_world.specs.Runs.{Run, taken_at, taken_before, LooksAreRows, GetsAreSendings, Outcome, IsNew}
use Rattle.site_world.specs.Runs.{AnswerAlike}
use Rattle.site_world.specs.Runs.{SitesAreAlike, LooksAreAlike, GetsAreAlike, Headline}
use Rattle.site_world.specs.Headline.{SiteOf, SameTakenSameMaps, SameTakenSameAnswers, TimeIsFree, TakenAreApart}
use Rattle.site_world.proofs.Taken.{Front, front_itself, front_front, run_stays, step_stays, run_took}
use Rattle.site_world.proofs.Fitting.{Fits, run_fits, fits_apart}

-- ---- looks

-- where a run stands before a step, the step, and the run behind it
pub record Stands (old new : WorldState) (steps : List Step) (answers : List (Result Seen WorldFault)) (i : ℕ)
    (step : Step) (answer : Result Seen WorldFault) : Type 0 where
  pub mid : WorldState
  pub next : WorldState
  pub run : Run old (take i steps) (take i answers) mid
  pub happens : Happens mid step answer next
  pub behind : Run next (drop (suc i) steps) (drop (suc i) answers) new
  pub sent : Front mid.sent new.sent

-- Before a step the world is where the run of the steps before it ends.
pub before : (old new : WorldState) (steps : List Step) (answers : List (Result Seen WorldFault)) (i : ℕ) (step : Step)
    (answer : Result Seen WorldFault)
    → Run old steps answers new → slice_get steps i ≡ Some step → slice_get answers i ≡ Some answer
    → Stands old new steps answers i step answer
before old new [] answers i step answer run at told = absurd cc
before old new (s ∷ steps) [] i step answer run at told = absurd run
before old new (s ∷ steps) (a ∷ answers) zero step answer (mid, first, rest) at told = record {
  mid = old;
  next = mid;
  run = refl;
  happens = subst (λ x. Happens old x answer mid) (some_is s step at) (subst
      (λ x. Happens old s x mid) (some_is a answer told) first);
  behind = rest;
  sent = front_front old.sent mid.sent new.sent (step_stays old mid s a first) (run_stays mid new steps answers rest);
}
before old new (s ∷ steps) (a ∷ answers) (suc i) step answer (mid, first, rest) at told =
    let later = before mid new steps answers i step answer rest at told in
    record {
      mid = later.mid;
      next = later.next;
      run = (mid, first, later.run);
      happens = later.happens;
      behind = later.behind;
      sent = later.sent;
    }

-- The steps before one, that step and k steps behind it are the first of the run.
pub run_upto : (i k : ℕ) (old mid next late : WorldState) (steps : List Step) (answers : List (Result Seen WorldFault))
    (step : Step) (answer : Result Seen WorldFault)
    → Run old (take i steps) (take i answers) mid → slice_get steps i ≡ Some step → slice_get answers i ≡ Some answer
    → Happens mid step answer next → Run next (take k (drop (suc i) steps)) (take k (drop (suc i) answers)) late
    → Run old (take (suc (i + k)) steps) (take (suc (i + k)) answers) late
run_upto i k old mid next late [] answers step answer run at told happens rest = absurd cc
run_upto i k old mid next late (s ∷ steps) [] step answer run at told happens rest = absurd cc
run_upto zero k old mid next late (s ∷ steps) (a ∷ answers) step answer run at told happens rest =
    let none : k ≡ 0 + k = omega arith in
    subst (λ n. Run old (take (suc n) (s ∷ steps)) (take (suc n) (a ∷ answers)) late) none (
      next,
      subst (λ x. Happens old x a next) (sym (some_is s step at)) (subst (λ x. Happens old step x next)
          (sym (some_is a answer told)) (subst (λ w. Happens w step answer next) run happens)),
      rest,
    )
run_upto (suc i) k old mid next late (s ∷ steps) (a ∷ answers) step answer (one, first, run) at told happens rest =
    let more : suc (i + k) ≡ suc i + k = omega arith in
    subst (λ n. Run old (take (suc n) (s ∷ steps)) (take (suc n) (a ∷ answers)) late) more
    (one, first, run_upto i k one mid next late steps answers step answer run at told happens rest)

ok_is : (x y : Seen) (r : Result Seen WorldFault) → Ok x ≡ r → r ≡ Ok y → x ≡ y
ok_is x y r e f = let g = e ∙ f in cc

-- a step that asks the site of a number, and brings nothing there
pub record Asks (n : ℕ) (step : Step) (seen : Map → Seen) : Type 0 where
  pub here : (sent : List Message) → site_of sent step ≡ n
  pub said : (w : WorldState) (m : Map) → (told_at w m step).seen ≡ Ok (seen m)

-- It is answered what the site says of what it holds.
seen_here : (mid next : WorldState) (n : ℕ) (step : Step) (seen : Map → Seen) (answer : Seen) (m : Map)
    → Asks n step seen → Happens mid step (Ok answer) next → site_at mid.sites n ≡ Some m → answer ≡ seen m
seen_here mid next n step seen answer m asks happens at =
    ok_is answer (seen m) _ happens.0
    (ap (λ r. (on_site (absent step) r (λ x. told_at mid x step)).seen) (ap (site_at mid.sites) (asks.here mid.sent)
    ∙ at) ∙ asks.said mid m)

-- And its site has what was taken there before.
seen_before : (old new : WorldState) (steps : List Step) (answers : List (Result Seen WorldFault)) (i n : ℕ)
    (step : Step) (seen : Map → Seen) (answer : Seen) (m : Map) → Run old steps answers new → Asks n step seen
    → slice_get steps i ≡ Some step → slice_get answers i ≡ Some (Ok answer) → site_at old.sites n ≡ Some m
    → answer ≡ seen (holding m (taken_before new.sent i n steps answers))
seen_before old new steps answers i n step seen answer m run asks is told at =
    let here = before old new steps answers i step (Ok answer) run is told in
    seen_here here.mid here.next n step seen answer _ asks here.happens
    (run_took old here.mid (take i steps) (take i answers) new.sent here.run here.sent n
    ∙ ap (option_map (λ x. holding x (taken_before new.sent i n steps answers))) at)

abbrev rows_seen : View → Query → Map → Seen
rows_seen view query m = Rows (rows_of view (title_of view) query (ops_of m))

abbrev sent_seen : View → Selection → Accepts → Map → Seen
sent_seen view selection accepts m = Sent (sendings_of view selection accepts (ops_of m))

asks_look : (n : ℕ) (view : View) (query : Query) → Asks n (Look n view query) (rows_seen view query)
asks_look n view query = record { here = λ sent. refl; said = λ w m. refl }

asks_get : (n : ℕ) (view : View) (selection : Selection) (accepts : Accepts)
    → Asks n (Get n view selection accepts) (sent_seen view selection accepts)
asks_get n view selection accepts = record { here = λ sent. refl; said = λ w m. refl }

rows_are : (rows others : List Set) → Rows rows ≡ Rows others → rows ≡ others
rows_are rows others e = cc

sent_are : (sendings others : List Sending) → Sent sendings ≡ Sent others → sendings ≡ others
sent_are sendings others e = cc

pub looks_are_rows : (old new : WorldState) (steps : List Step) (answers : List (Result Seen WorldFault)) →
    Run old steps answers new → LooksAreRows old steps answers new
looks_are_rows old new steps answers run i n m view query rows look at =
    rows_are rows _ (seen_before old new steps answers i n (Look n view query) (rows_seen view query) (Rows rows) m run
    (asks_look n view query) look.0 look.1 at)

pub gets_are_sendings : (old new : WorldState) (steps : List Step) (answers : List (Result Seen WorldFault)) →
    Run old steps answers new → GetsAreSendings old steps answers new
gets_are_sendings old new steps answers run i n m view selection accepts sendings got at =
    sent_are sendings _ (seen_before old new steps answers i n (Get n view selection accepts) (sent_seen view selection
    accepts) (Sent sendings) m run (asks_get n view selection accepts) got.0 got.1 at)

-- What a run comes to.
pub outcome : (old new : WorldState) (steps : List Step) (answers : List (Result Seen WorldFault)) →
    Run old steps answers new → Outcome old steps answers new
outcome old new steps answers run = record {
  answered = run;
  taken = run_took old new steps answers new.sent run (front_itself new.sent);
  messages = run_stays old new steps answers run;
  looks = looks_are_rows old new steps answers run;
  gets = gets_are_sendings old new steps answers run;
}

-- ---- new worlds

of_copies : (count k : ℕ) (m : Map) → slice_get (replicate count empty) k ≡ Some m → m ≡ empty
of_copies zero k m e = absurd cc
of_copies (suc count) zero m e = sym (some_is empty m e)
of_copies (suc count) (suc k) m e = of_copies count k m e

pub new_holds : (count n : ℕ) (m : Map) → site_at (replicate count empty) n ≡ Some m → m ≡ empty
new_holds count zero m e = absurd cc
new_holds count (suc k) m e = of_copies count k m e

-- a site of a new world after a run: it holds what was taken at it, and that fits
abbrev pub Took : Map → List Op → Type 0
Took a ops = (a ≡ holding empty ops) × Fits empty ops

pub by_site : (old new : WorldState) (steps : List Step) (answers : List (Result Seen WorldFault)) (all : List Message)
    (n : ℕ) (a : Map) (r : Option Map)
    → ((m : Map) → site_at old.sites n ≡ Some m → m ≡ empty) → site_at old.sites n ≡ r → Run old steps answers new
    → Front new.sent all → site_at new.sites n ≡ Some a
    → Took a (taken_at all n steps answers)
by_site old new steps answers all n a None nothing was run begins at =
    absurd (let e = sym at ∙ run_took old new steps answers all run begins n
    ∙ ap (option_map (λ m. holding m (taken_at all n steps answers))) was in cc)
by_site old new steps answers all n a (Some m) nothing was run begins at =
    let ops = taken_at all n steps answers in
    let e : Some a ≡ Some (holding m ops) = sym at ∙ run_took old new steps answers all run begins n
    ∙ ap (option_map (λ x. holding x ops)) was in (
      some_is a (holding m ops) e ∙ ap (λ x. holding x ops) (nothing m was),
      subst (λ x. Fits x ops) (nothing m was) (run_fits old new steps answers all n m run begins was),
    )

-- Sites that took the same hold the same.
same_took : (a b : Map) (xs ys : List Op) → Took a xs → Took b ys → SameMembers xs ys → a ≡ b
same_took a b xs ys p q same = p.0 ∙ equal_maps xs ys (same, fits_apart empty xs p.1) ∙ sym q.0

pub answer_alike : (a b : Map) → a ≡ b → AnswerAlike a b
answer_alike a b e = record {
  rows = λ view called query. ap (λ m. rows_of view called query (ops_of m)) e;
  sendings = λ view selection accepts. ap (λ m. sendings_of view selection accepts (ops_of m)) e;
  index = ap (λ m. index_value (ops_of m)) e;
}

-- ---- laws over runs

pub site_took : (a : Map) (ops : List Op) → SiteOf a ops → Took a ops
site_took a ops s =
    subst (Took a) s.taken
    (by_site (new_world (replicate s.count empty)) s.world s.steps s.answers s.world.sent s.number a _ (new_holds
    s.count
    s.number) refl s.run (front_itself s.world.sent) s.here)

pub same_maps : SameTakenSameMaps
same_maps a b xs ys p q same = same_took a b xs ys (site_took a xs p) (site_took b ys q) same

pub same_answers : SameTakenSameAnswers
same_answers a b xs ys p q same = answer_alike a b (same_maps a b xs ys p q same)

pub taken_apart : TakenAreApart
taken_apart a ops s = fits_apart empty ops (site_took a ops s).1

to_middle : (o : Op) (xs ys : List Op) (x : Op) → (x ≡ o) ⊎ Has (xs ++ ys) x → Has (xs ++ (o ∷ ys)) x
to_middle o [] ys x h = h
to_middle o (z ∷ zs) ys x (inl e) = inr (to_middle o zs ys x (inl e))
to_middle o (z ∷ zs) ys x (inr (inl e)) = inl e
to_middle o (z ∷ zs) ys x (inr (inr h)) = inr (to_middle o zs ys x (inr h))

from_middle : (o : Op) (xs ys : List Op) (x : Op) → Has (xs ++ (o ∷ ys)) x → (x ≡ o) ⊎ Has (xs ++ ys) x
from_middle o [] ys x h = h
from_middle o (z ∷ zs) ys x (inl e) = inr (inl e)
from_middle o (z ∷ zs) ys x (inr h) = elim (from_middle o zs ys x h) [ inl e ↦ inl e | inr rest ↦ inr (inr rest) ]

moved : (o x : Op) (xs ys zs ws : List Op) → xs ++ ys ≡ zs ++ ws → Has (xs ++ (o ∷ ys)) x → Has (zs ++ (o ∷ ws)) x
moved o x xs ys zs ws same h =
    to_middle o zs ws x (subst (λ (ops : List Op). (x ≡ o) ⊎ Has ops x) same (from_middle o xs ys x h))

pub time_is_free : TimeIsFree
time_is_free a b o xs ys zs ws p q same =
    same_answers a b _ _ p q (λ x. (moved o x xs ys zs ws same, moved o x zs ws xs ys (sym same)))

-- ---- one run of a new world

module _ (old new : WorldState) (steps : List Step) (answers : List (Result Seen WorldFault)) (fresh : IsNew old)
    (run : Run old steps answers new) where
  nothing : (n : ℕ) (m : Map) → site_at old.sites n ≡ Some m → m ≡ empty
  nothing n m at = new_holds (length old.sites) n m (ap (λ (w : WorldState). site_at w.sites n) (sym fresh) ∙ at)

  sites_alike : SitesAreAlike steps answers new
  sites_alike m n a b at here same =
      let p = by_site old new steps answers new.sent m a _ (nothing m) refl run (front_itself new.sent) at in
      let q = by_site old new steps answers new.sent n b _ (nothing n) refl run (front_itself new.sent) here in
      let e = same_took a b _ _ p q same in
      (e, answer_alike a b e)

  -- a step that asks was answered over a site that holds what was taken there before
  answer_at : (i n : ℕ) (step : Step) (seen : Map → Seen) (answer : Seen) → Asks n step seen
      → slice_get steps i ≡ Some step → slice_get answers i ≡ Some (Ok answer)
      → (a : Map) × Took a (taken_before new.sent i n steps answers) × (answer ≡ seen a)
  answer_at i n step seen answer asks is told =
      let here = before old new steps answers i step (Ok answer) run is told in
      by_held here (site_at here.mid.sites n) refl
    where
      by_held : (here : Stands old new steps answers i step (Ok answer)) (r : Option Map) → site_at here.mid.sites n ≡ r
          → (a : Map) × Took a (taken_before new.sent i n steps answers) × (answer ≡ seen a)
      by_held here None at =
          absurd (let e = here.happens.0 ∙ ap (λ r. (on_site (absent step) r (λ x. told_at here.mid x step)).seen)
          (ap (site_at here.mid.sites) (asks.here here.mid.sent) ∙ at) in cc)
      by_held here (Some a) at = (
        a,
        by_site old here.mid (take i steps) (take i answers) new.sent n a _ (nothing n) refl here.run here.sent at,
        seen_here here.mid here.next n step seen answer a asks here.happens at,
      )

  -- Two that ask the same, where the same was taken before, are answered alike.
  answers_alike : (i j m n : ℕ) (step other : Step) (seen : Map → Seen) (answer second : Seen) → Asks m step seen
      → Asks n other seen
      → slice_get steps i ≡ Some step → slice_get answers i ≡ Some (Ok answer)
      → slice_get steps j ≡ Some other → slice_get answers j ≡ Some (Ok second)
      → SameMembers (taken_before new.sent i m steps answers) (taken_before new.sent j n steps answers)
      → answer ≡ second
  answers_alike i j m n step other seen answer second asks asks' is told is' told' same =
      let p = answer_at i m step seen answer asks is told in
      let q = answer_at j n other seen second asks' is' told' in
      p.2 ∙ ap seen (same_took p.0 q.0 _ _ p.1 q.1 same) ∙ sym q.2

  looks_alike : LooksAreAlike steps answers new
  looks_alike i j m n view query rows others one other same =
      rows_are rows others (answers_alike i j m n (Look m view query) (Look n view query) (rows_seen view query) (Rows
      rows) (Rows others) (asks_look m view query) (asks_look n view query) one.0 one.1 other.0 other.1 same)

  gets_alike : GetsAreAlike steps answers new
  gets_alike i j m n view selection accepts sendings others one other same =
      sent_are sendings others (answers_alike i j m n (Get m view selection accepts) (Get n view selection accepts)
      (sent_seen view selection accepts) (Sent sendings) (Sent others) (asks_get m view selection accepts) (asks_get n
      view selection accepts) one.0 one.1 other.0 other.1 same)

  pub headline : Headline steps answers new
  headline = record { sites_alike = sites_alike; looks_alike = looks_alike; gets_alike = gets_alike }
