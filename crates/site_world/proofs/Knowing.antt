-- A site holds only what it knows: an old one no correction of a series.
use Rattle.std.proofs.Common.{◌≡◌, ℕ, List, [], ◌∷◌, ◌++◌, Option, Some, None, Ok, Err, Result, Bool, true, false}
use Rattle.std.proofs.Common.{cond, refl, sym, ap, subst, ◌∙◌, inl, inr, ◌==◌, length}
use Rattle.std.specs.Prelude.{MatchBool, replicate, not, ◌||◌}
use Rattle.std.specs.Option.{option_map}
use Rattle.std.specs.FinMap.{empty, get-empty}
use Rattle.std.proofs.lemmas.Bool.{eqb-true}
use Rattle.std.proofs.lemmas.List.{nil_from_length}
use Rattle.std.proofs.lemmas.Option.{same_Some as same_some}
use Rattle.octets.specs.Members.{Has}
use Rattle.operation.specs.declared.op.Op.{Op}
use Rattle.operation.specs.declared.op.Op.TheVariants.{Correction as a_correction}
use Rattle.operation.specs.declared.stamp.Stamp.{Stamp}
use Rattle.operation.specs.declared.taken.Taken.{Taken}
use Rattle.operation.specs.Corrections.{is_correction}
use Rattle.site_state.specs.Site.{Map, digest_cmp, held_at, ops_of, top_counter_of}
use Rattle.site_state.specs.Laws.{holding}
use Rattle.site_state.proofs.Same.{told as told_held, of_ops}
use Rattle.exchange.specs.declared.version.Version.{Version}
use Rattle.exchange.specs.declared.version.Version.TheVariants.{One, Two}
use Rattle.exchange.specs.Held.{is_spoken}
use Rattle.site_world.specs.declared.fault.WorldFault.{WorldFault}
use Rattle.site_world.specs.declared.fault.WorldFault.TheVariants.{NoSite, OldSite, BadCorrection, StampsSpent}
use Rattle.site_world.specs.declared.step.Step.{Step}
use Rattle.site_world.specs.declared.step.Step.TheVariants.{Take, Correct, Offer, Buckets, Deliver, Old, Look, Get}
use Rattle.site_world.specs.declared.step.Seen.{Seen}
use Rattle.site_world.specs.declared.step.Seen.TheVariants.{Offered, Aged}
use Rattle.site_world.specs.declared.message.Message.{Message}
use Rattle.site_world.specs.declared.message.Says.{Says}
use Rattle.site_world.specs.declared.message.Says.TheVariants.{Have, Want, Give, Buckets as says_buckets, Differ}
use Rattle.site_world.specs.Messages.{WorldState, new_world, message_at, site_for, version_at, version_between}
use Rattle.site_world.specs.Messages.{reaction, has_begun, has_met}
use Rattle.site_world.specs.Steps.{Told, only, is_refused_memory, site_at, site_of, told, told_at, on_site, absent}
use Rattle.site_world.specs.Steps.{seen_by, after, aged_also, taken_in, taken_by, made_at}
use Rattle.site_world.specs.Steps.{told_of_message, told_of_reaction, told_of_sending, told_of_taking}
use Rattle.site_world.specs.Steps.{told_of_stamping, LAST_COUNTER}
use Rattle.site_world.specs.Runs.{Run}
use Rattle.site_world.proofs.Taken.{these, one_brought}
use Rattle.site_world.proofs.Alike.{new_holds}
use Rattle.site_world.proofs.Rounds.{old_or_not}

-- what each site holds it knows
abbrev pub Knows : WorldState → Type 0
Knows w =
    (n : ℕ) (m : Map) → site_at w.sites n ≡ Some m → (d : List ℕ) (op : Op) → held_at m d ≡ Some op
    → is_spoken (version_at w.aged n) op ≡ true

-- ---- what a step is told

-- a site holds nothing
abbrev IsBare : WorldState → ℕ → Type 0
IsBare w k = (x : Map) → site_at w.sites k ≡ Some x → ops_of x ≡ []

-- The site of this number knows what was brought; and that site alone was made old, if any was, holding nothing.
pub record Fair (w : WorldState) (k : ℕ) (t : Told) : Type 0 where
  pub brings : (op : Op) → Has (these t.brings) op → is_spoken (version_at w.aged k) op ≡ true
  pub ages : (j : ℕ) → t.ages ≡ Some j → (j ≡ k) × IsBare w k × (t.brings ≡ None)

fair_nothing : (w : WorldState) (k : ℕ) (t : Told) → t.brings ≡ None → t.ages ≡ None → Fair w k t
fair_nothing w k t none young = record {
  brings = λ op has. absurd (subst (λ (r : Option Op). Has (these r) op) none has);
  ages = λ j is. absurd (let e = sym young ∙ is in cc);
}

spoken_in : (version : Version) (m : Map) (op : Op) (taken : Taken) (b : Bool)
    → cond b (taken_by m op) (Err OldSite) ≡ Ok taken → b ≡ true
spoken_in version m op taken true is = refl
spoken_in version m op taken false is = absurd cc

fair_bringing : (w : WorldState) (k : ℕ) (m : Map) (op : Op) (taken : Taken) (seen : Seen)
    → taken_in (version_at w.aged k) m op ≡ Ok taken
    → Fair w k (record { seen = Ok seen; brings = Some op; sends = []; ages = None })
fair_bringing w k m op taken seen is = record {
  brings = λ o has. elim has [
    | inl e ↦ ap (is_spoken (version_at w.aged k)) e
        ∙ spoken_in (version_at w.aged k) m op taken (is_spoken (version_at w.aged k) op) is
    | inr h ↦ absurd h
  ];
  ages = λ j e. absurd cc;
}

fair_taking : (w : WorldState) (k : ℕ) (m : Map) (op : Op) (r : Result Taken WorldFault)
    → taken_in (version_at w.aged k) m op ≡ r → Fair w k (told_of_taking op r)
fair_taking w k m op (Ok taken) is = fair_bringing w k m op taken _ is
fair_taking w k m op (Err fault) is = fair_nothing w k _ refl refl

fair_stamping : (w : WorldState) (k : ℕ) (m : Map) (stamp : Stamp) (op : Op) (r : Result Taken WorldFault)
    → taken_in (version_at w.aged k) m op ≡ r → Fair w k (told_of_stamping stamp op r)
fair_stamping w k m stamp op (Ok taken) is = fair_bringing w k m op taken _ is
fair_stamping w k m stamp op (Err fault) is = fair_nothing w k _ refl refl

fair_correcting : (w : WorldState) (k : ℕ) (m : Map) (stamp : Stamp) (op : Op) (is_bad is_spent : Bool)
    → Fair w k (cond is_bad (only (Err BadCorrection)) (cond is_spent (only (Err StampsSpent)) (told_of_stamping stamp
    op (taken_in (version_at w.aged k) m op))))
fair_correcting w k m stamp op true is_spent = fair_nothing w k _ refl refl
fair_correcting w k m stamp op false true = fair_nothing w k _ refl refl
fair_correcting w k m stamp op false false = fair_stamping w k m stamp op _ refl

fair_saying : (w : WorldState) (m : Map) (from to : ℕ) (says : Says)
    → Fair w to (told_of_reaction w m from to (reaction (version_between w.aged from to) m says))
fair_saying w m from to (Have have) = fair_nothing w to _ refl refl
fair_saying w m from to (Want want) = fair_nothing w to _ refl refl
fair_saying w m from to (Give op) = fair_taking w to m op (taken_in (version_at w.aged to) m op) refl
fair_saying w m from to (says_buckets buckets) = fair_nothing w to _ refl refl
fair_saying w m from to (Differ places) = fair_nothing w to _ refl refl

fair_message : (w : WorldState) (m : Map) (r : Option Message) → Fair w (site_for r) (told_of_message w m r)
fair_message w m None = fair_nothing w 0 _ refl refl
fair_message w m (Some one) = fair_saying w m one.from one.to one.says

fair_opening : (w : WorldState) (k : ℕ) (one : Message) (r : Option Map)
    → Fair w k (on_site NoSite r (λ _. told_of_sending Offered w.sent one))
fair_opening w k one None = fair_nothing w k _ refl refl
fair_opening w k one (Some m) = fair_nothing w k _ refl refl

left_false : (b c : Bool) → (not b || c) ≡ false → b ≡ true
left_false true c e = refl
left_false false c e = absurd cc

bare : (sent : List Message) (n : ℕ) (m : Map) → has_begun sent n m ≡ false → ops_of m ≡ []
bare sent n m e =
    nil_from_length (ops_of m) (eqb-true (length (ops_of m)) 0 (left_false (length (ops_of m) == 0) (has_met sent n) e))

fair_aging : (w : WorldState) (n : ℕ) (m : Map) (b : Bool) → has_begun w.sent n m ≡ b → site_at w.sites n ≡ Some m
    → Fair w n (cond b (only (Err OldSite)) (record { seen = Ok Aged; brings = None; sends = []; ages = Some n }))
fair_aging w n m true begun at = fair_nothing w n _ refl refl
fair_aging w n m false begun at = record {
  brings = λ op has. absurd has;
  ages = λ j is. (
    same_some j n (sym is),
    λ x there. ap ops_of (same_some x m (sym there ∙ at)) ∙ bare w.sent n m begun,
    refl,
  );
}

fair_at : (w : WorldState) (m : Map) (step : Step) → site_at w.sites (site_of w.sent step) ≡ Some m
    → Fair w (site_of w.sent step) (told_at w m step)
fair_at w m (Take n op) at = fair_taking w n m op (taken_in (version_at w.aged n) m op) refl
fair_at w m (Correct n target tag value) at =
    let made = made_at n m target tag value in
    fair_correcting w n m made.stamp (a_correction made) (not (is_correction made)) (top_counter_of (ops_of m)
    == LAST_COUNTER)
fair_at w m (Offer from to) at = fair_opening w from _ (site_at w.sites to)
fair_at w m (Buckets from to) at = fair_opening w from _ (site_at w.sites to)
fair_at w m (Deliver number) at = fair_message w m (message_at w.sent number)
fair_at w m (Old n) at = fair_aging w n m (has_begun w.sent n m) refl at
fair_at w m (Look n view query) at = fair_nothing w n _ refl refl
fair_at w m (Get n view selection accepts) at = fair_nothing w n _ refl refl

told_fair : (w : WorldState) (step : Step) → Fair w (site_of w.sent step) (told w step)
told_fair w step = by (site_at w.sites (site_of w.sent step)) refl
  where
    by : (r : Option Map) → site_at w.sites (site_of w.sent step) ≡ r
        → Fair w (site_of w.sent step) (on_site (absent step) r (λ m. told_at w m step))
    by None at = fair_nothing w (site_of w.sent step) _ refl refl
    by (Some m) at = fair_at w m step at

-- ---- a step

module _ (w : WorldState) (step : Step) (knows : Knows w) where
  abbrev k : ℕ
  k = site_of w.sent step

  abbrev t : Told
  t = told w step

  -- what a site that was there holds then it knows, by what was known before
  known_then : (n : ℕ) (m : Map) → site_at w.sites n ≡ Some m → (c : Bool) → (k == n) ≡ c → (d : List ℕ) (op : Op)
      → held_at (holding m (cond c (these t.brings) [])) d ≡ Some op → is_spoken (version_at w.aged n) op ≡ true
  known_then n m at false is d op there = knows n m at d op there
  known_then n m at true is d op there = elim (told_held m (these t.brings) d) [
    | inl found ↦ ap (is_spoken (version_at w.aged n)) (same_some op found.0 (sym there ∙ found.3))
        ∙ ap (λ j. is_spoken (version_at w.aged j) found.0) (sym (eqb-true k n is))
        ∙ (told_fair w step).brings found.0 found.1
    | inr none ↦ knows n m at d op (sym none.1 ∙ there)
  ]

  -- A site that is made old holds nothing.
  aged_then : (n : ℕ) (m : Map) → site_at w.sites n ≡ Some m → (j : ℕ) → t.ages ≡ Some j → (c : Bool) → (k == n) ≡ c
      → (d : List ℕ) (op : Op) → held_at (holding m (cond c (these t.brings) [])) d ≡ Some op
      → is_spoken (version_at (w.aged ++ (j ∷ [])) n) op ≡ true
  aged_then n m at j ages true is d op there =
      let fair = (told_fair w step).ages j ages in
      let here = ap (site_at w.sites) (eqb-true k n is) ∙ at in
      absurd (subst (λ (ops : List Op). Has ops op) (fair.1 m here) (of_ops m d op (subst (λ (r : Option Op). held_at
      (holding m (these r)) d ≡ Some op) fair.2 there)))
  aged_then n m at j ages false is d op there =
      let fair = (told_fair w step).ages j ages in
      ap (λ b. is_spoken (cond b One Two) op) (old_or_not w.aged j n (ap (λ x. x == n) fair.0 ∙ is))
      ∙ knows n m at d op there

  by_age : (n : ℕ) (m : Map) → site_at w.sites n ≡ Some m → (r : Option ℕ) → t.ages ≡ r → (d : List ℕ) (op : Op)
      → held_at (holding m (cond (k == n) (these t.brings) [])) d ≡ Some op
      → is_spoken (version_at (aged_also w.aged r) n) op ≡ true
  by_age n m at None ages d op there = known_then n m at (k == n) refl d op there
  by_age n m at (Some j) ages d op there = aged_then n m at j ages (k == n) refl d op there

  after_knows : Knows (after w step)
  after_knows n m at d op there = by (site_at w.sites n) refl
    where
      now : site_at (after w step).sites n ≡ option_map (λ x. holding x (cond (k == n) (these t.brings) [])) (site_at
          w.sites n)
      now = one_brought w.sites k n t.brings

      by : (r : Option Map) → site_at w.sites n ≡ r → is_spoken (version_at (after w step).aged n) op ≡ true
      by None was = absurd (let e = sym at ∙ now
          ∙ ap (option_map (λ x. holding x (cond (k == n) (these t.brings) []))) was in cc)
      by (Some x) was =
          let e = sym at ∙ now ∙ ap (option_map (λ x. holding x (cond (k == n) (these t.brings) []))) was in
          by_age n x was t.ages refl d op (ap (λ y. held_at y d) (sym (same_some m _ e)) ∙ there)

knows_by : (c : Bool) (w v : WorldState) (step : Step) (answer : Result Seen WorldFault) → Knows w
    → MatchBool c (v ≡ w) ((answer ≡ seen_by w step) × (v ≡ after w step)) → Knows v
knows_by true w v step answer knows same = subst Knows (sym same) knows
knows_by false w v step answer knows did = subst Knows (sym did.1) (after_knows w step knows)

-- ---- runs

keeps_knowing : (w v : WorldState) (steps : List Step) (answers : List (Result Seen WorldFault)) → Knows w
    → Run w steps answers v → Knows v
keeps_knowing w v [] [] knows same = subst Knows (sym same) knows
keeps_knowing w v [] (a ∷ answers) knows run = absurd run
keeps_knowing w v (s ∷ steps) [] knows run = absurd run
keeps_knowing w v (s ∷ steps) (a ∷ answers) knows (mid, first, rest) =
    keeps_knowing mid v steps answers (knows_by (is_refused_memory a) w mid s a knows first) rest

pub run_knows : (count : ℕ) (new : WorldState) (steps : List Step) (answers : List (Result Seen WorldFault))
    → Run (new_world (replicate count empty)) steps answers new → Knows new
run_knows count new steps answers run =
    keeps_knowing (new_world (replicate count empty)) new steps answers (λ n m at d op there. absurd (let e = sym
    (get-empty digest_cmp d) ∙ sym (ap (λ x. held_at x d) (new_holds count n m at)) ∙ there in cc)) run
