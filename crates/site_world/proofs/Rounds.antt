-- What a round comes to whose steps lie in a run.
use Rattle.std.proofs.Common.{◌≡◌, ℕ, suc, ◌+◌, List, [], ◌∷◌, ◌++◌, Option, Some, None, Ok, Err, Result, Bool}
use Rattle.std.proofs.Common.{true, false, cond, refl, sym, ap, subst, ◌∙◌, inl, inr, ◌==◌, length, take, drop}
use Rattle.std.specs.Prelude.{MatchBool, not, ◌||◌, ⊤}
use Rattle.std.specs.List.{slice_get, list_any, range_with_len}
use Rattle.std.specs.Option.{option_map}
use Rattle.std.proofs.lemmas.Bool.{eqb-true, eq-eqb, false≢true}
use Rattle.std.proofs.lemmas.List.{append-nil, length-append}
use Rattle.std.proofs.Common.{append_assoc, arith}
use Rattle.std.proofs.lemmas.Option.{same_Some as same_some}
use Rattle.octets.specs.Members.{Has}
use Rattle.operation.specs.declared.op.Op.{Op}
use Rattle.operation.specs.declared.taken.Taken.{Taken}
use Rattle.operation.specs.Spelling.{digest_of}
use Rattle.site_state.specs.Site.{Map, held_at, with_op, ops_of}
use Rattle.site_state.specs.Laws.{holding}
use Rattle.exchange.specs.declared.version.Version.{Version}
use Rattle.exchange.specs.declared.version.Version.TheVariants.{One, Two}
use Rattle.exchange.specs.Held.{offered, lacked, given, HasGrown}
use Rattle.exchange.specs.Laws.{IsAnswered, BucketsTell}
use Rattle.exchange.proofs.Rounds.{round_gives_all}
use Rattle.exchange.proofs.Bucketed.{round_by_buckets_gives_all}
use Rattle.exchange.specs.Held.{offered_in}
use Rattle.exchange.specs.Buckets.{bucket_list, unequal}
use Rattle.site_world.specs.declared.fault.WorldFault.{WorldFault}
use Rattle.site_world.specs.declared.fault.WorldFault.TheVariants.{NoSite, NoMessage, OldSite}
use Rattle.site_world.specs.declared.step.Step.{Step}
use Rattle.site_world.specs.declared.step.Step.TheVariants.{Take, Correct, Offer, Buckets, Deliver, Old, Look, Get}
use Rattle.site_world.specs.declared.step.Seen.{Seen}
use Rattle.site_world.specs.declared.step.Seen.TheVariants.{Took, Offered, Wanted, Gave, Differs, Has as has_told, Aged}
use Rattle.site_world.specs.declared.message.Message.{Message}
use Rattle.site_world.specs.declared.message.Says.{Says}
use Rattle.site_world.specs.declared.message.Says.TheVariants.{Have, Want, Give, Buckets as says_buckets, Differ}
use Rattle.site_world.specs.Messages.{WorldState, message_at, site_for, version_at}
use Rattle.site_world.specs.Messages.{version_between, is_old, is_of, has_met}
use Rattle.site_world.specs.Messages.{has_begun, reaction, message, gives, numbers_behind}
use Rattle.site_world.specs.Steps.{Told, only, is_refused_memory, site_at, site_of}
use Rattle.site_world.specs.Steps.{told, told_at, on_site, absent, seen_by}
use Rattle.site_world.specs.Steps.{brought, sent_also, aged_also, after, Happens, told_of_taking, taken_in}
use Rattle.site_world.specs.Steps.{told_of_message, told_of_reaction, told_of_sending, made_at}
use Rattle.site_world.specs.Runs.{Run, taken_at}
use Rattle.site_world.specs.Rounds.{Somewhere, AreTaken, IsFinished, RoundsGiveAll, RoundsByBucketsGiveAll}
use Rattle.site_world.proofs.Taken.{these, one_brought, Front, front_itself, front_front, also_front, message_stays}
use Rattle.site_world.proofs.Taken.{run_took}
use Rattle.site_world.proofs.Alike.{before}
use Rattle.site_world.proofs.Fitting.{Fits, free_grows, held_now, told_fits}
use Rattle.site_world.proofs.Worlds.{plain_taking, plain_correcting}

-- ---- a world and a later one

-- Messages stay, sites hold what they held, and a site that a message was sent from or to stays old or not old.
pub record Later (w v : WorldState) : Type 0 where
  pub sent : Front w.sent v.sent
  pub grown : (n : ℕ) (m : Map) → site_at w.sites n ≡ Some m → (k : Map) × (site_at v.sites n ≡ Some k) × HasGrown m k
  pub stays : (n : ℕ) → has_met w.sent n ≡ true → is_old v.aged n ≡ is_old w.aged n

either : (b c d : Bool) → (b || c) ≡ true → (c ≡ true → d ≡ true) → (b || d) ≡ true
either true c d e on = refl
either false c d e on = on e

any_front : {X : Type 0} (p : X → Bool) (front more : List X) → list_any p front ≡ true
    → list_any p (front ++ more) ≡ true
any_front p [] more e = absurd cc
any_front p (x ∷ front) more e = either (p x) _ _ e (any_front p front more)

met_stays : (w v : WorldState) (n : ℕ) → Front w.sent v.sent → has_met w.sent n ≡ true → has_met v.sent n ≡ true
met_stays w v n (more, is) met = ap (λ (t : List Message). has_met t n) is ∙ any_front (is_of n) w.sent more met

pub later_itself : (w : WorldState) → Later w w
later_itself w = record {
  sent = front_itself w.sent;
  grown = λ n m at. (m, at, λ d op there. there);
  stays = λ n met. refl;
}

pub later_later : (w v u : WorldState) → Later w v → Later v u → Later w u
later_later w v u one two = record {
  sent = front_front w.sent v.sent u.sent one.sent two.sent;
  grown = λ n m at.
      let mid = one.grown n m at in
      let end = two.grown n mid.0 mid.1 in
      (end.0, end.1, λ d op there. end.2 d op (mid.2 d op there));
  stays = λ n met. two.stays n (met_stays w v n one.sent met) ∙ one.stays n met;
}

-- ---- a step

fits_grow : (m : Map) (ops : List Op) → Fits m ops → HasGrown m (holding m ops)
fits_grow m [] fits d op there = there
fits_grow m (o ∷ ops) (free, fits) d op there =
    fits_grow (with_op m o) ops fits d op (free_grows m o d op free there)

here_fits : (w : WorldState) (step : Step) (n : ℕ) (m : Map) (b : Bool) → (site_of w.sent step == n) ≡ b
    → site_at w.sites n ≡ Some m → Fits m (cond b (these (told w step).brings) [])
here_fits w step n m true is at =
    subst (λ r. Fits m (these (on_site (absent step) r (λ x. told_at w x step)).brings))
    (sym (ap (site_at w.sites) (eqb-true (site_of w.sent step) n is) ∙ at)) (told_fits w m step)
here_fits w step n m false is at = tt

after_grown : (w : WorldState) (step : Step) (n : ℕ) (m : Map) → site_at w.sites n ≡ Some m
    → (k : Map) × (site_at (after w step).sites n ≡ Some k) × HasGrown m k
after_grown w step n m at =
    let b = site_of w.sent step == n in
    let ops = cond b (these (told w step).brings) [] in (
      holding m ops,
      one_brought w.sites (site_of w.sent step) n (told w step).brings ∙ ap (option_map (λ x. holding x ops)) at,
      fits_grow m ops (here_fits w step n m b refl at),
    )

pub old_or_not : (old : List ℕ) (k n : ℕ) → (k == n) ≡ false → is_old (old ++ (k ∷ [])) n ≡ is_old old n
old_or_not [] k n e = ap (λ b. b || false) e
old_or_not (x ∷ old) k n e = ap (λ b. (x == n) || b) (old_or_not old k n e)

-- a site that is made old has no message
abbrev AgesFresh : WorldState → Option ℕ → Type 0
AgesFresh w None = ⊤
AgesFresh w (Some k) = has_met w.sent k ≡ false

none_fresh : (w : WorldState) (r : Option ℕ) → r ≡ None → AgesFresh w r
none_fresh w r e = subst (AgesFresh w) (sym e) tt

right_false : (a b : Bool) → (a || b) ≡ false → b ≡ false
right_false true b e = absurd cc
right_false false b e = e

aging_fresh : (w : WorldState) (k : ℕ) (m : Map) (b : Bool) → has_begun w.sent k m ≡ b
    → AgesFresh w (cond b (only (Err OldSite)) (record {
      seen = Ok Aged;
      brings = None;
      sends = [];
      ages = Some k;
    })).ages
aging_fresh w k m true e = tt
aging_fresh w k m false e = right_false (not (length (ops_of m) == 0)) (has_met w.sent k) e

saying_fresh : (w : WorldState) (m : Map) (from to : ℕ) (says : Says)
    → AgesFresh w (told_of_reaction w m from to (reaction (version_between w.aged from to) m says)).ages
saying_fresh w m from to (Have have) = tt
saying_fresh w m from to (Want want) = tt
saying_fresh w m from to (Give op) = none_fresh w _ (plain_taking op (taken_in (version_at w.aged to) m op)).1
saying_fresh w m from to (says_buckets buckets) = tt
saying_fresh w m from to (Differ places) = tt

message_fresh : (w : WorldState) (m : Map) (r : Option Message) → AgesFresh w (told_of_message w m r).ages
message_fresh w m None = tt
message_fresh w m (Some one) = saying_fresh w m one.from one.to one.says

opening_fresh : (w : WorldState) (one : Message) (r : Option Map)
    → AgesFresh w (on_site NoSite r (λ _. told_of_sending Offered w.sent one)).ages
opening_fresh w one None = tt
opening_fresh w one (Some m) = tt

at_fresh : (w : WorldState) (m : Map) (step : Step) → AgesFresh w (told_at w m step).ages
at_fresh w m (Take n op) = none_fresh w _ (plain_taking op (taken_in (version_at w.aged n) m op)).1
at_fresh w m (Correct n target tag value) =
    none_fresh w _ (plain_correcting (version_at w.aged n) m (made_at n m target tag value)).1
at_fresh w m (Offer from to) = opening_fresh w _ (site_at w.sites to)
at_fresh w m (Buckets from to) = opening_fresh w _ (site_at w.sites to)
at_fresh w m (Deliver number) = message_fresh w m (message_at w.sent number)
at_fresh w m (Old k) = aging_fresh w k m (has_begun w.sent k m) refl
at_fresh w m (Look n view query) = tt
at_fresh w m (Get n view selection accepts) = tt

there_fresh : (w : WorldState) (step : Step) (r : Option Map)
    → AgesFresh w (on_site (absent step) r (λ m. told_at w m step)).ages
there_fresh w step None = tt
there_fresh w step (Some m) = at_fresh w m step

apart_by : (w : WorldState) (k n : ℕ) (b : Bool) → (k == n) ≡ b → has_met w.sent k ≡ false → has_met w.sent n ≡ true
    → (k == n) ≡ false
apart_by w k n true is fresh met =
    absurd (false≢true (sym fresh ∙ ap (has_met w.sent) (eqb-true k n is) ∙ met))
apart_by w k n false is fresh met = is

stays_by : (w : WorldState) (n : ℕ) (r : Option ℕ) → AgesFresh w r → has_met w.sent n ≡ true
    → is_old (aged_also w.aged r) n ≡ is_old w.aged n
stays_by w n None fresh met = refl
stays_by w n (Some k) fresh met = old_or_not w.aged k n (apart_by w k n (k == n) refl fresh met)

after_later : (w : WorldState) (step : Step) → Later w (after w step)
after_later w step = record {
  sent = also_front w.sent (told w step).sends;
  grown = after_grown w step;
  stays = λ n met. stays_by w n (told w step).ages (there_fresh w step (site_at w.sites (site_of w.sent step))) met;
}

later_by : (b : Bool) (w v : WorldState) (step : Step) (answer : Result Seen WorldFault)
    → MatchBool b (v ≡ w) ((answer ≡ seen_by w step) × (v ≡ after w step)) → Later w v
later_by true w v step answer same = subst (Later w) (sym same) (later_itself w)
later_by false w v step answer did = subst (Later w) (sym did.1) (after_later w step)

pub step_later : (w v : WorldState) (step : Step) (answer : Result Seen WorldFault) → Happens w step answer v →
    Later w v
step_later w v step answer happens = later_by (is_refused_memory answer) w v step answer happens

pub run_later : (w v : WorldState) (steps : List Step) (answers : List (Result Seen WorldFault)) → Run w steps answers v
    → Later w v
run_later w v [] [] same = subst (Later w) (sym same) (later_itself w)
run_later w v [] (a ∷ answers) run = absurd run
run_later w v (s ∷ steps) [] run = absurd run
run_later w v (s ∷ steps) (a ∷ answers) (mid, first, rest) =
    later_later w mid v (step_later w mid s a first) (run_later mid v steps answers rest)

-- ---- a step that stands in a run

-- the world before it and behind it, and the run from there
pub record Found (w new : WorldState) (step : Step) (seen : Seen)
    (Behind : List Step → List (Result Seen WorldFault) → Type 0) : Type 0 where
  pub mid : WorldState
  pub next : WorldState
  pub since : Later w mid
  pub happens : Happens mid step (Ok seen) next
  pub steps : List Step
  pub answers : List (Result Seen WorldFault)
  pub run : Run next steps answers new
  pub behind : Behind steps answers

found : (w new : WorldState) (steps : List Step) (answers : List (Result Seen WorldFault)) (step : Step) (seen : Seen)
    (Behind : List Step → List (Result Seen WorldFault) → Type 0) → Run w steps answers new
    → Somewhere steps answers step seen Behind → Found w new step seen Behind
found w new [] answers step seen Behind run there = absurd there
found w new (s ∷ steps) [] step seen Behind run there = absurd there
found w new (s ∷ steps) (a ∷ answers) step seen Behind (mid, first, rest) (inl (is, answered, behind)) = record {
  mid = w;
  next = mid;
  since = later_itself w;
  happens = subst (λ x. Happens w x (Ok seen) mid) is (subst (λ x. Happens w s x mid) answered first);
  steps = steps;
  answers = answers;
  run = rest;
  behind = behind;
}
found w new (s ∷ steps) (a ∷ answers) step seen Behind (mid, first, rest) (inr there) =
    let later = found mid new steps answers step seen Behind rest there in
    record {
      mid = later.mid;
      next = later.next;
      since = later_later w mid later.mid (step_later w mid s a first) later.since;
      happens = later.happens;
      steps = later.steps;
      answers = later.answers;
      run = later.run;
      behind = later.behind;
    }

-- ---- messages by their numbers

place_of : (front : List Message) (one : Message) (more : List Message)
    → slice_get (front ++ (one ∷ more)) (length front) ≡ Some one
place_of [] one more = refl
place_of (x ∷ front) one more = place_of front one more

at_next : (t : List Message) (k i : ℕ) → k ≡ suc i → message_at t k ≡ slice_get t i
at_next t k i e = ap (message_at t) e

next_is : (n : ℕ) → n + 1 ≡ suc n
next_is n = omega arith

-- a message that was just sent stands under the next number
sent_last : (front : List Message) (one : Message) (more : List Message) (k : ℕ) → k ≡ length front + 1
    → message_at (front ++ (one ∷ more)) k ≡ Some one
sent_last front one more k is =
    at_next (front ++ (one ∷ more)) k (length front) (is ∙ next_is (length front)) ∙ place_of front one more

-- a gift stands under one of the numbers that were told
pub record GiftAt (front : List Message) (a b : ℕ) (ops : List Op) (op : Op) : Type 0 where
  pub number : ℕ
  pub told : Has (numbers_behind front (length ops)) number
  pub sent : message_at (front ++ gives a b ops) number ≡ Some (message a b (Give op))

gift_at : (front : List Message) (a b : ℕ) (ops : List Op) (op : Op) → Has ops op → GiftAt front a b ops op
gift_at front a b [] op has = absurd has
gift_at front a b (o ∷ ops) op (inl e) = record {
  number = length front + 1;
  told = inl refl;
  sent = sent_last front (message a b (Give o)) (gives a b ops) (length front + 1) refl
      ∙ ap (λ (x : Op). Some (message a b (Give x))) (sym e);
}
gift_at front a b (o ∷ ops) op (inr has) =
    let one = message a b (Give o) in
    let later = gift_at (front ++ (one ∷ [])) a b ops op has in
    record {
      number = later.number;
      told = inr (subst (λ (k : ℕ). Has (range_with_len (k + 1) (length ops)) later.number) (length-append front (one ∷
          [])) later.told);
      sent = ap (λ (t : List Message). message_at t later.number) (sym (append_assoc front (one ∷ []) (gives a b ops)))
          ∙ later.sent;
    }

also_is : (front more : List Message) → sent_also front more ≡ front ++ more
also_is front [] = sym (append-nil front)
also_is front (one ∷ more) = refl

-- ---- what each step of a round did

abbrev ok : Seen → Result Seen WorldFault
ok seen = Ok seen

offered_is : (x y : ℕ) → ok (Offered x) ≡ ok (Offered y) → x ≡ y
offered_is x y e = cc

wanted_is : (x y : ℕ) → ok (Wanted x) ≡ ok (Wanted y) → x ≡ y
wanted_is x y e = cc

gave_is : (xs ys : List ℕ) → ok (Gave xs) ≡ ok (Gave ys) → xs ≡ ys
gave_is xs ys e = cc

open_by : (w : WorldState) (one : Message) (have : ℕ) (r : Option Map)
    → Ok (Offered have) ≡ (on_site NoSite r (λ _. told_of_sending Offered w.sent one)).seen
    → (have ≡ length w.sent + 1) × ((on_site NoSite r (λ _. told_of_sending Offered w.sent one)).sends ≡ one ∷ [])
    × ((on_site NoSite r (λ _. told_of_sending Offered w.sent one)).ages ≡ None)
open_by w one have None e = absurd cc
open_by w one have (Some x) e = (offered_is have (length w.sent + 1) e, refl, refl)

-- The offer sent its HAVE.
pub offer_did : (w v : WorldState) (a b have : ℕ) (m : Map) → Happens w (Offer a b) (Ok (Offered have)) v
    → site_at w.sites a ≡ Some m
    → let one = message a b (Have (offered (version_between w.aged a b) m)) in
    (have ≡ length w.sent + 1) × (v.sent ≡ w.sent ++ (one ∷ [])) × (v.aged ≡ w.aged)
offer_did w v a b have m did at =
    let one = message a b (Have (offered (version_between w.aged a b) m)) in
    let told_is : told w (Offer a b) ≡ on_site NoSite (site_at w.sites b) (λ _. told_of_sending Offered w.sent one) =
    ap (λ r. on_site NoSite r (λ x. told_at w x (Offer a b))) at in
    let parts = open_by w one have (site_at w.sites b) (did.0 ∙ ap (λ (t : Told). t.seen) told_is) in (
      parts.0,
      ap (λ (x : WorldState). x.sent) did.1
          ∙ ap (λ (more : List Message). sent_also w.sent more) (ap (λ (t : Told). t.sends) told_is ∙ parts.1),
      ap (λ (x : WorldState). x.aged) did.1
          ∙ ap (λ (k : Option ℕ). aged_also w.aged k) (ap (λ (t : Told). t.ages) told_is ∙ parts.2),
    )

-- what a delivery of this message comes to
delivered : (w : WorldState) (number : ℕ) (one : Message) → message_at w.sent number ≡ Some one
    → told w (Deliver number) ≡ on_site NoMessage (site_at w.sites one.to) (λ x. told_of_message w x (Some one))
delivered w number one at =
    ap (λ r. on_site NoMessage (site_at w.sites (site_for r)) (λ x. told_of_message w x r)) at

-- The delivery of a HAVE sent the WANT of what is lacked.
pub record Asked (w v : WorldState) (a b : ℕ) (have : List (List ℕ)) (want : ℕ) : Type 0 where
  pub at : Map
  pub here : site_at w.sites b ≡ Some at
  pub number : want ≡ length w.sent + 1
  pub sent : v.sent ≡ w.sent ++ (message b a (Want (lacked at have)) ∷ [])

have_did : (w v : WorldState) (a b number want : ℕ) (have : List (List ℕ)) → Happens w (Deliver number) (Ok (Wanted
    want)) v → message_at w.sent number ≡ Some (message a b (Have have)) → Asked w v a b have want
have_did w v a b number want have did at = by (site_at w.sites b) refl
  where
    one : Message
    one = message a b (Have have)

    by : (r : Option Map) → site_at w.sites b ≡ r → Asked w v a b have want
    by None here =
        absurd (let e = did.0 ∙ ap (λ (t : Told). t.seen) (delivered w number one at)
        ∙ ap (λ r. (on_site NoMessage r (λ x. told_of_message w x (Some one))).seen) here in cc)
    by (Some x) here =
        let told_is = delivered w number one at ∙ ap (λ r. on_site NoMessage r (λ x. told_of_message w x (Some one)))
        here in
        record {
          at = x;
          here = here;
          number = wanted_is want (length w.sent + 1) (did.0 ∙ ap (λ (t : Told). t.seen) told_is);
          sent = ap (λ (u : WorldState). u.sent) did.1 ∙ ap (λ (t : Told). sent_also w.sent t.sends) told_is;
        }

-- The delivery of a WANT sent a GIVE for each operation that is held of it.
pub record Answered (w v : WorldState) (a b : ℕ) (want : List (List ℕ)) (gifts : List ℕ) : Type 0 where
  pub at : Map
  pub here : site_at w.sites a ≡ Some at
  pub numbers : gifts ≡ numbers_behind w.sent (length (given (version_between w.aged b a) want at))
  pub sent : v.sent ≡ w.sent ++ gives a b (given (version_between w.aged b a) want at)

want_did : (w v : WorldState) (a b number : ℕ) (gifts : List ℕ) (want : List (List ℕ)) → Happens w (Deliver number) (Ok
    (Gave gifts)) v → message_at w.sent number ≡ Some (message b a (Want want)) → Answered w v a b want gifts
want_did w v a b number gifts want did at = by (site_at w.sites a) refl
  where
    one : Message
    one = message b a (Want want)

    by : (r : Option Map) → site_at w.sites a ≡ r → Answered w v a b want gifts
    by None here =
        absurd (let e = did.0 ∙ ap (λ (t : Told). t.seen) (delivered w number one at)
        ∙ ap (λ r. (on_site NoMessage r (λ x. told_of_message w x (Some one))).seen) here in cc)
    by (Some x) here =
        let told_is = delivered w number one at ∙ ap (λ r. on_site NoMessage r (λ x. told_of_message w x (Some one)))
        here in
        let ops = given (version_between w.aged b a) want x in
        record {
          at = x;
          here = here;
          numbers = gave_is gifts (numbers_behind w.sent (length ops)) (did.0 ∙ ap (λ (t : Told). t.seen) told_is);
          sent = ap (λ (u : WorldState). u.sent) did.1 ∙ ap (λ (t : Told). sent_also w.sent t.sends) told_is
              ∙ also_is w.sent (gives a b ops);
        }

-- The delivery of a GIVE left its operation at its site.
give_did : (w v : WorldState) (a b number : ℕ) (op : Op) (taken : Taken) → Happens w (Deliver number) (Ok (Took
    taken)) v
    → message_at w.sent number ≡ Some (message a b (Give op))
    → (x : Map) × (site_at v.sites b ≡ Some x) × (held_at x (digest_of op) ≡ Some op)
give_did w v a b number op taken did at = by (site_at w.sites b) refl
  where
    one : Message
    one = message a b (Give op)

    took_by : (x : Map) (r : Result Taken WorldFault) → Ok (Took taken) ≡ (told_of_taking op r).seen
        → (told_of_taking op r).brings ≡ Some op
    took_by x (Ok t) e = refl
    took_by x (Err fault) e = absurd cc

    by : (r : Option Map) → site_at w.sites b ≡ r
        → (x : Map) × (site_at v.sites b ≡ Some x) × (held_at x (digest_of op) ≡ Some op)
    by None here =
        absurd (let e = did.0 ∙ ap (λ (t : Told). t.seen) (delivered w number one at)
        ∙ ap (λ r. (on_site NoMessage r (λ x. told_of_message w x (Some one))).seen) here in cc)
    by (Some x) here =
        let told_is = delivered w number one at ∙ ap (λ r. on_site NoMessage r (λ x. told_of_message w x (Some one)))
        here in
        let brings = ap (λ (t : Told). t.brings) told_is ∙ took_by x (taken_in (version_at w.aged b) x op) (did.0
        ∙ ap (λ (t : Told). t.seen) told_is) in
        let site = ap site_for at in (
          with_op x op,
          ap (λ (u : WorldState). site_at u.sites b) did.1
              ∙ ap (λ (k : ℕ). site_at (brought w.sites k (told w (Deliver number)).brings) b) site
              ∙ ap (λ (o : Option Op). site_at (brought w.sites b o) b) brings
              ∙ one_brought w.sites b b (Some op)
              ∙ ap (λ (c : Bool). option_map (λ y. holding y (cond c (op ∷ []) [])) (site_at w.sites b)) (eq-eqb b b
              refl)
              ∙ ap (option_map (λ y. with_op y op)) here,
          held_now x op,
        )

-- ---- rounds

pub versions_turned : (old : List ℕ) (a b : ℕ) → version_between old b a ≡ version_between old a b
versions_turned old a b = by (is_old old a) (is_old old b)
  where
    by : (p q : Bool) → cond q One (cond p One Two) ≡ cond p One (cond q One Two)
    by true true = refl
    by true false = refl
    by false true = refl
    by false false = refl

same_versions : (old new : List ℕ) (a b : ℕ) → is_old new a ≡ is_old old a → is_old new b ≡ is_old old b
    → version_between new a b ≡ version_between old a b
same_versions old new a b one two =
    ap (λ p. cond p One (cond (is_old new b) One Two)) one ∙ ap (λ q. cond (is_old old a) One (cond q One Two)) two

pub any_last : {X : Type 0} (p : X → Bool) (front : List X) (x : X) → p x ≡ true → list_any p (front ++ (x ∷ [])) ≡ true
any_last p [] x e = ap (λ b. b || false) e
any_last p (y ∷ front) x e = by (p y) (any_last p front x e)
  where
    by : (b : Bool) → list_any p (front ++ (x ∷ [])) ≡ true → (b || list_any p (front ++ (x ∷ []))) ≡ true
    by true e = refl
    by false e = e

pub is_from : (a b : ℕ) (says : Says) → is_of a (message a b says) ≡ true
is_from a b says = ap (λ c. c || (b == a)) (eq-eqb a a refl)

pub is_to : (a b : ℕ) (says : Says) → is_of b (message a b says) ≡ true
is_to a b says = by (a == b) (eq-eqb b b refl)
  where
    by : (c : Bool) → (b == b) ≡ true → (c || (b == b)) ≡ true
    by true e = refl
    by false e = e

-- What was given is held in the end.
gifts_taken : (mid next new : WorldState) (a b : ℕ) (wish : List (List ℕ)) (gifts : List ℕ) (rest : List Step)
    (others : List (Result Seen WorldFault)) (n : Map) (op : Op) (gave : Answered mid next a b wish gifts)
    → Has (given (version_between mid.aged b a) wish gave.at) op → AreTaken gifts rest others → Run next rest others new
    → site_at new.sites b ≡ Some n → held_at n (digest_of op) ≡ Some op
gifts_taken mid next new a b wish gifts rest others n op gave has taken run there =
    let gift = gift_at mid.sent a b (given (version_between mid.aged b a) wish gave.at) op has in
    let told = subst (λ (xs : List ℕ). Has xs gift.number) (sym gave.numbers) gift.told in
    let sent = ap (λ (t : List Message). message_at t gift.number) gave.sent ∙ gift.sent in
    let took = taken gift.number told in
    let here = found next new rest others (Deliver gift.number) (Took took.0) (λ _ _. ⊤) run took.1 in
    let did = give_did here.mid here.next a b gift.number op took.0 here.happens (message_stays next.sent here.mid.sent
    gift.number (message a b (Give op)) here.since.sent sent) in
    let grew = (run_later here.next new here.steps here.answers here.run).grown b did.0 did.1 in
    ap (λ (x : Map). held_at x (digest_of op)) (sym (same_some grew.0 n (sym grew.1 ∙ there)))
    ∙ grew.2 (digest_of op) op did.2

-- what a site held is in what it holds later
pub grew : (w v : WorldState) (k : ℕ) (m n : Map) → Later w v → site_at w.sites k ≡ Some m → site_at v.sites k ≡ Some n
    → HasGrown m n
grew w v k m n later at there =
    let more = later.grown k m at in
    subst (HasGrown m) (same_some more.0 n (sym more.1 ∙ there)) more.2

-- two sites that told each other something speak what they spoke
pub speak : (w v : WorldState) (a b : ℕ) → Later w v → has_met w.sent a ≡ true → has_met w.sent b ≡ true
    → version_between v.aged a b ≡ version_between w.aged a b
speak w v a b later met_a met_b = same_versions w.aged v.aged a b (later.stays a met_a) (later.stays b met_b)

-- A finished round from its HAVE on: what the second site held when it asked, and the first when it gave.
pub record Exchanged (w : WorldState) (a b : ℕ) (version : Version) (digests : List (List ℕ)) (n : Map) : Type 0 where
  pub asking : Map
  pub giving : Map
  pub asked : (m : Map) → site_at w.sites b ≡ Some m → HasGrown m asking
  pub gave : (m : Map) → site_at w.sites a ≡ Some m → HasGrown m giving
  pub answered : IsAnswered version digests asking giving n

from_have : (w new : WorldState) (a b have : ℕ) (steps : List Step) (answers : List (Result Seen WorldFault))
    (digests : List (List ℕ)) (n : Map) → Run w steps answers new → IsFinished have steps answers
    → message_at w.sent have ≡ Some (message a b (Have digests)) → has_met w.sent a ≡ true → has_met w.sent b ≡ true
    → site_at new.sites b ≡ Some n → Exchanged w a b (version_between w.aged a b) digests n
from_have w new a b have steps answers digests n run (want, gifts, finished) have_at met_a met_b there =
    let deliver = found w new steps answers (Deliver have) (Wanted want) (λ rest others. Somewhere rest others (Deliver
    want) (Gave gifts) (AreTaken gifts)) run finished in
    let asked = have_did deliver.mid deliver.next a b have want digests deliver.happens (message_stays w.sent
    deliver.mid.sent have (message a b (Have digests)) deliver.since.sent have_at) in
    let wish = lacked asked.at digests in
    let want_at = ap (λ (t : List Message). message_at t want) asked.sent ∙ sent_last deliver.mid.sent (message b a
    (Want
    wish)) [] want asked.number in
    let answer = found deliver.next new deliver.steps deliver.answers (Deliver want) (Gave gifts) (AreTaken gifts)
    deliver.run deliver.behind in
    let gave = want_did answer.mid answer.next a b want gifts wish answer.happens (message_stays deliver.next.sent
    answer.mid.sent want (message b a (Want wish)) answer.since.sent want_at) in
    let asking_on = step_later deliver.mid deliver.next (Deliver have) (Ok (Wanted want)) deliver.happens in
    let to_giving = later_later w deliver.mid answer.mid deliver.since (later_later deliver.mid deliver.next answer.mid
    asking_on answer.since) in
    let spoken : version_between answer.mid.aged b a ≡ version_between w.aged a b = versions_turned answer.mid.aged a b
    ∙ speak w answer.mid a b to_giving met_a met_b in
    let whole = later_later deliver.mid deliver.next new asking_on (run_later deliver.next new deliver.steps
    deliver.answers deliver.run) in
    record {
      asking = asked.at;
      giving = gave.at;
      asked = λ m at. grew w deliver.mid b m asked.at deliver.since at asked.here;
      gave = λ m at. grew w answer.mid a m gave.at to_giving at gave.here;
      answered = record {
        grown = grew deliver.mid new b asked.at n whole asked.here there;
        taken = λ op has. gifts_taken answer.mid answer.next new a b wish gifts answer.steps answer.answers n op gave
            (subst (λ (v : Version). Has (given v wish gave.at) op) (sym spoken) has) answer.behind answer.run there;
      };
    }

pub rounds_give_all : RoundsGiveAll
rounds_give_all w new a b have steps answers m n (w1, first, run) finished at there own agree =
    let version = version_between w.aged a b in
    let digests = offered version m in
    let one = message a b (Have digests) in
    let offer = offer_did w w1 a b have m first at in
    let have_at = ap (λ (t : List Message). message_at t have) offer.1 ∙ sent_last w.sent one [] have offer.0 in
    let met_a = ap (λ (t : List Message). has_met t a) offer.1 ∙ any_last (is_of a) w.sent one (is_from a b (Have
    digests)) in
    let met_b = ap (λ (t : List Message). has_met t b) offer.1 ∙ any_last (is_of b) w.sent one (is_to a b (Have
    digests)) in
    let kept : version_between w1.aged a b ≡ version = ap (λ (t : List ℕ). version_between t a b) offer.2 in
    let ex = from_have w1 new a b have steps answers digests n run finished have_at met_a met_b there in
    let mid = (step_later w w1 (Offer a b) (Ok (Offered have)) first).grown a m at in
    round_gives_all version m ex.giving ex.asking n own (λ d op held. ex.gave mid.0 mid.1 d op (mid.2 d op held)) agree
    (subst (λ v. IsAnswered v digests ex.asking ex.giving n) kept ex.answered)

-- ---- rounds by buckets

-- The opening sent its BUCKETS.
pub buckets_did : (w v : WorldState) (a b number : ℕ) (m : Map) → Happens w (Buckets a b) (Ok (Offered number)) v
    → site_at w.sites a ≡ Some m
    → let one = message a b (says_buckets (bucket_list (offered (version_between w.aged a b) m))) in
    (number ≡ length w.sent + 1) × (v.sent ≡ w.sent ++ (one ∷ [])) × (v.aged ≡ w.aged)
buckets_did w v a b number m did at =
    let one = message a b (says_buckets (bucket_list (offered (version_between w.aged a b) m))) in
    let told_is : told w (Buckets a b) ≡ on_site NoSite (site_at w.sites b) (λ _. told_of_sending Offered w.sent one) =
    ap (λ r. on_site NoSite r (λ x. told_at w x (Buckets a b))) at in
    let parts = open_by w one number (site_at w.sites b) (did.0 ∙ ap (λ (t : Told). t.seen) told_is) in (
      parts.0,
      ap (λ (x : WorldState). x.sent) did.1
          ∙ ap (λ (more : List Message). sent_also w.sent more) (ap (λ (t : Told). t.sends) told_is ∙ parts.1),
      ap (λ (x : WorldState). x.aged) did.1
          ∙ ap (λ (k : Option ℕ). aged_also w.aged k) (ap (λ (t : Told). t.ages) told_is ∙ parts.2),
    )

-- The delivery of a BUCKETS sent the DIFFER of the places that are unequal.
pub record Compared (w v : WorldState) (a b : ℕ) (theirs : List (List ℕ)) (differ : ℕ) : Type 0 where
  pub at : Map
  pub here : site_at w.sites b ≡ Some at
  pub number : differ ≡ length w.sent + 1
  pub sent : v.sent ≡ w.sent ++ (message b a (Differ (unequal (bucket_list (offered (version_between w.aged a b) at))
      theirs)) ∷ [])

differs_is : (x y : ℕ) → ok (Differs x) ≡ ok (Differs y) → x ≡ y
differs_is x y e = cc

has_is : (x y : ℕ) → ok (has_told x) ≡ ok (has_told y) → x ≡ y
has_is x y e = cc

compare_did : (w v : WorldState) (a b number differ : ℕ) (theirs : List (List ℕ)) → Happens w (Deliver number) (Ok
    (Differs differ)) v → message_at w.sent number ≡ Some (message a b (says_buckets theirs)) → Compared w v a b theirs
    differ
compare_did w v a b number differ theirs did at = by (site_at w.sites b) refl
  where
    one : Message
    one = message a b (says_buckets theirs)

    by : (r : Option Map) → site_at w.sites b ≡ r → Compared w v a b theirs differ
    by None here =
        absurd (let e = did.0 ∙ ap (λ (t : Told). t.seen) (delivered w number one at)
        ∙ ap (λ r. (on_site NoMessage r (λ x. told_of_message w x (Some one))).seen) here in cc)
    by (Some x) here =
        let told_is = delivered w number one at ∙ ap (λ r. on_site NoMessage r (λ x. told_of_message w x (Some one)))
        here in
        record {
          at = x;
          here = here;
          number = differs_is differ (length w.sent + 1) (did.0 ∙ ap (λ (t : Told). t.seen) told_is);
          sent = ap (λ (u : WorldState). u.sent) did.1 ∙ ap (λ (t : Told). sent_also w.sent t.sends) told_is;
        }

-- The delivery of a DIFFER sent the HAVE of its places.
pub record Showed (w v : WorldState) (a b : ℕ) (places : List ℕ) (have : ℕ) : Type 0 where
  pub at : Map
  pub here : site_at w.sites a ≡ Some at
  pub number : have ≡ length w.sent + 1
  pub sent : v.sent ≡ w.sent ++ (message a b (Have (offered_in (version_between w.aged b a) places at)) ∷ [])

differ_did : (w v : WorldState) (a b number have : ℕ) (places : List ℕ) → Happens w (Deliver number) (Ok (has_told
    have))
    v → message_at w.sent number ≡ Some (message b a (Differ places)) → Showed w v a b places have
differ_did w v a b number have places did at = by (site_at w.sites a) refl
  where
    one : Message
    one = message b a (Differ places)

    by : (r : Option Map) → site_at w.sites a ≡ r → Showed w v a b places have
    by None here =
        absurd (let e = did.0 ∙ ap (λ (t : Told). t.seen) (delivered w number one at)
        ∙ ap (λ r. (on_site NoMessage r (λ x. told_of_message w x (Some one))).seen) here in cc)
    by (Some x) here =
        let told_is = delivered w number one at ∙ ap (λ r. on_site NoMessage r (λ x. told_of_message w x (Some one)))
        here in
        record {
          at = x;
          here = here;
          number = has_is have (length w.sent + 1) (did.0 ∙ ap (λ (t : Told). t.seen) told_is);
          sent = ap (λ (u : WorldState). u.sent) did.1 ∙ ap (λ (t : Told). sent_also w.sent t.sends) told_is;
        }

pub rounds_by_buckets : RoundsByBucketsGiveAll
rounds_by_buckets w new a b buckets k steps answers m was n (w1, first, run) (differ, have, (is, told_so, finished)) at
    at_b there own agree tell =
    let version = version_between w.aged a b in
    let theirs = bucket_list (offered version m) in
    let one = message a b (says_buckets theirs) in
    let offer = buckets_did w w1 a b buckets m first at in
    let one_at = ap (λ (t : List Message). message_at t buckets) offer.1 ∙ sent_last w.sent one [] buckets offer.0 in
    let met_a = ap (λ (t : List Message). has_met t a) offer.1 ∙ any_last (is_of a) w.sent one (is_from a b
    (says_buckets theirs)) in
    let met_b = ap (λ (t : List Message). has_met t b) offer.1 ∙ any_last (is_of b) w.sent one (is_to a b (says_buckets
    theirs)) in
    let kept : version_between w1.aged a b ≡ version = ap (λ (t : List ℕ). version_between t a b) offer.2 in
    let first_on = step_later w w1 (Buckets a b) (Ok (Offered buckets)) first in
    let deliver = before w1 new steps answers k (Deliver buckets) (Ok (Differs differ)) run is told_so in
    let since = run_later w1 deliver.mid (take k steps) (take k answers) deliver.run in
    let compared = compare_did deliver.mid deliver.next a b buckets differ theirs deliver.happens (message_stays w1.sent
    deliver.mid.sent buckets one since.sent one_at) in
    let spoken : version_between deliver.mid.aged a b ≡ version = speak w1 deliver.mid a b since met_a met_b
    ∙ kept in
    let places = unequal (bucket_list (offered (version_between deliver.mid.aged a b) compared.at)) theirs in
    let two = message b a (Differ places) in
    let two_at = ap (λ (t : List Message). message_at t differ) compared.sent ∙ sent_last deliver.mid.sent two [] differ
    compared.number in
    let on = step_later deliver.mid deliver.next (Deliver buckets) (Ok (Differs differ)) deliver.happens in
    let answer = found deliver.next new (drop (suc k) steps) (drop (suc k) answers) (Deliver differ) (has_told have)
    (IsFinished have) deliver.behind finished in
    let showed = differ_did answer.mid answer.next a b differ have places answer.happens (message_stays
    deliver.next.sent
    answer.mid.sent differ two answer.since.sent two_at) in
    let to_showing = later_later w1 deliver.mid answer.mid since (later_later deliver.mid deliver.next
    answer.mid
    on answer.since) in
    let spoken_again : version_between answer.mid.aged b a ≡ version = versions_turned answer.mid.aged a b
    ∙ speak w1 answer.mid a b to_showing met_a met_b ∙ kept in
    let digests = offered_in (version_between answer.mid.aged b a) places showed.at in
    let three_at = ap (λ (t : List Message). message_at t have) showed.sent ∙ sent_last answer.mid.sent (message a
    b (Have
    digests)) [] have showed.number in
    let on_again = step_later answer.mid answer.next (Deliver differ) (Ok (has_told have)) answer.happens in
    let to_have = later_later w1 answer.mid answer.next to_showing on_again in
    let ex = from_have answer.next new a b have answer.steps answer.answers digests n answer.run answer.behind three_at
    (met_stays w1 answer.next a to_have.sent met_a) (met_stays w1 answer.next b to_have.sent met_b) there in
    let last : version_between answer.next.aged a b ≡ version = speak w1 answer.next a b to_have met_a met_b ∙ kept in
    let shown = on_again.grown a showed.at showed.here in
    let comparing = (later_later deliver.mid deliver.next answer.next on (later_later deliver.next answer.mid
    answer.next
    answer.since on_again)).grown b compared.at compared.here in
    let ops = taken_at new.sent b (Buckets a b ∷ take k steps) (Ok (Offered buckets) ∷ take k answers) in
    let held = run_took w deliver.mid (Buckets a b ∷ take k steps) (Ok (Offered buckets) ∷ take k answers) new.sent (
      w1,
      first,
      deliver.run,
    ) deliver.sent b ∙ ap (option_map (λ x. holding x ops)) at_b in
    let is_held = same_some compared.at (holding was ops) (sym compared.here ∙ held) in
    round_by_buckets_gives_all version m showed.at ex.giving compared.at ex.asking n own
    (grew w answer.mid a m showed.at (later_later w w1 answer.mid first_on to_showing) at showed.here)
    (λ d op held. ex.gave shown.0 shown.1 d op (shown.2 d op held))
    (λ d op held. ex.asked comparing.0 comparing.1 d op (comparing.2 d op held)) agree
    (subst (λ x. BucketsTell (offered version x) (offered version m)) (sym is_held) tell)
    (subst (λ v. IsAnswered version (offered_in v (unequal (bucket_list (offered version compared.at)) theirs)
    showed.at)
    ex.asking ex.giving n) spoken_again
    (subst (λ v. IsAnswered version (offered_in (version_between answer.mid.aged b a) (unequal (bucket_list (offered v
    compared.at)) theirs) showed.at) ex.asking ex.giving n) spoken
    (subst (λ v. IsAnswered v digests ex.asking ex.giving n) last ex.answered)))
