-- What finished rounds come to in a run of a new world.
use Rattle.std.proofs.Common.{◌≡◌, ℕ, suc, zero, List, [], ◌∷◌, ◌++◌, Option, Some, None, Ok, Err, Result, Bool}
use Rattle.std.proofs.Common.{take, drop, true, false, cond, refl, sym, ap, subst, ◌∙◌, inl, inr, ◌⊎◌, ◌==◌, ◌+◌}
use Rattle.std.specs.Prelude.{replicate}
use Rattle.std.specs.List.{slice_get}
use Rattle.std.specs.Option.{option_map}
use Rattle.std.specs.FinMap.{empty}
use Rattle.std.proofs.lemmas.Bool.{eqb-true}
use Rattle.octets.specs.Members.{Has}
use Rattle.operation.specs.declared.op.Op.{Op}
use Rattle.operation.specs.declared.taken.Taken.{Taken}
use Rattle.operation.specs.declared.taken.Taken.TheVariants.{New, Known}
use Rattle.operation.specs.declared.stamp.Stamp.{Stamp}
use Rattle.operation.specs.Spelling.{digest_of}
use Rattle.site_state.specs.declared.fault.SiteFault.TheVariants.{Collision}
use Rattle.site_state.specs.Site.{Map, held_at}
use Rattle.site_state.specs.Union.{Agree}
use Rattle.site_state.specs.Laws.{holding}
use Rattle.site_state.proofs.Ascending.{taken_is_site}
use Rattle.site_state.proofs.Maps.{same_sites}
use Rattle.site_state.proofs.Same.{told}
use Rattle.exchange.specs.declared.version.Version.{Version}
use Rattle.exchange.specs.declared.version.Version.TheVariants.{One, Two}
use Rattle.exchange.specs.Held.{is_spoken, offered}
use Rattle.exchange.specs.Buckets.{bucket_list}
use Rattle.exchange.specs.Laws.{HasAllSpoken, BucketsTell}
use Rattle.exchange.proofs.Rounds.{same_option}
use Rattle.site_world.specs.declared.fault.WorldFault.{WorldFault}
use Rattle.site_world.specs.declared.fault.WorldFault.TheVariants.{Site, OldSite}
use Rattle.site_world.specs.declared.step.Step.{Step}
use Rattle.site_world.specs.declared.step.Step.TheVariants.{Take, Correct, Offer, Buckets, Deliver, Old, Look, Get}
use Rattle.site_world.specs.declared.step.Seen.{Seen}
use Rattle.site_world.specs.declared.step.Seen.TheVariants.{Took, Stamped, Offered, Wanted, Gave, Differs}
use Rattle.site_world.specs.declared.step.Seen.TheVariants.{Has as has_told, Aged, Rows, Sent}
use Rattle.site_world.specs.declared.message.Message.{Message}
use Rattle.site_world.specs.declared.message.Says.{Says}
use Rattle.site_world.specs.declared.message.Says.TheVariants.{Have, Want, Give, Buckets as says_buckets, Differ}
use Rattle.site_world.specs.Messages.{WorldState, new_world, message_at, message, site_for, gift_of, gift_in, is_of}
use Rattle.site_world.specs.Messages.{has_met, is_old, version_at, version_between}
use Rattle.site_world.specs.Steps.{site_at, site_of, told_at, told_of_taking, on_site, absent, Happens, taken_in}
use Rattle.site_world.specs.Steps.{taken_by, answer_to, told_of_message}
use Rattle.site_world.specs.Runs.{Run, taken_at, taken_before, took, if_took, if_stamped}
use Rattle.site_world.specs.Same.{same_op}
use Rattle.site_world.specs.Finished.{TwoSites, held_before, HasRound, FinishedRoundsGiveAll, is_change, IsDeliveryFrom}
use Rattle.site_world.specs.Finished.{AreChangesFrom, RoundsEachWayTellAll, RoundsEachWayMakeEqual}
use Rattle.site_world.proofs.Codes.{same_op-is}
use Rattle.site_world.proofs.Taken.{Front, front_itself, message_stays, step_took, run_took}
use Rattle.site_world.proofs.Rounds.{Later, later_later, step_later, run_later, offer_did, buckets_did, any_last}
use Rattle.site_world.proofs.Rounds.{is_from, is_to, grew, speak, rounds_give_all, rounds_by_buckets, versions_turned}
use Rattle.site_world.proofs.Alike.{Stands, before, run_upto, by_site, new_holds, answer_alike}
use Rattle.site_world.proofs.Knowing.{run_knows}
use Rattle.site_world.proofs.Given.{Honest, HoldsIt, held_later, step_honest, run_honest, new_honest}

-- ---- a round anywhere

-- A step that was answered Ok was at a site.
site_there : (w v : WorldState) (step : Step) (seen : Seen) → Happens w step (Ok seen) v
    → (x : Map) × (site_at w.sites (site_of w.sent step) ≡ Some x)
site_there w v step seen did = by (site_at w.sites (site_of w.sent step)) refl
  where
    by : (r : Option Map) → site_at w.sites (site_of w.sent step) ≡ r
        → (x : Map) × (site_at w.sites (site_of w.sent step) ≡ Some x)
    by None at = absurd (let e = did.0 ∙ ap (λ r. (on_site (absent step) r (λ x. told_at w x step)).seen) at in cc)
    by (Some x) at = (x, at)

-- Two sites of which one opened a round to the other speak what they spoke.
opened_speak : (w v new : WorldState) (a b : ℕ) (says : Says) → v.sent ≡ w.sent ++ (message a b says ∷ [])
    → v.aged ≡ w.aged → Later v new → version_between new.aged a b ≡ version_between w.aged a b
opened_speak w v new a b says sent aged later =
    let one = message a b says in
    let met_a = ap (λ (t : List Message). has_met t a) sent ∙ any_last (is_of a) w.sent one (is_from a b says) in
    let met_b = ap (λ (t : List Message). has_met t b) sent ∙ any_last (is_of b) w.sent one (is_to a b says) in
    speak v new a b later met_a met_b ∙ ap (λ (t : List ℕ). version_between t a b) aged

module _ (steps : List Step) (answers : List (Result Seen WorldFault)) (new : WorldState) (a b : ℕ) (m n : Map)
    (two : TwoSites steps answers new a b m n) (i : ℕ) where
  abbrev start : WorldState
  start = new_world (replicate two.count empty)

  -- what the first site held at step i
  abbrev was : Map
  was = held_before new.sent i a steps answers

  behind_later : (step : Step) (seen : Seen) (here : Stands start new steps answers i step (Ok seen))
      → Later here.mid new
  behind_later step seen here =
      later_later here.mid here.next new (step_later here.mid here.next step (Ok seen) here.happens)
      (run_later here.next new (drop (suc i) steps) (drop (suc i) answers) here.behind)

  -- So it did, and of one digest the second holds no other in the end.
  offering : (step : Step) (seen : Seen) (here : Stands start new steps answers i step (Ok seen))
      → site_of here.mid.sent step ≡ a → (site_at here.mid.sites a ≡ Some was) × Agree was n
  offering step seen here is =
      let there = site_there here.mid here.next step seen here.happens in
      let at = ap (site_at here.mid.sites) (sym is) ∙ there.1 in
      let held = by_site start here.mid (take i steps) (take i answers) new.sent a there.0 _ (new_holds two.count a)
      refl here.run here.sent at in
      let now = at ∙ ap Some held.0 in (
        now,
        λ d o p e f. two.agree d o p (grew here.mid new a was m (behind_later step seen here) now two.first d o e) f,
      )

  -- the second site was there at step i
  second_had : (step : Step) (seen : Seen) (here : Stands start new steps answers i step (Ok seen))
      → (x : Map) × (site_at here.mid.sites b ≡ Some x)
  second_had step seen here = by (site_at here.mid.sites b) refl
    where
      to_end : site_at new.sites b ≡ option_map (λ m. holding m (taken_at new.sent b (step ∷ drop (suc i) steps)
          (Ok seen ∷ drop (suc i) answers))) (site_at here.mid.sites b)
      to_end = run_took here.mid new (step ∷ drop (suc i) steps) (Ok seen ∷ drop (suc i) answers) new.sent
          (here.next, here.happens, here.behind) (front_itself new.sent) b

      by : (r : Option Map) → site_at here.mid.sites b ≡ r → (x : Map) × (site_at here.mid.sites b ≡ Some x)
      by None at = absurd (let e = sym two.second ∙ to_end ∙ ap (option_map (λ m. holding m (taken_at new.sent b
          (step ∷ drop (suc i) steps) (Ok seen ∷ drop (suc i) answers)))) at in cc)
      by (Some x) at = (x, at)

  round_gives : HasRound steps answers new i a b → HasAllSpoken (version_between new.aged a b) was n
  round_gives (inl (have, is, told_so, done)) =
      let here = before start new steps answers i (Offer a b) (Ok (Offered have)) two.run is told_so in
      let there = offering (Offer a b) (Offered have) here refl in
      let did = offer_did here.mid here.next a b have was here.happens there.0 in
      let kept = opened_speak here.mid here.next new a b (Have (offered (version_between here.mid.aged a b) was)) did.1
      did.2 (run_later here.next new (drop (suc i) steps) (drop (suc i) answers) here.behind) in
      subst (λ v. HasAllSpoken v was n) (sym kept)
      (rounds_give_all here.mid new a b have (drop (suc i) steps) (drop (suc i) answers) was n (
        here.next,
        here.happens,
        here.behind,
      ) done there.0 two.second (taken_is_site (taken_before new.sent i a steps answers)) there.1)
  round_gives (inr (k, (number, is, told_so, (differ, have, (at, told_at, done))), tell)) =
      let here = before start new steps answers i (Buckets a b) (Ok (Offered number)) two.run is told_so in
      let there = offering (Buckets a b) (Offered number) here refl in
      let did = buckets_did here.mid here.next a b number was here.happens there.0 in
      let kept = opened_speak here.mid here.next new a b (says_buckets (bucket_list (offered (version_between
      here.mid.aged a b) was))) did.1 did.2 (run_later here.next new (drop (suc i) steps) (drop (suc i) answers)
      here.behind) in
      let had = second_had (Buckets a b) (Offered number) here in
      let later = before here.next new (drop (suc i) steps) (drop (suc i) answers) k (Deliver number) (Ok (Differs
      differ)) here.behind at told_at in
      let ops = taken_at new.sent b (Buckets a b ∷ take k (drop (suc i) steps)) (Ok (Offered number)
      ∷ take k (drop (suc i) answers)) in
      let at_mid = run_took here.mid later.mid (Buckets a b ∷ take k (drop (suc i) steps)) (Ok (Offered number)
      ∷ take k (drop (suc i) answers)) new.sent (here.next, here.happens, later.run) later.sent b
      ∙ ap (option_map (λ x. holding x ops)) had.1 in
      let whole = run_upto i k start here.mid here.next later.mid steps answers (Buckets a b) (Ok (Offered number))
      here.run is told_so here.happens later.run in
      let held = by_site start later.mid (take (suc (i + k)) steps) (take (suc (i + k)) answers) new.sent b
      (holding had.0 ops) _ (new_holds two.count b) refl whole later.sent at_mid in
      subst (λ v. HasAllSpoken v was n) (sym kept)
      (rounds_by_buckets here.mid new a b number k (drop (suc i) steps) (drop (suc i) answers) was had.0 n (
        here.next,
        here.happens,
        here.behind,
      ) (differ, have, (at, told_at, done)) there.0 had.1 two.second
      (taken_is_site (taken_before new.sent i a steps answers)) there.1
      (subst (λ x. BucketsTell (offered (version_between here.mid.aged a b) x)
      (offered (version_between here.mid.aged a b) was)) (sym held.0)
      (subst (λ v. BucketsTell (offered v (held_before new.sent (suc (i + k)) b steps answers)) (offered v was)) kept
      tell)))

pub finished_rounds : FinishedRoundsGiveAll
finished_rounds steps answers new i a b m n two round = round_gives steps answers new a b m n two i round

-- ---- what a step took

-- what was taken was new, or told to be known
took_kind : (answer : Result Seen WorldFault) (ops : List Op) (op : Op) → Has (if_took answer ops) op
    → (is_change answer ≡ true) ⊎ (answer ≡ Ok (Took Known))
took_kind (Ok (Took New)) ops op has = inl refl
took_kind (Ok (Took Known)) ops op has = inr refl
took_kind (Ok (Stamped stamp)) ops op has = absurd has
took_kind (Ok (Offered number)) ops op has = absurd has
took_kind (Ok (Wanted number)) ops op has = absurd has
took_kind (Ok (Gave numbers)) ops op has = absurd has
took_kind (Ok (Differs number)) ops op has = absurd has
took_kind (Ok (has_told number)) ops op has = absurd has
took_kind (Ok Aged) ops op has = absurd has
took_kind (Ok (Rows rows)) ops op has = absurd has
took_kind (Ok (Sent sendings)) ops op has = absurd has
took_kind (Err fault) ops op has = absurd has

stamped_kind : (answer : Result Seen WorldFault) (made : Stamp → Op) (op : Op) → Has (if_stamped answer made) op
    → (is_change answer ≡ true) ⊎ (answer ≡ Ok (Took Known))
stamped_kind (Ok (Took taken)) made op has = absurd has
stamped_kind (Ok (Stamped stamp)) made op has = inl refl
stamped_kind (Ok (Offered number)) made op has = absurd has
stamped_kind (Ok (Wanted number)) made op has = absurd has
stamped_kind (Ok (Gave numbers)) made op has = absurd has
stamped_kind (Ok (Differs number)) made op has = absurd has
stamped_kind (Ok (has_told number)) made op has = absurd has
stamped_kind (Ok Aged) made op has = absurd has
stamped_kind (Ok (Rows rows)) made op has = absurd has
stamped_kind (Ok (Sent sendings)) made op has = absurd has
stamped_kind (Err fault) made op has = absurd has

kind_of : (sent : List Message) (step : Step) (answer : Result Seen WorldFault) (op : Op) → Has (took sent step answer)
    op → (is_change answer ≡ true) ⊎ (answer ≡ Ok (Took Known))
kind_of sent (Take n o) answer op has = took_kind answer (o ∷ []) op has
kind_of sent (Correct n target tag value) answer op has = stamped_kind answer _ op has
kind_of sent (Offer from to) answer op has = absurd has
kind_of sent (Buckets from to) answer op has = absurd has
kind_of sent (Deliver number) answer op has = took_kind answer (gift_in (message_at sent number)) op has
kind_of sent (Old n) answer op has = absurd has
kind_of sent (Look n view query) answer op has = absurd has
kind_of sent (Get n view selection accepts) answer op has = absurd has

-- ---- what is told to be known is held

known_by : (x : Map) (op held : Op) (b : Bool) → same_op held op ≡ b → held_at x (digest_of op) ≡ Some held
    → cond b (Ok Known) (Err (Site Collision)) ≡ Ok Known → held_at x (digest_of op) ≡ Some op
known_by x op held true same there answer = there ∙ ap Some (same_op-is held op same)
known_by x op held false same there answer = absurd cc

known_where : (x : Map) (op : Op) (r : Option Op) → held_at x (digest_of op) ≡ r → answer_to r op ≡ Ok Known
    → held_at x (digest_of op) ≡ Some op
known_where x op None there answer = absurd cc
known_where x op (Some held) there answer = known_by x op held (same_op held op) refl there answer

known_in : (x : Map) (op : Op) (b : Bool) → cond b (taken_by x op) (Err OldSite) ≡ Ok Known
    → held_at x (digest_of op) ≡ Some op
known_in x op true answer = known_where x op (held_at x (digest_of op)) refl answer
known_in x op false answer = absurd cc

abbrev known : Result Seen WorldFault
known = Ok (Took Known)

known_taken : (version : Version) (x : Map) (op : Op) (r : Result Taken WorldFault) → taken_in version x op ≡ r
    → known ≡ (told_of_taking op r).seen → held_at x (digest_of op) ≡ Some op
known_taken version x op (Ok New) is e = absurd cc
known_taken version x op (Ok Known) is e = known_in x op (is_spoken version op) is
known_taken version x op (Err fault) is e = absurd cc

taken_known : (version : Version) (x : Map) (o op : Op) → known ≡ (told_of_taking o (taken_in version x o)).seen
    → op ≡ o → held_at x (digest_of op) ≡ Some op
taken_known version x o op e same =
    subst (λ p. held_at x (digest_of p) ≡ Some p) (sym same) (known_taken version x o (taken_in version x o) refl e)

known_at : (w : WorldState) (x : Map) (step : Step) (op : Op) → known ≡ (told_at w x step).seen
    → Has (took w.sent step known) op → held_at x (digest_of op) ≡ Some op
known_at w x (Take n o) op e (inl same) = taken_known (version_at w.aged n) x o op e same
known_at w x (Take n o) op e (inr has) = absurd has
known_at w x (Correct n target tag value) op e has = absurd has
known_at w x (Offer from to) op e has = absurd has
known_at w x (Buckets from to) op e has = absurd has
known_at w x (Old n) op e has = absurd has
known_at w x (Look n view query) op e has = absurd has
known_at w x (Get n view selection accepts) op e has = absurd has
known_at w x (Deliver number) op e has = by (message_at w.sent number) e has
  where
    saying : (from to : ℕ) (says : Says) → known ≡ (told_of_message w x (Some (message from to says))).seen
        → Has (gift_of says) op → held_at x (digest_of op) ≡ Some op
    saying from to (Have have) e has = absurd has
    saying from to (Want want) e has = absurd has
    saying from to (Give o) e (inl same) = taken_known (version_at w.aged to) x o op e same
    saying from to (Give o) e (inr has) = absurd has
    saying from to (says_buckets buckets) e has = absurd has
    saying from to (Differ places) e has = absurd has

    by : (r : Option Message) → known ≡ (told_of_message w x r).seen → Has (gift_in r) op
        → held_at x (digest_of op) ≡ Some op
    by None e has = absurd has
    by (Some one) e has = saying one.from one.to one.says e has

-- What a site was told to know it held.
known_held : (w v : WorldState) (step : Step) (x : Map) (op : Op) → Happens w step known v
    → site_at w.sites (site_of w.sent step) ≡ Some x → Has (took w.sent step known) op
    → held_at x (digest_of op) ≡ Some op
known_held w v step x op did at has =
    known_at w x step op (did.0 ∙ ap (λ r. (on_site (absent step) r (λ y. told_at w y step)).seen) at) has

-- ---- what was given

-- A delivery that took something is of a message that was sent before.
sent_before : (sent : List Message) (number : ℕ) (answer : Result Seen WorldFault) (op : Op)
    → Has (took sent (Deliver number) answer) op
    → (one : Message) × (message_at sent number ≡ Some one) × Has (gift_of one.says) op
sent_before sent number answer op has = by (message_at sent number) refl
  where
    gift : (r : Result Seen WorldFault) (ops : List Op) → Has (if_took r ops) op → Has ops op
    gift (Ok (Took taken)) ops has = has
    gift (Ok (Stamped stamp)) ops has = absurd has
    gift (Ok (Offered k)) ops has = absurd has
    gift (Ok (Wanted k)) ops has = absurd has
    gift (Ok (Gave ks)) ops has = absurd has
    gift (Ok (Differs k)) ops has = absurd has
    gift (Ok (has_told k)) ops has = absurd has
    gift (Ok Aged) ops has = absurd has
    gift (Ok (Rows rows)) ops has = absurd has
    gift (Ok (Sent sendings)) ops has = absurd has
    gift (Err fault) ops has = absurd has

    by : (r : Option Message) → message_at sent number ≡ r
        → (one : Message) × (message_at sent number ≡ Some one) × Has (gift_of one.says) op
    by None at =
        absurd (subst (λ (r : Option Message). Has (gift_in r) op) at (gift answer _ has))
    by (Some one) at = (one, at, subst (λ (r : Option Message). Has (gift_in r) op) at (gift answer _ has))

-- So its site is the same by all messages that were sent later.
site_stays : (sent all : List Message) (step : Step) (answer : Result Seen WorldFault) (op : Op) → Front sent all
    → Has (took sent step answer) op → site_of all step ≡ site_of sent step
site_stays sent all (Take n o) answer op begins has = refl
site_stays sent all (Correct n target tag value) answer op begins has = refl
site_stays sent all (Offer from to) answer op begins has = refl
site_stays sent all (Buckets from to) answer op begins has = refl
site_stays sent all (Old n) answer op begins has = refl
site_stays sent all (Look n view query) answer op begins has = refl
site_stays sent all (Get n view selection accepts) answer op begins has = refl
site_stays sent all (Deliver number) answer op begins has =
    let found = sent_before sent number answer op has in
    ap site_for (message_stays sent all number found.0 begins found.1 ∙ sym found.1)

said : (says : Says) (op : Op) → Has (gift_of says) op → says ≡ Give op
said (Have have) op has = absurd has
said (Want want) op has = absurd has
said (Give o) op (inl same) = ap Give (sym same)
said (Give o) op (inr has) = absurd has
said (says_buckets buckets) op has = absurd has
said (Differ places) op has = absurd has

lies_in : (sent : List Message) (k : ℕ) (one : Message) → slice_get sent k ≡ Some one → Has sent one
lies_in [] k one at = absurd cc
lies_in (x ∷ sent) zero one at = inl (is x (sym at))
  where
    is : (y : Message) → Some one ≡ Some y → one ≡ y
    is y e = cc
lies_in (x ∷ sent) (suc k) one at = inr (lies_in sent k one at)

numbered : (sent : List Message) (number : ℕ) (one : Message) → message_at sent number ≡ Some one → Has sent one
numbered sent zero one at = absurd cc
numbered sent (suc k) one at = lies_in sent k one at

same_from : (r : Option Message) (one : Message) (b : ℕ) → r ≡ Some one → option_map (λ x. x.from) r ≡ Some b
    → one.from ≡ b
same_from r one b at e = let f = ap (option_map (λ (x : Message). x.from)) (sym at) ∙ e in cc

-- What came from a site it held.
given_by : (w : WorldState) (all : List Message) (b : ℕ) (step : Step) (answer : Result Seen WorldFault) (op : Op)
    → Honest w → Front w.sent all → Has (took w.sent step answer) op → IsDeliveryFrom all b step → HoldsIt w b op
given_by w all b step answer op honest begins has (number, is, from) =
    let found = sent_before w.sent number answer op (subst (λ s. Has (took w.sent s answer) op) is has) in
    let giver = same_from (message_at all number) found.0 b (message_stays w.sent all number found.0 begins found.1)
    from in
    let one : found.0 ≡ message b found.0.to (Give op) = ap (λ k. message k found.0.to found.0.says) giver
    ∙ ap (message b found.0.to) (said found.0.says op found.2) in
    honest.held b found.0.to op (subst (Has w.sent) one (numbered w.sent number found.0 found.1))

-- ---- what a site holds behind its offer

holds : (w : WorldState) (n : ℕ) (m : Map) (op : Op) → site_at w.sites n ≡ Some m → HoldsIt w n op
    → held_at m (digest_of op) ≡ Some op
holds w n m op at (k, here, there) = ap (λ x. held_at x (digest_of op)) (is (sym at ∙ here)) ∙ there
  where
    is : Some m ≡ Some k → m ≡ k
    is e = cc

module _ (new : WorldState) (a b : ℕ) (n : Map) (second : site_at new.sites b ≡ Some n) where
  -- what a step brought another site held, or the site itself did
  brought_by : (w mid : WorldState) (step : Step) (answer : Result Seen WorldFault) (x : Map) → Honest w
      → Happens w step answer mid → Later w new
      → (is_change answer ≡ true → site_of new.sent step ≡ a → IsDeliveryFrom new.sent b step)
      → site_at w.sites a ≡ Some x → site_of w.sent step ≡ a → (op : Op) → Has (took w.sent step answer) op
      → (held_at x (digest_of op) ≡ Some op) ⊎ (held_at n (digest_of op) ≡ Some op)
  brought_by w mid step answer x honest did later only at is op has = elim (kind_of w.sent step answer op has) [
    | inl change ↦ inr (holds new b n op second (held_later w new b op later (given_by w new.sent b step answer op
        honest later.sent has (only change (site_stays w.sent new.sent step answer op later.sent has ∙ is)))))
    | inr e ↦ inl (known_held w mid step x op (subst (λ r. Happens w step r mid) e did) (ap (site_at w.sites) is ∙ at)
        (subst (λ r. Has (took w.sent step r) op) e has))
  ]

  step_adds : (w mid : WorldState) (step : Step) (answer : Result Seen WorldFault) (x : Map) → Honest w
      → Happens w step answer mid → Later w new
      → (is_change answer ≡ true → site_of new.sent step ≡ a → IsDeliveryFrom new.sent b step)
      → site_at w.sites a ≡ Some x → (c : Bool) → (site_of w.sent step == a) ≡ c → (d : List ℕ) (op : Op)
      → held_at (holding x (cond c (took w.sent step answer) [])) d ≡ Some op
      → (held_at x d ≡ Some op) ⊎ (held_at n d ≡ Some op)
  step_adds w mid step answer x honest did later only at false is d op there = inl there
  step_adds w mid step answer x honest did later only at true is d op there =
      elim (told x (took w.sent step answer) d) [
        | inl found ↦ under found.0 (some_op found.0 (sym found.3 ∙ there)) found.1 found.2
        | inr none ↦ inl (sym none.1 ∙ there)
      ]
    where
      some_op : (o : Op) → Some o ≡ Some op → o ≡ op
      some_op o e = cc

      under : (o : Op) → o ≡ op → Has (took w.sent step answer) o → digest_of o ≡ d
          → (held_at x d ≡ Some op) ⊎ (held_at n d ≡ Some op)
      under o same has own =
          let is_d : digest_of op ≡ d = ap digest_of (sym same) ∙ own in
          subst (λ k. (held_at x k ≡ Some op) ⊎ (held_at n k ≡ Some op)) is_d
          (brought_by w mid step answer x honest did later only at (eqb-true (site_of w.sent step) a is) op
          (subst (Has (took w.sent step answer)) same has))

  since : (w : WorldState) (steps : List Step) (answers : List (Result Seen WorldFault)) (x m : Map) → Honest w
      → Run w steps answers new → AreChangesFrom new.sent b a steps answers → site_at w.sites a ≡ Some x
      → site_at new.sites a ≡ Some m → (d : List ℕ) (op : Op) → held_at m d ≡ Some op
      → (held_at x d ≡ Some op) ⊎ (held_at n d ≡ Some op)
  since w [] [] x m honest same only at end d op there =
      let stays = ap (λ (u : WorldState). site_at u.sites a) (sym same) in
      inl (ap (λ y. held_at y d) (is (sym at ∙ stays ∙ end)) ∙ there)
    where
      is : Some x ≡ Some m → x ≡ m
      is e = cc
  since w [] (r ∷ answers) x m honest run only at end d op there = absurd run
  since w (s ∷ steps) [] x m honest run only at end d op there = absurd run
  since w (s ∷ steps) (r ∷ answers) x m honest (mid, first, rest) only at end d op there =
      let ops = cond (site_of w.sent s == a) (took w.sent s r) [] in
      let here = step_took w mid s r a first ∙ ap (option_map (λ y. holding y ops)) at in
      elim (since mid steps answers (holding x ops) m (step_honest w mid s r honest first) rest only.1 here end d op
      there) [
        | inl e ↦ step_adds w mid s r x honest first (later_later w mid new (step_later w mid s r first) (run_later mid
            new steps answers rest)) only.0 at (site_of w.sent s == a) refl d op e
        | inr e ↦ inr e
      ]

-- ---- a round each way

module _ (steps : List Step) (answers : List (Result Seen WorldFault)) (new : WorldState) (a b : ℕ) (m n : Map)
    (two : TwoSites steps answers new a b m n) (i : ℕ) where
  -- What a site holds in the end it held at its offer, or the other holds it.
  opened : (step : Step) (number : ℕ) → ((sent : List Message) → site_of sent step ≡ a) → slice_get steps i ≡ Some step
      → slice_get answers i ≡ Some (Ok (Offered number))
      → AreChangesFrom new.sent b a (drop (suc i) steps) (drop (suc i) answers) → (d : List ℕ) (op : Op)
      → held_at m d ≡ Some op
      → (held_at (held_before new.sent i a steps answers) d ≡ Some op) ⊎ (held_at n d ≡ Some op)
  opened step number is_at is told_so only d op there =
      let start = new_world (replicate two.count empty) in
      let here = before start new steps answers i step (Ok (Offered number)) two.run is told_so in
      let offer = offering steps answers new a b m n two i step (Offered number) here (is_at here.mid.sent) in
      let honest = run_honest start here.mid (take i steps) (take i answers) (new_honest two.count) here.run in
      since new a b n two.second here.mid (step ∷ drop (suc i) steps) (Ok (Offered number) ∷ drop (suc i) answers)
      (held_before new.sent i a steps answers) m honest (here.next, here.happens, here.behind) (
        λ e _. absurd cc,
        only,
      ) offer.0 two.first d op there

  round_opened : HasRound steps answers new i a b
      → AreChangesFrom new.sent b a (drop (suc i) steps) (drop (suc i) answers) → (d : List ℕ) (op : Op)
      → held_at m d ≡ Some op
      → (held_at (held_before new.sent i a steps answers) d ≡ Some op) ⊎ (held_at n d ≡ Some op)
  round_opened (inl (have, is, told_so, done)) only = opened (Offer a b) have (λ sent. refl) is told_so only
  round_opened (inr (k, (number, is, told_so, done), tell)) only =
      opened (Buckets a b) number (λ sent. refl) is told_so only

  one_way : HasRound steps answers new i a b
      → AreChangesFrom new.sent b a (drop (suc i) steps) (drop (suc i) answers)
      → HasAllSpoken (version_between new.aged a b) m n
  one_way round only d op there spoken = elim (round_opened round only d op there) [
    | inl e ↦ round_gives steps answers new a b m n two i round d op e spoken
    | inr e ↦ e
  ]

turned : (steps : List Step) (answers : List (Result Seen WorldFault)) (new : WorldState) (a b : ℕ) (m n : Map)
    → TwoSites steps answers new a b m n → TwoSites steps answers new b a n m
turned steps answers new a b m n two = record {
  count = two.count;
  run = two.run;
  first = two.second;
  second = two.first;
  agree = λ d o p e f. sym (two.agree d p o f e);
}

pub rounds_tell_all : RoundsEachWayTellAll
rounds_tell_all steps answers new a b m n two way = (
  one_way steps answers new a b m n two way.i way.there way.first,
  subst (λ v. HasAllSpoken v n m) (versions_turned new.aged a b)
      (one_way steps answers new b a n m (turned steps answers new a b m n two) way.j way.back way.second),
)

-- what two sites speak that are both old, or both not
same_age : (old : List ℕ) (a b : ℕ) → is_old old a ≡ is_old old b → version_between old a b ≡ version_at old a
same_age old a b e = ap (λ q. cond (is_old old a) One (cond q One Two)) (sym e) ∙ by (is_old old a)
  where
    by : (p : Bool) → cond p One (cond p One Two) ≡ cond p One Two
    by true = refl
    by false = refl

pub rounds_make_equal : RoundsEachWayMakeEqual
rounds_make_equal steps answers new a b m n two way ages =
    (same, answer_alike m n same)
  where
    both : HasAllSpoken (version_between new.aged a b) m n × HasAllSpoken (version_between new.aged a b) n m
    both = rounds_tell_all steps answers new a b m n two way

    knows : (k : ℕ) (x : Map) → site_at new.sites k ≡ Some x → version_between new.aged a b ≡ version_at new.aged k
        → (d : List ℕ) (op : Op) → held_at x d ≡ Some op → is_spoken (version_between new.aged a b) op ≡ true
    knows k x at v d op there = ap (λ z. is_spoken z op) v ∙ run_knows two.count new steps answers two.run k x at d op
        there

    same : m ≡ n
    same = same_sites m n (λ d. same_option (held_at m d) (held_at n d)
        (λ op e. both.0 d op e (knows a m two.first (same_age new.aged a b ages) d op e))
        (λ op e. both.1 d op e (knows b n two.second (sym (versions_turned new.aged a b) ∙ same_age new.aged b a (sym
        ages)) d op e)))
