-- What is answered by definition is no want of memory, so that each step may happen as it is defined.
use Rattle.std.proofs.Common.{◌≡◌, ℕ, [], Option, Some, None, Ok, Err, Result, Bool, true, false, cond}
use Rattle.std.proofs.Common.{refl, sym, subst, ◌==◌}
use Rattle.std.specs.Prelude.{MatchBool, not}
use Rattle.operation.specs.declared.op.Op.{Op}
use Rattle.operation.specs.declared.op.Op.TheVariants.{Correction as a_correction}
use Rattle.operation.specs.Corrections.{is_correction}
use Rattle.operation.specs.declared.stamp.Stamp.{Stamp}
use Rattle.operation.specs.declared.taken.Taken.{Taken}
use Rattle.operation.specs.declared.taken.Taken.TheVariants.{Known}
use Rattle.site_state.specs.declared.fault.SiteFault.TheVariants.{Collision}
use Rattle.site_state.specs.Site.{Map, held_at, ops_of, top_counter_of}
use Rattle.operation.specs.Spelling.{digest_of}
use Rattle.site_world.specs.declared.fault.WorldFault.{WorldFault}
use Rattle.site_world.specs.declared.fault.WorldFault.TheVariants.{Site, NoSite}
use Rattle.site_world.specs.declared.fault.WorldFault.TheVariants.{BadCorrection, StampsSpent, OldSite}
use Rattle.site_world.specs.declared.step.Step.{Step}
use Rattle.site_world.specs.declared.step.Step.TheVariants.{Take, Correct, Offer, Buckets, Deliver, Old, Look, Get}
use Rattle.site_world.specs.Same.{same_op}
use Rattle.site_world.specs.declared.step.Seen.TheVariants.{Offered, Aged}
use Rattle.site_world.specs.declared.message.Message.{Message}
use Rattle.site_world.specs.declared.message.Says.{Says}
use Rattle.site_world.specs.declared.message.Says.TheVariants.{Have, Want, Give, Buckets as says_buckets, Differ}
use Rattle.exchange.specs.declared.version.Version.{Version}
use Rattle.exchange.specs.Held.{is_spoken}
use Rattle.site_world.specs.Messages.{WorldState, message_at, version_at, version_between, has_begun, message, reaction}
use Rattle.site_world.specs.Steps.{only, is_refused_memory, site_at, site_of, told_at, told_of_taking, told_of_stamping}
use Rattle.site_world.specs.Steps.{told_of_sending, told_of_reaction, told_of_message, absent, taken_in}
use Rattle.site_world.specs.Steps.{taken_by, answer_to, made_at, LAST_COUNTER, on_site, seen_by, after, Happens}

by_answer : (r : Option Op) (op : Op) (b : Bool) → is_refused_memory (cond b (Ok Known) (Err (Site Collision))) ≡ false
by_answer r op true = refl
by_answer r op false = refl

answer_is : (r : Option Op) (op : Op) → is_refused_memory (answer_to r op) ≡ false
answer_is None op = refl
answer_is (Some held) op = by_answer (Some held) op (same_op held op)

by_spoken : (m : Map) (op : Op) (b : Bool) → is_refused_memory (cond b (taken_by m op) (Err OldSite)) ≡ false
by_spoken m op true = answer_is (held_at m (digest_of op)) op
by_spoken m op false = refl

spoken_is : (version : Version) (m : Map) (op : Op) → is_refused_memory (taken_in version m op) ≡ false
spoken_is version m op = by_spoken m op (is_spoken version op)

by_taking : (op : Op) (r : Result Taken WorldFault) → is_refused_memory r ≡ false →
    is_refused_memory (told_of_taking op r).seen ≡ false
by_taking op (Ok taken) e = refl
by_taking op (Err fault) e = e

by_stamping : (stamp : Stamp) (op : Op) (r : Result Taken WorldFault) → is_refused_memory r ≡ false →
    is_refused_memory (told_of_stamping stamp op r).seen ≡ false
by_stamping stamp op (Ok taken) e = refl
by_stamping stamp op (Err fault) e = e

by_correcting : (version : Version) (m : Map) (stamp : Stamp) (op : Op) (is_bad is_spent : Bool)
    → is_refused_memory (cond is_bad (only (Err BadCorrection)) (cond is_spent (only (Err StampsSpent))
    (told_of_stamping
    stamp op (taken_in version m op)))).seen ≡ false
by_correcting version m stamp op true is_spent = refl
by_correcting version m stamp op false true = refl
by_correcting version m stamp op false false =
    by_stamping stamp op (taken_in version m op) (spoken_is version m op)

by_saying : (w : WorldState) (m : Map) (from to : ℕ) (says : Says)
    → is_refused_memory (told_of_reaction w m from to (reaction (version_between w.aged from to) m says)).seen ≡ false
by_saying w m from to (Have have) = refl
by_saying w m from to (Want want) = refl
by_saying w m from to (Give op) =
    by_taking op (taken_in (version_at w.aged to) m op) (spoken_is (version_at w.aged to) m op)
by_saying w m from to (says_buckets buckets) = refl
by_saying w m from to (Differ places) = refl

by_message : (w : WorldState) (m : Map) (r : Option Message)
    → is_refused_memory (told_of_message w m r).seen ≡ false
by_message w m None = refl
by_message w m (Some one) = by_saying w m one.from one.to one.says

by_opening : (w : WorldState) (from to : ℕ) (says : Says) (r : Option Map)
    → is_refused_memory (on_site NoSite r (λ _. told_of_sending Offered w.sent (message from to says))).seen ≡ false
by_opening w from to says None = refl
by_opening w from to says (Some m) = refl

by_aging : (n : ℕ) (b : Bool)
    → is_refused_memory (cond b (only (Err OldSite)) (record {
      seen = Ok Aged;
      brings = None;
      sends = [];
      ages = Some
          n;
    })).seen ≡ false
by_aging n true = refl
by_aging n false = refl

told_is : (w : WorldState) (m : Map) (step : Step) → is_refused_memory (told_at w m step).seen ≡ false
told_is w m (Take n op) = by_taking op (taken_in (version_at w.aged n) m op) (spoken_is (version_at w.aged n) m op)
told_is w m (Correct n target tag value) =
    let made = made_at n m target tag value in
    by_correcting (version_at w.aged n) m made.stamp (a_correction made) (not (is_correction made)) (top_counter_of
    (ops_of m) == LAST_COUNTER)
told_is w m (Offer from to) = by_opening w from to _ (site_at w.sites to)
told_is w m (Buckets from to) = by_opening w from to _ (site_at w.sites to)
told_is w m (Deliver number) = by_message w m (message_at w.sent number)
told_is w m (Old n) = by_aging n (has_begun w.sent n m)
told_is w m (Look n view query) = refl
told_is w m (Get n view selection accepts) = refl

absent_is : (step : Step) → is_refused_memory (only (Err (absent step))).seen ≡ false
absent_is (Take n op) = refl
absent_is (Correct n target tag value) = refl
absent_is (Offer from to) = refl
absent_is (Buckets from to) = refl
absent_is (Deliver number) = refl
absent_is (Old n) = refl
absent_is (Look n view query) = refl
absent_is (Get n view selection accepts) = refl

at_site : (w : WorldState) (step : Step) (r : Option Map)
    → is_refused_memory (on_site (absent step) r (λ m. told_at w m step)).seen ≡ false
at_site w step None = absent_is step
at_site w step (Some m) = told_is w m step

-- A step that is answered by definition is a step of a run.
pub step_happens : (w : WorldState) (step : Step) → Happens w step (seen_by w step) (after w step)
step_happens w step =
    subst (λ b. MatchBool b (after w step ≡ w) ((seen_by w step ≡ seen_by w step)
    × (after w step ≡ after w step)))
    (sym (at_site w step (site_at w.sites (site_of w.sent step)))) (refl, refl)
