-- What a site takes stays, and of one digest it takes one operation alone.
use Rattle.std.proofs.Common.{◌≡◌, ℕ, List, [], ◌∷◌, ◌++◌, Option, Some, None, Ok, Err, Result, Bool, true, false, cond}
use Rattle.std.proofs.Common.{refl, sym, ap, subst, ◌∙◌, inl, inr, ◌⊎◌, ◌==◌}
use Rattle.std.specs.Prelude.{MatchBool, not}
use Rattle.std.specs.Option.{option_map}
use Rattle.std.specs.Ordering.{is_eq}
use Rattle.std.specs.Cmp.{tied_itself}
use Rattle.std.specs.Cmp.Lexicographic.{nat_list_cmp_total}
use Rattle.std.specs.BTreeMap.{is_at}
use Rattle.std.specs.FinMap.{get-insert}
use Rattle.std.proofs.lemmas.Bool.{eqb-true}
use Rattle.std.proofs.lemmas.Option.{same_Some as one_of}
use Rattle.operation.specs.declared.op.Op.{Op}
use Rattle.operation.specs.declared.op.Op.TheVariants.{Correction as a_correction}
use Rattle.operation.specs.Spelling.{digest_of}
use Rattle.operation.specs.Corrections.{is_correction}
use Rattle.operation.specs.declared.stamp.Stamp.{Stamp}
use Rattle.archive_model.specs.Members.{Has}
use Rattle.operation.specs.declared.taken.Taken.{Taken}
use Rattle.operation.specs.declared.taken.Taken.TheVariants.{Known}
use Rattle.site_state.specs.declared.fault.SiteFault.TheVariants.{Collision}
use Rattle.site_state.specs.Site.{Map, digest_cmp, held_at, with_op, ops_of, top_counter_of}
use Rattle.site_state.specs.Laws.{holding, Apart}
use Rattle.site_state.proofs.Maps.{tied}
use Rattle.site_world.specs.declared.fault.WorldFault.{WorldFault}
use Rattle.site_world.specs.declared.fault.WorldFault.TheVariants.{Site, NoSite, BadCorrection, StampsSpent, OldSite}
use Rattle.site_world.specs.declared.step.Step.{Step}
use Rattle.site_world.specs.declared.step.Step.TheVariants.{Take, Correct, Offer, Buckets, Deliver, Old, Look, Get}
use Rattle.site_world.specs.declared.step.Seen.{Seen}
use Rattle.site_world.specs.declared.step.Seen.TheVariants.{Offered, Aged}
use Rattle.site_world.specs.declared.message.Message.{Message}
use Rattle.site_world.specs.declared.message.Says.{Says}
use Rattle.site_world.specs.declared.message.Says.TheVariants.{Have, Want, Give, Buckets as says_buckets, Differ}
use Rattle.exchange.specs.declared.version.Version.{Version}
use Rattle.exchange.specs.Held.{is_spoken}
use Rattle.site_world.specs.Messages.{WorldState, message_at, version_at, version_between, has_begun, message, reaction}
use Rattle.site_world.specs.Steps.{only, is_refused_memory, site_at, site_of, told_at, told_of_taking, told_of_stamping}
use Rattle.site_world.specs.Steps.{told_of_sending, told_of_reaction, told_of_message, absent, taken_in}
use Rattle.site_world.specs.Steps.{taken_by, answer_to, made_at, LAST_COUNTER, on_site, seen_by, after, Happens}
use Rattle.site_world.specs.Runs.{Run, took, taken_at}
use Rattle.site_world.specs.Same.{same_op}
use Rattle.site_world.proofs.Codes.{same_op-is}
use Rattle.site_world.proofs.Taken.{these, told_took, memory_took, step_took, Front, front_front, run_stays, step_stays}
use Rattle.site_world.proofs.Taken.{took_later}

-- nothing lies under the digest of an operation, or the operation itself
abbrev pub Free : Map → Op → Type 0
Free m o = (held_at m (digest_of o) ≡ None) ⊎ (held_at m (digest_of o) ≡ Some o)

-- operations of which each was free when it was taken
abbrev pub Fits : Map → List Op → Type 0
Fits m [] = Unit {0}
Fits m (o ∷ ops) = Free m o × Fits (with_op m o) ops

-- ---- what fits stays

added : (m : Map) (o : Op) (d : List ℕ) → held_at (with_op m o) d
    ≡ cond (is_at (digest_cmp d) (digest_of o)) (Some o) (held_at m d)
added m o d = get-insert nat_list_cmp_total m (digest_of o) o d

-- An operation that was taken is held.
pub held_now : (m : Map) (o : Op) → held_at (with_op m o) (digest_of o) ≡ Some o
held_now m o =
    added m o (digest_of o)
    ∙ ap (λ b. cond b (Some o) (held_at m (digest_of o))) (ap is_eq (tied_itself nat_list_cmp_total (digest_of o)))

still : (m : Map) (o p : Op) (d : List ℕ) (b : Bool) → is_at (digest_cmp d) (digest_of o) ≡ b → Free m o
    → held_at m d ≡ Some p → cond b (Some o) (held_at m d) ≡ Some p
still m o p d false is free there = there
still m o p d true is (inl none) there = absurd (let e = sym none
    ∙ ap (held_at m) (sym (tied d (digest_of o) is)) ∙ there in cc)
still m o p d true is (inr some) there = sym some ∙ ap (held_at m) (sym (tied d (digest_of o) is)) ∙ there

-- What is held stays where an operation is taken that is free.
pub free_grows : (m : Map) (o : Op) (d : List ℕ) (p : Op) → Free m o → held_at m d ≡ Some p
    → held_at (with_op m o) d ≡ Some p
free_grows m o d p free there = added m o d ∙ still m o p d _ refl free there

free_keeps : (m : Map) (o p : Op) → Free m o → held_at m (digest_of p) ≡ Some p →
    held_at (with_op m o) (digest_of p) ≡ Some p
free_keeps m o p free there = free_grows m o (digest_of p) p free there

fits_keep : (m : Map) (ops : List Op) (p : Op) → Fits m ops → held_at m (digest_of p) ≡ Some p →
    held_at (holding m ops) (digest_of p) ≡ Some p
fits_keep m [] p fits there = there
fits_keep m (o ∷ ops) p (free, fits) there = fits_keep (with_op m o) ops p fits (free_keeps m o p free there)

-- Each operation that was taken is held.
pub fits_has : (m : Map) (ops : List Op) (p : Op) → Fits m ops → Has ops p →
    held_at (holding m ops) (digest_of p) ≡ Some p
fits_has m [] p fits has = absurd has
fits_has m (o ∷ ops) p (free, fits) (inl e) =
    fits_keep (with_op m o) ops p fits (subst (λ x. held_at (with_op m o) (digest_of x)
    ≡ Some x) (sym e) (held_now m o))
fits_has m (o ∷ ops) p (free, fits) (inr has) = fits_has (with_op m o) ops p fits has

-- Operations of one digest that are held are one.
pub fits_apart : (m : Map) (ops : List Op) → Fits m ops → Apart ops
fits_apart m ops fits o p one other same =
    one_of o p (sym (fits_has m ops o fits one) ∙ ap (held_at (holding m ops)) same ∙ fits_has m ops p fits other)

fits_append : (m : Map) (xs ys : List Op) → Fits m xs → Fits (holding m xs) ys → Fits m (xs ++ ys)
fits_append m [] ys fits more = more
fits_append m (x ∷ xs) ys (free, fits) more = (free, fits_append (with_op m x) xs ys fits more)

-- ---- what is answered Ok fits

free_by : (m : Map) (op held : Op) (taken : Taken) (b : Bool) → same_op held op ≡ b →
    held_at m (digest_of op) ≡ Some held
    → cond b (Ok Known) (Err (Site Collision)) ≡ Ok taken → Free m op
free_by m op held taken true same there answer = inr (there ∙ ap Some (same_op-is held op same))
free_by m op held taken false same there answer = absurd cc

free_where : (m : Map) (op : Op) (taken : Taken) (r : Option Op) → held_at m (digest_of op) ≡ r →
    answer_to r op ≡ Ok taken → Free m op
free_where m op taken None there answer = inl there
free_where m op taken (Some held) there answer = free_by m op held taken (same_op held op) refl there answer

free_of : (m : Map) (op : Op) (taken : Taken) → taken_by m op ≡ Ok taken → Free m op
free_of m op taken answer = free_where m op taken (held_at m (digest_of op)) refl answer

free_in : (m : Map) (op : Op) (taken : Taken) (b : Bool) → cond b (taken_by m op) (Err OldSite) ≡ Ok taken → Free m op
free_in m op taken true answer = free_of m op taken answer
free_in m op taken false answer = absurd cc

by_taking : (version : Version) (m : Map) (op : Op) (r : Result Taken WorldFault) → taken_in version m op ≡ r →
    Fits m (these (told_of_taking op r).brings)
by_taking version m op (Ok taken) is = (free_in m op taken (is_spoken version op) is, tt)
by_taking version m op (Err fault) is = tt

by_stamping : (version : Version) (m : Map) (stamp : Stamp) (op : Op) (r : Result Taken WorldFault) → taken_in version m
    op ≡ r → Fits m (these (told_of_stamping stamp op r).brings)
by_stamping version m stamp op (Ok taken) is = (free_in m op taken (is_spoken version op) is, tt)
by_stamping version m stamp op (Err fault) is = tt

by_correcting : (version : Version) (m : Map) (stamp : Stamp) (op : Op) (is_bad is_spent : Bool)
    → Fits m (these (cond is_bad (only (Err BadCorrection)) (cond is_spent (only (Err StampsSpent)) (told_of_stamping
    stamp op (taken_in version m op)))).brings)
by_correcting version m stamp op true is_spent = tt
by_correcting version m stamp op false true = tt
by_correcting version m stamp op false false = by_stamping version m stamp op (taken_in version m op) refl

by_saying : (w : WorldState) (m : Map) (from to : ℕ) (says : Says)
    → Fits m (these (told_of_reaction w m from to (reaction (version_between w.aged from to) m says)).brings)
by_saying w m from to (Have have) = tt
by_saying w m from to (Want want) = tt
by_saying w m from to (Give op) = by_taking (version_at w.aged to) m op (taken_in (version_at w.aged to) m op) refl
by_saying w m from to (says_buckets buckets) = tt
by_saying w m from to (Differ places) = tt

by_message : (w : WorldState) (m : Map) (r : Option Message) → Fits m (these (told_of_message w m r).brings)
by_message w m None = tt
by_message w m (Some one) = by_saying w m one.from one.to one.says

by_opening : (w : WorldState) (m : Map) (from to : ℕ) (says : Says) (r : Option Map)
    → Fits m (these (on_site NoSite r (λ _. told_of_sending Offered w.sent (message from to says))).brings)
by_opening w m from to says None = tt
by_opening w m from to says (Some other) = tt

by_aging : (m : Map) (n : ℕ) (b : Bool)
    → Fits m (these (cond b (only (Err OldSite)) (record {
      seen = Ok Aged;
      brings = None;
      sends = [];
      ages = Some
          n;
    })).brings)
by_aging m n true = tt
by_aging m n false = tt

pub told_fits : (w : WorldState) (m : Map) (step : Step) → Fits m (these (told_at w m step).brings)
told_fits w m (Take n op) = by_taking (version_at w.aged n) m op (taken_in (version_at w.aged n) m op) refl
told_fits w m (Correct n target tag value) =
    let made = made_at n m target tag value in
    by_correcting (version_at w.aged n) m made.stamp (a_correction made) (not (is_correction made)) (top_counter_of
    (ops_of m) == LAST_COUNTER)
told_fits w m (Offer from to) = by_opening w m from to _ (site_at w.sites to)
told_fits w m (Buckets from to) = by_opening w m from to _ (site_at w.sites to)
told_fits w m (Deliver number) = by_message w m (message_at w.sent number)
told_fits w m (Old n) = by_aging m n (has_begun w.sent n m)
told_fits w m (Look n view query) = tt
told_fits w m (Get n view selection accepts) = tt

took_fits : (w : WorldState) (m : Map) (step : Step) → Fits m (took w.sent step (told_at w m step).seen)
took_fits w m step = subst (Fits m) (sym (told_took w m step)) (told_fits w m step)

by_memory : (b : Bool) (old new : WorldState) (step : Step) (answer : Result Seen WorldFault) (m : Map) →
    is_refused_memory answer ≡ b
    → MatchBool b (new ≡ old) ((answer ≡ seen_by old step) × (new ≡ after old step))
    → site_at old.sites (site_of old.sent step) ≡ Some m → Fits m (took old.sent step answer)
by_memory true old new step answer m is same at = subst (Fits m) (sym (memory_took old.sent step answer is)) tt
by_memory false old new step answer m is (seen, now) at =
    subst (λ a. Fits m (took old.sent step a))
    (sym (seen ∙ ap (λ r. (on_site (absent step) r (λ x. told_at old x step)).seen) at)) (took_fits old m step)

here_or_not : (b : Bool) (m : Map) (ops : List Op) → (b ≡ true → Fits m ops) → Fits m (cond b ops [])
here_or_not true m ops fits = fits refl
here_or_not false m ops fits = tt

step_fits : (old new : WorldState) (step : Step) (answer : Result Seen WorldFault) (n : ℕ) (m : Map) →
    Happens old step answer new
    → site_at old.sites n ≡ Some m → Fits m (cond (site_of old.sent step == n) (took old.sent step answer) [])
step_fits old new step answer n m happens at =
    here_or_not (site_of old.sent step == n) m (took old.sent step answer) (λ e.
    by_memory (is_refused_memory answer) old new step answer m refl happens (ap (site_at old.sites) (eqb-true (site_of
    old.sent step) n e) ∙ at))

-- What a run takes at a site fits there.
pub run_fits : (old new : WorldState) (steps : List Step) (answers : List (Result Seen WorldFault)) (all : List Message)
    (n : ℕ) (m : Map) → Run old steps answers new → Front new.sent all → site_at old.sites n ≡ Some m
    → Fits m (taken_at all n steps answers)
run_fits old new [] [] all n m run begins at = tt
run_fits old new [] (a ∷ answers) all n m run begins at = absurd run
run_fits old new (s ∷ steps) [] all n m run begins at = absurd run
run_fits old new (s ∷ steps) (a ∷ answers) all n m (mid, first, rest) begins at =
    let since = front_front mid.sent new.sent all (run_stays mid new steps answers rest) begins in
    let from = front_front old.sent mid.sent all (step_stays old mid s a first) since in
    let here = cond (site_of old.sent s == n) (took old.sent s a) [] in
    subst (λ (ops : List Op). Fits m (ops ++ taken_at all n steps answers)) (sym (took_later old mid s a all n first
    from))
    (fits_append m here (taken_at all n steps answers) (step_fits old mid s a n m first at)
    (run_fits mid new steps answers all n (holding m here) rest begins (step_took old mid s a n first
    ∙ ap (option_map (λ x. holding x here)) at)))
