-- A correction that is refused changes nothing.
use Rattle.std.proofs.Common.{◌≡◌, ℕ, List, Bool, true, false, cond, Option, None, Some, Result, Ok, Err, OnErr, refl}
use Rattle.std.proofs.Common.{sym, subst, ◌∙◌}
use Rattle.std.specs.Prelude.{MatchBool, not, ◌==◌}
use Rattle.operation.specs.declared.op.Op.{Op}
use Rattle.operation.specs.declared.op.Op.TheVariants.{Correction as a_correction}
use Rattle.operation.specs.declared.stamp.Stamp.{Stamp}
use Rattle.operation.specs.declared.taken.Taken.{Taken}
use Rattle.operation.specs.declared.target.Target.{Target}
use Rattle.operation.specs.Corrections.{is_correction}
use Rattle.site_state.specs.Site.{Map, ops_of, top_counter_of}
use Rattle.site_world.specs.declared.fault.WorldFault.{WorldFault}
use Rattle.site_world.specs.declared.fault.WorldFault.TheVariants.{NoSite, BadCorrection, StampsSpent}
use Rattle.site_world.specs.declared.step.Seen.{Seen}
use Rattle.site_world.specs.declared.step.Step.TheVariants.{Correct}
use Rattle.site_world.specs.Messages.{WorldState, version_at}
use Rattle.site_world.specs.Steps.{Comes, Happens, LAST_COUNTER, Told, is_refused_memory, made_at, on_site, only, site_at}
use Rattle.site_world.specs.Steps.{taken_in, told_of_correcting, told_of_stamping, with_told}

module _ (w : WorldState) (n : ℕ) where
  -- what is told only refuses, or brings something
  abbrev Keeps : Told → Type 0
  Keeps t = OnErr t.seen (with_told w n t ≡ w)

  by_stamping : (stamp : Stamp) (op : Op) (r : Result Taken WorldFault) → Keeps (told_of_stamping stamp op r)
  by_stamping stamp op (Ok taken) = tt
  by_stamping stamp op (Err fault) = refl

  by_tests : (is_bad is_spent : Bool) (t : Told) → Keeps t
      → Keeps (cond is_bad (only (Err BadCorrection)) (cond is_spent (only (Err StampsSpent)) t))
  by_tests true is_spent t keeps = refl
  by_tests false true t keeps = refl
  by_tests false false t keeps = keeps

  by_correcting : (target : Target) (tag : ℕ) (value : List ℕ) (r : Option Map)
      → Keeps (on_site NoSite r (λ m. told_of_correcting (version_at w.aged n) m (made_at n m target tag value)))
  by_correcting target tag value None = refl
  by_correcting target tag value (Some m) =
      let made = made_at n m target tag value in
      by_tests (not (is_correction made)) (top_counter_of (ops_of m) == LAST_COUNTER)
      (told_of_stamping made.stamp (a_correction made) (taken_in (version_at w.aged n) m (a_correction made)))
      (by_stamping made.stamp (a_correction made) (taken_in (version_at w.aged n) m (a_correction made)))

  comes_refused : (t : Told) (answer : Result Seen WorldFault) (new : WorldState) → Keeps t → Comes w n t answer new
      → OnErr answer (new ≡ w)
  comes_refused t (Ok seen) new keeps comes = tt
  comes_refused t (Err fault) new keeps comes = by (is_refused_memory (seen_as fault)) comes
    where
      seen_as : WorldFault → Result Seen WorldFault
      seen_as f = Err f

      by : (b : Bool) → MatchBool b (new ≡ w) ((seen_as fault ≡ t.seen) × (new ≡ with_told w n t)) → new ≡ w
      by true same = same
      by false (is, same) =
          same ∙ subst (λ (r : Result Seen WorldFault). OnErr r (with_told w n t ≡ w)) (sym is) keeps

pub correct_refused : (old new : WorldState) (n : ℕ) (target : Target) (tag : ℕ) (value : List ℕ)
    (answer : Result Seen WorldFault) → Happens old (Correct n target tag value) answer new → OnErr answer (new ≡ old)
correct_refused old new n target tag value answer happens =
    comes_refused old n
    (on_site NoSite (site_at old.sites n) (λ m. told_of_correcting (version_at old.aged n) m (made_at n m target tag value)))
    answer new (by_correcting old n target tag value (site_at old.sites n)) happens
