-- Laws of what threads have accepted and which fault they tell.
use Rattle.std.proofs.Common.{◌≡◌, ◌⊎◌, ◌+◌, ◌*◌, ◌≤◌, ℕ, List, [], ◌∷◌, ◌++◌, length, min, suc}
use Rattle.std.proofs.Common.{refl, sym, subst, ap, inl, inr, ◌∙◌}
use Rattle.std.proofs.Common.{Bool, true, false, cond, Option, Some, None, IsSome, IsTrue, arith}
use mathlib.Core.List.{IsPrefix}
use Rattle.std.specs.Option.{option_or}
use Rattle.std.proofs.lemmas.Bool.{cases_lt, false≢true}
use Rattle.std.proofs.Math.Nat.{min-eq_left, min-eq_right, min-le_left, le_of_lt, le_trans, le-add_right}
use Rattle.std.proofs.Math.Nat.{add-le-add, le_refl, add-zero, add_assoc, add_comm, suc-mul}
use Rattle.std.proofs.lemmas.List.{length-append}
use Rattle.site_hub.specs.Hub.{Seat}
use Rattle.archive_server.specs.declared.fault.ServeFault.{ServeFault}
use Rattle.archive_server.specs.Done.{Deeds}
use Rattle.archive_server.specs.declared.job.Job.{Job}
use Rattle.archive_server.specs.declared.job.Job.TheVariants.{Associations}
use Rattle.archive_server.specs.Serving.{IsOnward, Task, HasServed, Tasks, Results, HaveServed, WasWritten}
use Rattle.archive_server.specs.Serving.{room_of, room_of_all, AddsBeside, AreJobs}
use Rattle.hub_exchange.proofs.PuttingLaws.{written_more}
use Rattle.hub_exchange.proofs.OnwardLaws.{onward_more}
use Rattle.archive_server.proofs.OnwardLaws.{all_self, all_behind, all_more, onward_self}

-- a count that stops at its greatest may stop early
pub min_more : (a b m : ℕ) → min (min a m + b) m ≡ min (a + b) m
min_more a b m = elim (cases_lt a m) as (λ _. min (min a m + b) m ≡ min (a + b) m) [
  | inl below ↦ ap (λ n. min (n + b) m) (min-eq_left (le_of_lt below))
  | inr above ↦ ap (λ n. min (n + b) m) (min-eq_right above) ∙ min-eq_right (le-add_right m b)
      ∙ sym (min-eq_right (le_trans above (le-add_right a b)))
]

-- a fault that is told stays told
pub told_first : (f g : Option ServeFault) → IsSome f → IsSome (option_or f g)
told_first None g told = absurd (false≢true told)
told_first (Some x) g told = refl

pub told_then : (f g : Option ServeFault) → IsSome g → IsSome (option_or f g)
told_then None g told = told
told_then (Some x) g told = refl

-- an accept that failed is a fault, unless the server was ended, which somebody may do
pub told_of_none : {E : Type 0} (ending : Option E) (is_ended : Bool) (before after : Option ServeFault) (x : ServeFault)
    (failed more : ℕ) → (IsTrue is_ended → IsSome ending) → after ≡ cond is_ended before (option_or before (Some x))
    → IsSome ending ⊎ IsSome before ⊎ (failed ≡ 0) → IsSome ending ⊎ IsSome after ⊎ (more ≡ 0)
told_of_none ending true before after x failed more may is so_far = inl (may refl)
told_of_none ending false before after x failed more may is so_far =
    inr (inl (subst (λ (f : Option ServeFault). IsSome f) (sym is) (told_then before (Some x) refl)))

-- what two have accepted is what both may, or one tells a fault, or somebody may end them
pub all_of_both : (ends : Bool) (a b limit own : ℕ) (f g : Option ServeFault)
    → IsTrue ends ⊎ IsSome f ⊎ (a ≡ min limit 18446744073709551615) → IsTrue ends ⊎ IsSome g ⊎ (b ≡ own)
    → IsTrue ends ⊎ IsSome (option_or f g)
    ⊎ (min (a + b) 18446744073709551615 ≡ min (limit + own) 18446744073709551615)
all_of_both ends a b limit own f g (inl may) other = inl may
all_of_both ends a b limit own f g (inr (inl told)) other = inr (inl (told_first f g told))
all_of_both ends a b limit own f g (inr (inr same)) (inl may) = inl may
all_of_both ends a b limit own f g (inr (inr same)) (inr (inl told)) = inr (inl (told_then f g told))
all_of_both ends a b limit own f g (inr (inr same)) (inr (inr one)) =
    inr (inr (rw (same, one) (min_more limit own 18446744073709551615)))

-- one more thread, whose pass stands behind the others
pub served_with : (these : List ℕ → Type 0) (tasks : Tasks) (results : Results) (task : Task) (deeds : Deeds)
    → task.ends ≡ tasks.ends → ((digest : List ℕ) → WasWritten deeds.clerk.known digest → these digest)
    → HaveServed these tasks results → HasServed task deeds
    → HaveServed these
    (record { before = tasks.before ++ task.before ∷ []; room = tasks.room + task.room; ends = tasks.ends })
    (record {
      passes = results.passes ++ deeds.clerk.pass ∷ [];
      accepted = min (results.accepted + deeds.accepted) 18446744073709551615;
      fault = option_or results.fault deeds.fault;
    })
served_with these tasks results task deeds same known before one = record {
  onward = all_behind these tasks.before results.passes task.before deeds.clerk.pass before.onward
      (onward_more (WasWritten deeds.clerk.known) these task.before deeds.clerk.pass known one.onward);
  most = le_trans (min-le_left (results.accepted + deeds.accepted) 18446744073709551615)
      (add-le-add before.most one.most);
  all = all_of_both tasks.ends results.accepted deeds.accepted tasks.room task.room results.fault deeds.fault before.all
      (subst (λ (ends : Bool). IsTrue ends ⊎ IsSome deeds.fault ⊎ (deeds.accepted ≡ task.room)) same one.all);
}

-- what is one of these is one of those
pub served_more : (these those : List ℕ → Type 0) (tasks : Tasks) (results : Results)
    → ((digest : List ℕ) → these digest → those digest) → HaveServed these tasks results
    → HaveServed those tasks results
served_more these those tasks results more served = record {
  onward = all_more these those tasks.before results.passes more served.onward;
  most = served.most;
  all = served.all;
}

-- nothing is no more than may be
pub none_most : (n : ℕ) → 0 ≤ n
none_most n = grind arith

-- all were accepted where none failed
all_where : (ends : Bool) (a failed limit : ℕ) (f : Option ServeFault) → a + failed ≡ limit
    → IsTrue ends ⊎ IsSome f ⊎ (failed ≡ 0) → IsTrue ends ⊎ IsSome f ⊎ (a ≡ limit)
all_where ends a failed limit f used (inl may) = inl may
all_where ends a failed limit f used (inr (inl fault)) = inr (inl fault)
all_where ends a failed limit f used (inr (inr none)) =
    inr (inr (sym (add-zero a) ∙ ap (λ n. a + n) (sym none) ∙ used))

-- who accepted so many times, of which those failed that a fault tells of, or that somebody may have made fail
pub served_by_all : (task : Task) (deeds : Deeds) → deeds.accepted + deeds.failed ≡ task.room
    → IsTrue task.ends ⊎ IsSome deeds.fault ⊎ (deeds.failed ≡ 0)
    → IsOnward (WasWritten deeds.clerk.known) task.before deeds.clerk.pass → HasServed task deeds
served_by_all task deeds used told one = record {
  onward = one;
  most = subst (λ n. deeds.accepted ≤ n) used (le-add_right deeds.accepted deeds.failed);
  all = all_where task.ends deeds.accepted deeds.failed task.room deeds.fault used told;
}

-- who accepted nothing, and tells why
pub told_alone : (task : Task) (deeds : Deeds) (fault : ServeFault) → deeds.clerk.pass ≡ task.before
    → deeds.accepted ≡ 0 → deeds.fault ≡ Some fault → HasServed task deeds
told_alone task deeds fault same none told = record {
  onward = subst (λ (s : Seat). IsOnward (WasWritten deeds.clerk.known) task.before s) (sym same)
      (onward_self (WasWritten deeds.clerk.known) task.before);
  most = subst (λ n. n ≤ task.room) (sym none) (none_most task.room);
  all = inr (inl (subst (λ (f : Option ServeFault). IsSome f) (sym told) refl));
}

-- who may accept nothing
pub served_none : (task : Task) (deeds : Deeds) → task.room ≡ 0 → deeds.accepted ≡ 0
    → IsOnward (WasWritten deeds.clerk.known) task.before deeds.clerk.pass → HasServed task deeds
served_none task deeds nothing none one = record {
  onward = one;
  most = subst (λ n. n ≤ task.room) (sym none) (none_most task.room);
  all = inr (inr (none ∙ sym nothing));
}

-- nothing was served, since memory was refused
pub served_refused : (these : List ℕ → Type 0) (tasks : Tasks) (fault : Option ServeFault) → IsSome fault
    → HaveServed these tasks (record { passes = tasks.before; accepted = 0; fault = fault })
served_refused these tasks fault told = record {
  onward = all_self these tasks.before;
  most = none_most tasks.room;
  all = inr (inl told);
}

-- with no job nothing is expected, and nothing was served
pub served_nothing : (these : List ℕ → Type 0) (ends : Bool) → HaveServed these
    (record { before = []; room = 0; ends = ends }) (record { passes = []; accepted = 0; fault = None })
served_nothing these ends = record { onward = tt; most = le_refl 0; all = inr (inr refl) }

-- what the jobs before the last may accept, and what the last one may
pub room_behind : {G : Type 0} (each : ℕ) (jobs : List (Job G)) (job : Job G)
    → room_of_all each (jobs ++ job ∷ []) ≡ room_of_all each jobs + room_of each job
room_behind each [] job = add_comm (room_of each job) 0
room_behind each (other ∷ jobs) job = ap (λ n. room_of each other + n) (room_behind each jobs job)
    ∙ sym (add_assoc (room_of each other) (room_of_all each jobs) (room_of each job))

-- one job more beside the workers
pub one_beside : {G : Type 0} (count : ℕ) (before after : List (Job G)) (job : Job G)
    → ((each : ℕ) → room_of each job ≡ 0) → AddsBeside count before after
    → AddsBeside (count + 1) before (after ++ job ∷ [])
one_beside count before after job none adds = record {
  more = length-append after (job ∷ []) ∙ (ap (λ n. n + 1) adds.more ∙ add_assoc (length before) count 1);
  room = λ each. room_behind each after job ∙ (ap (λ n. room_of_all each after + n) (none each)
      ∙ (add-zero (room_of_all each after) ∙ adds.room each));
}

-- a worker's job more
pub one_worker : {G : Type 0} (each : ℕ) (jobs : List (Job G)) (gate : G)
    → room_of_all each jobs ≡ length jobs * each
    → room_of_all each (jobs ++ Associations gate ∷ []) ≡ length (jobs ++ Associations gate ∷ []) * each
one_worker each jobs gate so = room_behind each jobs (Associations gate)
    ∙ (ap (λ n. n + each) so ∙ (sym (suc-mul (length jobs) each)
    ∙ ap (λ n. n * each) (let grown = length-append jobs (Associations gate ∷ []) in omega (arith, grown))))

-- what was handed on stands at the back, and what is left is one less
pub moved_on : {A B : Type 0} (xs : List A) (ys zs : List B) (x : A) (y : B) (n : ℕ) → ys ≡ y ∷ zs
    → length xs + length ys ≡ n → length (xs ++ x ∷ []) + length zs ≡ n
moved_on xs ys zs x y n is was =
    let grown : length (xs ++ x ∷ []) ≡ length xs + 1 = length-append xs (x ∷ []) in
    let left : length ys ≡ suc (length zs) = ap (λ l. length l) is in omega (arith, grown, left, was)

-- the jobs of the workers, and four times more behind them
pub jobs_and_more : {G : Type 0} (workers many more most last : ℕ) (v w x y z : List (Job G)) → AreJobs workers 0 v
    → AddsBeside many v w → AddsBeside more w x → AddsBeside most x y → AddsBeside last y z
    → AreJobs workers (many + more + most + last) z
jobs_and_more workers many more most last v w x y z first one two three four = record {
  count =
      let a = first.count in let b = one.more in let c = two.more in let d = three.more in let e = four.more in
      omega (arith, a, b, c, d, e);
  room = λ each. four.room each ∙ (three.room each ∙ (two.room each ∙ (one.room each ∙ first.room each)));
}

-- the last job with the last pass, whose thread was joined last: what it knew was compared with the whole ledger
pub served_last : {G : Type 0} (ledger compared : List (List ℕ)) (each : ℕ) (ends : Bool) (jobs : List (Job G))
    (job : Job G) (before after : List Seat) (pass : Seat) (accepted : ℕ) (fault : Option ServeFault) (task : Task)
    (deeds : Deeds) → task.before ≡ pass → task.room ≡ room_of each job → task.ends ≡ ends → compared ≡ ledger
    → IsPrefix deeds.clerk.known compared
    → HaveServed (WasWritten ledger) (record { before = before; room = room_of_all each jobs; ends = ends })
    (record { passes = after; accepted = accepted; fault = fault })
    → HasServed task deeds
    → HaveServed (WasWritten compared)
    (record { before = before ++ pass ∷ []; room = room_of_all each (jobs ++ job ∷ []); ends = ends })
    (record {
      passes = after ++ deeds.clerk.pass ∷ [];
      accepted = min (accepted + deeds.accepted) 18446744073709551615;
      fault = option_or fault deeds.fault;
    })
served_last ledger compared each ends jobs job before after pass accepted fault task deeds first room may same begins
    served one =
    let results : Results = record { passes = after; accepted = accepted; fault = fault } in
    let all : Results = record {
      passes = after ++ deeds.clerk.pass ∷ [];
      accepted = min (accepted + deeds.accepted) 18446744073709551615;
      fault = option_or fault deeds.fault;
    } in
    let tasks : Tasks = record { before = before; room = room_of_all each jobs; ends = ends } in
    subst (λ (s : Seat). HaveServed (WasWritten compared)
    (record { before = before ++ s ∷ []; room = room_of_all each (jobs ++ job ∷ []); ends = ends }) all) first
    (subst (λ (n : ℕ). HaveServed (WasWritten compared)
    (record { before = before ++ task.before ∷ []; room = n; ends = ends }) all)
    (ap (λ n. room_of_all each jobs + n) room ∙ sym (room_behind each jobs job))
    (served_with (WasWritten compared) tasks results task deeds may
    (written_more deeds.clerk.known compared begins)
    (subst (λ (l : List (List ℕ)). HaveServed (WasWritten l) tasks results) (sym same) served) one))

-- the same of what these lists and counts are
pub served_as : {G : Type 0} (these : List ℕ → Type 0) (each : ℕ) (ends : Bool) (jobs jobs' : List (Job G))
    (before before' passes passes' : List Seat) (accepted accepted' : ℕ) (fault fault' : Option ServeFault)
    → jobs ≡ jobs' → before ≡ before' → passes ≡ passes' → accepted ≡ accepted' → fault ≡ fault'
    → HaveServed these (record { before = before'; room = room_of_all each jobs'; ends = ends })
    (record { passes = passes'; accepted = accepted'; fault = fault' })
    → HaveServed these (record { before = before; room = room_of_all each jobs; ends = ends })
    (record { passes = passes; accepted = accepted; fault = fault })
served_as these each ends jobs jobs' before before' passes passes' accepted accepted' fault fault' a b c d e served =
    rw (a, b, c, d, e) served
