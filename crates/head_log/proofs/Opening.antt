-- What an open leaves of a file.
use Rattle.std.proofs.Common.{◌≡◌, ◌≤◌, ◌<◌, [], ℕ, List, length, inl, inr, arith, sym, ◌∙◌, subst}
use Rattle.std.proofs.Common.{Result, Ok, Err, OnErr}
use Rattle.sqlite_disk.specs.declared.Disk.{Ghosts}
use Rattle.head_log.specs.declared.gate.Gate.{Gate}
use Rattle.head_log.specs.Gates.{EndsAt}
use Rattle.head_log.specs.Groups.{KeepsGroups, Ready, StandsFor, first_gate}
use Rattle.head_log.specs.Reads.{OnlyReads}
use Rattle.head_log.proofs.Gates.{one_end, ready_ends}
use Rattle.head_log.proofs.Laying.{none_yet}

-- groups end where the gates do
pub ready_at : (file : List ℕ) (end : Gate) (groups : List (List ℕ)) → 8 < length file → EndsAt file end
    → StandsFor file groups → Ready file end groups
ready_at file end groups long ends (inl ready) =
    let were = ready_ends file ready.0 groups ready.1 in
    let same = one_end file first_gate were.gates ends.gates ready.0 end were.leads were.shut ends.leads ends.shut in
    subst (λ (gate : Gate). Ready file gate groups) same ready.1
ready_at file end groups long ends (inr none) = absurd (omega (arith, none.0, long))

-- what holds, holds of an error
pub on_err : {T E P : Type 0} (result : Result T E) → P → OnErr result P
on_err (Ok x) holds = tt
on_err (Err e) holds = holds

module _ {D : Type 0} (g : Ghosts D) where
  -- two calls that only read are one
  pub reads_twice : (a b c : D) → OnlyReads g a b → OnlyReads g b c → OnlyReads g a c
  reads_twice a b c first second =
      record {
        seen = second.seen ∙ first.seen;
        clean = λ h. first.clean (second.clean h);
        usable = second.usable ∙ first.usable;
        crash = λ left may. first.crash left (second.crash left may);
      }

  -- a file that was not written stands for what it stood for
  pub kept_if_read : (old new : D) → g.seen new ≡ g.seen old → ((c : List ℕ) → g.may_leave new c → g.may_leave old c)
      → KeepsGroups g old new
  kept_if_read old new seen crash =
      record {
        same = λ long. seen;
        stands = λ groups was. subst (λ (file : List ℕ). StandsFor file groups) (sym seen) was;
        left = λ c may. (c, crash c may, λ groups was. was);
      }

  -- and so does one of eight bytes at most that was begun
  pub kept_if_begun : (old new : D) → ((file : D) → g.may_leave file (g.seen file)) → length (g.seen old) ≤ 8
      → ((c : List ℕ) → g.may_leave new c → StandsFor c []) → KeepsGroups g old new
  kept_if_begun old new may_stay short begun =
      record {
        same = λ long. absurd (omega (arith, short, long));
        stands = λ groups was.
            subst (λ (gs : List (List ℕ)). StandsFor (g.seen new) gs) (sym (none_yet (g.seen old) groups short was))
            (begun (g.seen new) (may_stay new));
        left = λ c may. (
          g.seen old,
          may_stay old,
          λ groups was. subst (λ (gs : List (List ℕ)). StandsFor c gs) (sym (none_yet (g.seen old) groups short was))
              (begun c may),
        );
      }
