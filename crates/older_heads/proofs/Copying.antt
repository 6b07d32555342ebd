-- Groups are copied, one after another.
use Rattle.std.proofs.Common.{◌≡◌, ◌+◌, ◌≤◌, ◌<◌, ◌++◌, ◌∷◌, [], ℕ, List, length, sym, ◌∙◌, arith, ap, append_assoc}
use Rattle.std.proofs.Common.{refl}
use Rattle.std.proofs.Common.{Result, Ok, Err}
use Rattle.std.proofs.lemmas.List.{append-nil}
use Rattle.sqlite_disk.specs.declared.Disk.{Ghosts}
use Rattle.head_log.specs.declared.fault.HeadFault.{HeadFault}
use Rattle.head_log.specs.declared.fault.HeadFault.TheVariants.{Disk}
use Rattle.older_heads.specs.declared.renewing.RenewFault.{RenewFault}
use Rattle.older_heads.specs.declared.renewing.RenewFault.TheVariants.{Older, Newer}
use Rattle.older_heads.specs.Groups.{IsGroupAt, Laid}
use Rattle.older_heads.specs.declared.log.OlderHeads.{OlderHeads}
use Rattle.older_heads.specs.Log.{Looks}
use Rattle.older_heads.proofs.Walking.{in_order, no_more, laid_up}
use Rattle.head_log.proofs.Opening.{reads_twice}

-- The log has a front of the groups, and the others lie from an offset on.
pub record AreBehind (file : List ℕ) (at end : ℕ) (groups front : List (List ℕ)) : Type 0 where
  pub others : List (List ℕ)
  pub are : groups ≡ front ++ others
  pub laid : Laid file at others end

-- At first all groups are behind.
pub all_behind : (file : List ℕ) (end : ℕ) (groups : List (List ℕ)) → Laid file 0 groups end
    → AreBehind file 0 end groups []
all_behind file end groups laid = record { others = groups; are = refl; laid = laid }

-- one group more was copied
pub one_behind : (file : List ℕ) (at end : ℕ) (groups front : List (List ℕ)) (group : List ℕ)
    → AreBehind file at end groups front → at < end → IsGroupAt file at group
    → AreBehind file (at + 41 + length group) end groups (front ++ group ∷ [])
one_behind file at end groups front group left low it =
    let next = in_order file at end left.others group left.laid low it in
    record {
      others = next.0;
      are = left.are ∙ ap (λ (gs : List (List ℕ)). front ++ gs) next.1 ∙ sym (append_assoc front (group ∷ []) next.0);
      laid = next.2;
    }

-- at the end none is left
pub none_behind : (file : List ℕ) (at end : ℕ) (groups front : List (List ℕ)) → AreBehind file at end groups front
    → end ≤ at → front ≡ groups
none_behind file at end groups front left high =
    let none = no_more file at end left.others left.laid high in
    sym (left.are ∙ ap (λ (gs : List (List ℕ)). front ++ gs) none ∙ append-nil front)

-- before it stands a group
pub record Here (file : List ℕ) (at end : ℕ) : Type 0 where
  pub group : List ℕ
  pub stands : IsGroupAt file at group
  pub within : at + 41 + length group ≤ end

pub group_here : (file : List ℕ) (at end : ℕ) (groups front : List (List ℕ)) → AreBehind file at end groups front
    → at < end → Here file at end
group_here file at end groups front left low = by left.others left.laid
  where
    by : (others : List (List ℕ)) → Laid file at others end → Here file at end
    by [] laid = absurd (omega (arith, laid, low))
    by (group ∷ others) (here, rest) =
        record { group = group; stands = here; within = laid_up file (at + 41 + length group) others end rest }

-- two looks are one
pub looks_twice : {D : Type 0} (g : Ghosts D) (a b c : OlderHeads D) → Looks g a b → Looks g b c → Looks g a c
looks_twice g a b c first second =
    record {
      disk = reads_twice g a.disk b.disk c.disk first.disk second.disk;
      same = second.same ∙ first.same;
    }

-- the fault of one file or the other
abbrev pub fault_in : Result (Unit {0}) RenewFault → HeadFault
fault_in (Ok x) = Disk
fault_in (Err (Older fault)) = fault
fault_in (Err (Newer fault)) = fault
