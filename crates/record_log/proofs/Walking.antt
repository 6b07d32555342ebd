-- The walk from group to group.
use Rattle.std.proofs.Common.{◌≡◌, ◌+◌, ◌<◌, ◌≤◌, ℕ, List, [], ◌∷◌, ◌++◌, length, map, sym, ◌∙◌, ap, subst, append_assoc, arith}
use Rattle.std.proofs.Common.{Result, Ok, Err, IsErrOf}
use Rattle.std.specs.Result.{IsErrAnd}
use Rattle.std.proofs.lemmas.List.{append-nil, length-append, map-append}
use Rattle.std.proofs.lemmas.List.Concat.{flat_map-append}
use Rattle.sqlite_disk.specs.Disk.{MoreFaults}
use Rattle.head_log.specs.declared.gate.Gate.{Gate}
use Rattle.head_log.specs.Groups.{IsGroupAt, Laid, first_gate, gate_after, joined}
use Rattle.head_log.specs.Fault.{CountsDisk}
use Rattle.head_log.specs.declared.fault.HeadFault.{HeadFault}
use Rattle.head_log.specs.declared.fault.HeadFault.TheVariants.{Disk}
use Rattle.head_log.proofs.Laying.{laid_more, laid_up}
use Rattle.head_log.proofs.Walking.{one_group}
use Rattle.operation.specs.Parts.{ContentParts}
use Rattle.record_log.specs.Entries.{AreEachTold, AreTold, HasEntries, WereRead, entries_text, with_lengths}
use Rattle.record_log.proofs.Cutting.{told_front, told_behind}

-- These are some contents, in their order, and the groups from a gate on have the others.
pub record AreBehind (file : List ℕ) (gate end : Gate) (cs got : List ContentParts) : Type 0 where
  pub groups : List (List ContentParts)
  pub are : cs ≡ got ++ joined groups
  pub laid : Laid file gate (map entries_text groups) end
  pub told : AreEachTold (joined groups)

-- at first all are behind
pub all_behind : (file : List ℕ) (end : Gate) (cs : List ContentParts) → AreTold file end cs
    → AreBehind file first_gate end cs []
all_behind file end cs all =
    record {
      groups = all.groups;
      are = sym all.are;
      laid = all.laid;
      told = subst (λ (xs : List ContentParts). AreEachTold xs) (sym all.are) all.told;
    }

-- at the end none is
pub none_behind : (file : List ℕ) (gate end : Gate) (cs got : List ContentParts) → AreBehind file gate end cs got
    → end.at ≤ gate.at → got ≡ cs
none_behind file gate end cs got left high = by left.groups left.are left.laid
  where
    by : (groups : List (List ContentParts)) → cs ≡ got ++ joined groups → Laid file gate (map entries_text groups) end
        → got ≡ cs
    by [] are laid = sym (are ∙ append-nil got)
    by (g ∷ groups) are (here, rest) =
        let up = laid_up file (gate_after gate (entries_text g)) (map entries_text groups) end rest in
        absurd (omega (arith, up, high))

-- before it a group stands here
pub record Here (file : List ℕ) (gate end : Gate) : Type 0 where
  pub group : List ℕ
  pub stands : IsGroupAt file gate group
  pub within : gate.at + 48 + length group ≤ end.at

pub group_here : (file : List ℕ) (gate end : Gate) (cs got : List ContentParts) → AreBehind file gate end cs got
    → gate.at < end.at → Here file gate end
group_here file gate end cs got left low = by left.groups left.laid
  where
    by : (groups : List (List ContentParts)) → Laid file gate (map entries_text groups) end → Here file gate end
    by [] laid =
        let same = ap (λ (g : Gate). g.at) laid in
        absurd (omega (arith, same, low))
    by (g ∷ groups) (here, rest) =
        record {
          group = entries_text g;
          stands = here;
          within = laid_up file (gate_after gate (entries_text g)) (map entries_text groups) end rest;
        }

-- the one that was read has the entries of the next contents
pub record NextGroup (file group : List ℕ) (gate end : Gate) (cs got : List ContentParts) : Type 0 where
  pub first : List ContentParts
  pub text : group ≡ entries_text first
  pub told : AreEachTold first
  pub left : AreBehind file (gate_after gate group) end cs (got ++ first)

pub next_group : (file group : List ℕ) (gate end : Gate) (cs got : List ContentParts) → AreBehind file gate end cs got
    → gate.at < end.at → IsGroupAt file gate group → NextGroup file group gate end cs got
next_group file group gate end cs got left low it = by left.groups left.are left.laid left.told
  where
    by : (groups : List (List ContentParts)) → cs ≡ got ++ joined groups → Laid file gate (map entries_text groups) end
        → AreEachTold (joined groups) → NextGroup file group gate end cs got
    by [] are laid told =
        let same = ap (λ (g : Gate). g.at) laid in
        absurd (omega (arith, same, low))
    by (g ∷ groups) are (here, rest) told =
        let same = one_group file gate group (entries_text g) it here in
        record {
          first = g;
          text = same;
          told = told_front g (joined groups) told;
          left = record {
            groups = groups;
            are = are ∙ sym (append_assoc got g (joined groups));
            laid = subst (λ (text : List ℕ). Laid file (gate_after gate text) (map entries_text groups) end)
                (sym same) rest;
            told = told_behind g (joined groups) told;
          };
        }

-- ---- entries, whatever they tell

-- the groups up to a gate have so many
pub record HasEntriesTo (file : List ℕ) (gate : Gate) (count : ℕ) : Type 0 where
  pub groups : List (List (List ℕ))
  pub laid : Laid file first_gate (map with_lengths groups) gate
  pub count_is : count ≡ length (joined groups)

-- that gate stands where all groups end
pub entries_all : (file : List ℕ) (gate : Gate) (end count : ℕ) → HasEntriesTo file gate count → gate.at ≡ end
    → HasEntries file end count
entries_all file gate end count has place =
    record { groups = has.groups; last = gate; laid = has.laid; place = place; count_is = has.count_is }

-- one group more was read
pub entries_on : (file group : List ℕ) (gate : Gate) (old new : List ContentParts) → HasEntriesTo file gate (length old)
    → IsGroupAt file gate group → WereRead group old new → HasEntriesTo file (gate_after gate group) (length new)
entries_on file group gate old new has here read =
    let laid = laid_more file first_gate (map with_lengths has.groups) gate group has.laid here in
    let texts = ap (λ (t : List ℕ). map with_lengths has.groups ++ t ∷ []) read.is
    ∙ sym (map-append with_lengths has.groups (read.texts ∷ [])) in
    let whole = flat_map-append (λ (g : List (List ℕ)). g) has.groups (read.texts ∷ []) in
    let many = ap length whole in
    record {
      groups = has.groups ++ read.texts ∷ [];
      laid = subst (λ (ts : List (List ℕ)). Laid file first_gate ts (gate_after gate group)) texts laid;
      count_is = omega (
        arith,
        many,
        read.count,
        has.count_is,
        length-append (joined has.groups) (joined (read.texts ∷ [])),
        ap length (append-nil read.texts),
      );
    }

-- ---- faults

-- a fault that is handed on is the one that came
pub told_is : {T : Type 0} (r : Result T HeadFault) (came fault : HeadFault) → IsErrAnd r (λ it. it ≡ came)
    → IsErrOf r fault → came ≡ fault
told_is (Ok x) came fault is told = absurd is
told_is (Err e) came fault is told =
    let same : e ≡ fault = cc in
    sym is ∙ same

-- and the count of the disk's failures is that of the call that told it
pub counts_as : {T : Type 0} (r : Result T HeadFault) (came : HeadFault) (old new : ℕ) → IsErrAnd r (λ it. it ≡ came)
    → (came ≡ Disk → MoreFaults old new) → CountsDisk r old new
counts_as (Ok x) came old new is counts = absurd is
counts_as (Err e) came old new is counts = λ told. counts (sym is ∙ told)
