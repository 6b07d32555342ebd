-- The walk from group to group.
use Rattle.std.proofs.Common.{◌≡◌, ◌+◌, ◌<◌, ◌≤◌, ℕ, List, [], ◌∷◌, ◌++◌, length, map, All, refl, sym, ◌∙◌, ap, subst}
use Rattle.std.proofs.Common.{arith}
use Rattle.std.proofs.lemmas.List.{append-nil, map-append}
use Rattle.std.proofs.Common.{IsTrue}
use Rattle.sqlite_disk.specs.declared.Disk.{Ghosts}
use Rattle.head_log.specs.declared.gate.Gate.{Gate}
use Rattle.head_log.specs.declared.log.HeadLog.{HeadLog}
use Rattle.head_log.specs.Log.{Looks, disk_of, end_of}
use Rattle.head_log.specs.Gates.{EndsAt}
use Rattle.head_log.specs.Groups.{IsGroupAt, Laid, first_gate, gate_after, is_shut_at, joined}
use Rattle.head_log.proofs.Gates.{gates_of, groups_lead, one_end}
use Rattle.head_log.proofs.Laying.{joined_more, laid_more, laid_up}
use Rattle.head_log.proofs.Walking.{one_group as one_text}
use Rattle.op_log.specs.Filling.{AreFit, AreTaken}
use Rattle.op_log.specs.Heads.{Head, IsSpelled, group_text}
use Rattle.op_log.specs.Kept.{settled, with_heads}
use Rattle.op_log.specs.Walking.{AreLaid}
use Rattle.op_log.proofs.Settling.{with_joined}
use Rattle.op_log.proofs.Fitting.{all_front, all_behind, fit_all, fit_behind, fit_front, fit_joined, one_group}

-- one group more was walked
pub walked_more : (file : List ℕ) (at : Gate) (end : ℕ) (next : Gate) (old new : List Head) (text : List ℕ)
    → AreLaid file at end old → IsGroupAt file at text → next ≡ gate_after at text → AreTaken end old new text [] → AreLaid file next end new
walked_more file at end next old new text done it is taken =
    let text_is = taken.text_is ∙ append-nil (group_text taken.heads) in
    let here = subst (λ (t : List ℕ). IsGroupAt file at t) text_is it in
    let place : gate_after at (group_text taken.heads) ≡ next = ap (gate_after at) (sym text_is) ∙ sym is in
    record {
      groups = done.groups ++ taken.heads ∷ [];
      are = ap settled (joined_more done.groups taken.heads) ∙ with_joined [] (joined done.groups) taken.heads
          ∙ ap (λ (hs : List Head). with_heads hs taken.heads) done.are ∙ sym taken.new_is;
      laid = subst (λ (n : Gate). Laid file first_gate (map group_text (done.groups ++ taken.heads ∷ [])) n) place
          (subst (λ (ts : List (List ℕ)). Laid file first_gate ts (gate_after at (group_text taken.heads))) (sym (map-append group_text done.groups (taken.heads ∷ [])))
          (laid_more file first_gate (map group_text done.groups) at (group_text taken.heads) done.laid here));
      fit = subst (λ (hs : List Head). AreFit end [] hs) (sym (joined_more done.groups taken.heads))
          (fit_joined end [] (joined done.groups) taken.heads done.fit
          (subst (λ (hs : List Head). AreFit end hs taken.heads) (sym done.are) taken.fit));
    }

-- groups that lie up to where the gates end lie up to that gate
pub gate_is : (file : List ℕ) (gate end : Gate) (groups : List (List ℕ)) → Laid file first_gate groups gate → EndsAt file end
    → gate.at ≡ end.at → gate ≡ end
gate_is file gate end groups laid ends place =
    let shut = ap (is_shut_at file) place ∙ ends.shut in
    let leads = groups_lead file first_gate groups gate (omega (arith, ends.within, place)) laid in
    one_end file first_gate (gates_of first_gate groups) ends.gates gate end leads shut ends.leads ends.shut

-- heads that fit are spelled
pub spelled_of : (end : ℕ) (old xs : List Head) → AreFit end old xs → All IsSpelled xs
spelled_of end old xs fit = fit_all IsSpelled end old xs (λ h heads it. it.spelled) fit

-- Behind groups that were walked stands the next of all that lie there.
pub record Next (file : List ℕ) (at : Gate) (end : ℕ) (last : Gate) (old : List Head) : Type 0 where
  pub heads : List Head
  pub here : IsGroupAt file at (group_text heads)
  pub within : at.at + 48 + length (group_text heads) ≤ last.at
  pub fit : AreFit end old heads

pub next_of : (file : List ℕ) (from at : Gate) (end : ℕ) (last : Gate) (old : List Head) (groups others : List (List Head))
    → Laid file from (map group_text groups) at → AreFit end old (joined groups) → Laid file from (map group_text others) last
    → AreFit end old (joined others) → at.at < last.at → Next file at end last (with_heads old (joined groups))
next_of file from at end last old [] [] laid fit laid' fit' low =
    let same = ap (λ (gate : Gate). gate.at) (sym laid ∙ laid') in
    absurd (omega (arith, same, low))
next_of file from at end last old [] (k ∷ others) laid fit (here, rest) fit' low =
    record {
      heads = k;
      here = subst (λ (n : Gate). IsGroupAt file n (group_text k)) laid here;
      within =
          let place = ap (λ (gate : Gate). gate.at) laid in
          omega (arith, place, laid_up file (gate_after from (group_text k)) (map group_text others) last rest);
      fit = fit_front end old k (joined others) fit';
    }
next_of file from at end last old (g ∷ groups) [] (here, rest) fit laid' fit' low =
    let up = laid_up file (gate_after from (group_text g)) (map group_text groups) at rest in
    let place = ap (λ (gate : Gate). gate.at) laid' in
    absurd (omega (arith, up, place, low))
next_of file from at end last old (g ∷ groups) (k ∷ others) (here, rest) fit (here', rest') fit' low =
    let same_text = one_text file from (group_text g) (group_text k) here here' in
    let same = one_group g k (spelled_of end old g (fit_front end old g (joined groups) fit)) (spelled_of end old k (fit_front end old k (joined others) fit')) same_text in
    let next = next_of file (gate_after from (group_text g)) at end last (with_heads old g) groups others rest (fit_behind end old g (joined groups) fit)
    (subst (λ (n : Gate). Laid file n (map group_text others) last) (ap (gate_after from) (sym same_text)) rest')
    (subst (λ (hs : List Head). AreFit end (with_heads old hs) (joined others)) (sym same) (fit_behind end old k (joined others) fit')) low in
    subst (λ (hs : List Head). Next file at end last hs) (sym (with_joined old g (joined groups))) next

-- groups that lie between two gates are these
pub laid_once : (file : List ℕ) (from end : Gate) (xs ys : List (List ℕ)) → Laid file from xs end → Laid file from ys end → xs ≡ ys
laid_once file from end [] [] laid laid' = refl
laid_once file from end [] (y ∷ ys) laid (here, rest) =
    let place = ap (λ (gate : Gate). gate.at) laid in
    absurd (omega (arith, place, laid_up file (gate_after from y) ys end rest))
laid_once file from end (x ∷ xs) [] (here, rest) laid' =
    let place = ap (λ (gate : Gate). gate.at) laid' in
    absurd (omega (arith, place, laid_up file (gate_after from x) xs end rest))
laid_once file from end (x ∷ xs) (y ∷ ys) (here, rest) (here', rest') =
    let same = one_text file from x y here here' in
    let others = laid_once file (gate_after from x) end xs ys rest
    (subst (λ (n : Gate). Laid file n ys end) (ap (gate_after from) (sym same)) rest') in
    ap (λ (t : List ℕ). t ∷ xs) same ∙ ap (λ (ts : List (List ℕ)). y ∷ ts) others

-- and so are their heads
pub heads_once : (xs ys : List (List Head)) → All IsSpelled (joined xs) → All IsSpelled (joined ys)
    → map group_text xs ≡ map group_text ys → joined xs ≡ joined ys
heads_once [] [] all all' is = refl
heads_once [] (y ∷ ys) all all' is = absurd cc
heads_once (x ∷ xs) [] all all' is = absurd cc
heads_once (x ∷ xs) (y ∷ ys) all all' is =
    let first : group_text x ≡ group_text y = cc in
    let rest : map group_text xs ≡ map group_text ys = cc in
    let same = one_group x y (all_front IsSpelled x (joined xs) all) (all_front IsSpelled y (joined ys) all') first in
    let others = heads_once xs ys (all_behind IsSpelled x (joined xs) all) (all_behind IsSpelled y (joined ys) all') rest in
    ap (λ (hs : List Head). hs ++ joined xs) same ∙ ap (λ (hs : List Head). y ++ hs) others

-- two looks are one
pub looks_twice : {H : Type 0} (g : Ghosts H) (a b c : HeadLog H) → Looks g a b → Looks g b c → Looks g a c
looks_twice g a b c first second =
    record {
      disk = record {
        seen = second.disk.seen ∙ first.disk.seen;
        clean = λ h. first.disk.clean (second.disk.clean h);
        usable = second.disk.usable ∙ first.disk.usable;
        crash = λ left may. first.disk.crash left (second.disk.crash left may);
      };
      same = second.same ∙ first.same;
      stays = second.stays ∙ first.stays;
    }

-- a file that was only looked at reaches as far as it did
pub reach_on : {H : Type 0} (g : Ghosts H) (a b : HeadLog H) → Looks g a b
    → (IsTrue (g.is_clean (disk_of a)) → end_of a ≤ length (g.seen (disk_of a)))
    → IsTrue (g.is_clean (disk_of b)) → end_of b ≤ length (g.seen (disk_of b))
reach_on g a b looks reach clean =
    let many = ap (λ (file : List ℕ). length file) looks.disk.seen in
    let same = ap (λ (gate : Gate). gate.at) looks.same in
    omega (arith, same, many, reach (looks.disk.clean clean))

-- behind what was walked stands the next of all heads that lie there
pub next_in : (file : List ℕ) (at : Gate) (end : ℕ) (last : Gate) (heads them : List Head) → AreLaid file at end heads → AreLaid file last end them
    → at.at < last.at → Next file at end last heads
next_in file at end last heads them done all low =
    subst (λ (hs : List Head). Next file at end last hs) done.are
    (next_of file first_gate at end last [] done.groups all.groups done.laid done.fit all.laid all.fit low)
