-- Gates lead to one end, and the groups of a file stand behind them.
use Rattle.std.proofs.Common.{◌≡◌, ◌+◌, ◌≤◌, ◌<◌, ◌^◌, ◌∷◌, [], ◌++◌, inl, inr, ℕ, List, true, false, length}
use Rattle.std.proofs.Common.{sym, ◌∙◌, arith, subst, ap, refl}
use Rattle.std.specs.Int.{w64, to_le_bytes, from_le_bytes}
use Rattle.std.proofs.lemmas.Nat.{from_le_bytes-to_le_bytes_8}
use Rattle.sqlite_disk.specs.Disk.{Holds}
use Rattle.head_log.specs.declared.gate.Gate.{Gate}
use Rattle.head_log.specs.Gates.{EndsAt, IsCutAt, Leads, LeadsTo}
use Rattle.head_log.specs.Groups.{Laid, Ready, StandsFor, first_gate, gate_after, is_shut_at, sum_of}
use Rattle.head_log.proofs.Laying.{laid_up, same_gate}
use Rattle.head_log.proofs.Texts.{eight, front, once, sized, summed, wide}

-- at one offset stands one length
pub one_size : (file : List ℕ) (at m n : ℕ) → m < 2 ^ 64 → n < 2 ^ 64 → Holds file at (to_le_bytes w64 m)
    → Holds file at (to_le_bytes w64 n) → m ≡ n
one_size file at m n low few h k =
    let same = once file at (to_le_bytes w64 m) (to_le_bytes w64 n) (eight m ∙ sym (eight n)) h k in
    sym (from_le_bytes-to_le_bytes_8 m low) ∙ ap (from_le_bytes w64) same ∙ from_le_bytes-to_le_bytes_8 n few

-- so one gate leads to one
pub one_next : (file : List ℕ) (at : ℕ) (a b : Gate) → LeadsTo file at a → LeadsTo file at b → a ≡ b
one_next file at a b h k =
    let size = one_size file (at + 8) h.size k.size h.fits k.fits h.length_is k.length_is in
    same_gate a b (omega (arith, size, h.place, k.place))
    (once file (at + 16) a.prior b.prior (h.wide ∙ sym k.wide) h.sum_is k.sum_is)

-- behind the last gate stands one more
pub leads_more : (file : List ℕ) (from : Gate) (gates : List Gate) (end next : Gate) → Leads file from gates end
    → LeadsTo file end.at next → Leads file from (gates ++ next ∷ []) next
leads_more file from [] end next is it =
    subst (λ (gate : Gate). Leads file gate (next ∷ []) next) (sym is) (it, refl)
leads_more file from (gate ∷ gates) end next (first, rest) it = (first, leads_more file gate gates end next rest it)

-- a shut gate leads nowhere
shut_leads : (file : List ℕ) (from end next : Gate) → from ≡ end → is_shut_at file end.at ≡ true
    → LeadsTo file from.at next → ⊥
shut_leads file from end next is shut it =
    let here : is_shut_at file from.at ≡ true = ap (λ (gate : Gate). is_shut_at file gate.at) is ∙ shut in
    let other = it.not_shut in
    absurd cc

-- gates that lead to a shut one lead to no other such
pub one_end : (file : List ℕ) (from : Gate) (gates others : List Gate) (end last : Gate) → Leads file from gates end
    → is_shut_at file end.at ≡ true → Leads file from others last → is_shut_at file last.at ≡ true → end ≡ last
one_end file from [] [] end last is shut was closed = sym is ∙ was
one_end file from [] (n ∷ others) end last is shut was closed = absurd (shut_leads file from end n is shut was.0)
one_end file from (m ∷ gates) [] end last is shut was closed = absurd (shut_leads file from last m was closed is.0)
one_end file from (m ∷ gates) (n ∷ others) end last is shut was closed =
    let same = one_next file from.at n m was.0 is.0 in
    one_end file m gates others end last is.1 shut (subst (λ (gate : Gate). Leads file gate others last) same was.1)
    closed

-- nor to where none stands
pub never_cut : (file : List ℕ) (from : Gate) (gates others : List Gate) (end last : Gate) → Leads file from gates end
    → end.at + 8 ≤ length file → is_shut_at file end.at ≡ true → Leads file from others last
    → (last.at + 8 ≤ length file → is_shut_at file last.at ≡ false) → ((next : Gate) → ¬ LeadsTo file last.at next) → ⊥
never_cut file from [] [] end last is within shut was gate none =
    let place = ap (λ (g : Gate). g.at) (sym is ∙ was) in
    let here : is_shut_at file last.at ≡ true = ap (is_shut_at file) (sym place) ∙ shut in
    let other = gate (omega (arith, within, place)) in
    absurd cc
never_cut file from [] (n ∷ others) end last is within shut was gate none = shut_leads file from end n is shut was.0
never_cut file from (m ∷ gates) [] end last is within shut was gate none =
    none m (subst (λ (g : Gate). LeadsTo file g.at m) was is.0)
never_cut file from (m ∷ gates) (n ∷ others) end last is within shut was gate none =
    let same = one_next file from.at n m was.0 is.0 in
    never_cut file m gates others end last is.1 within shut
    (subst (λ (g : Gate). Leads file g others last) same was.1) gate none

pub not_cut : (file : List ℕ) (end : Gate) (at : ℕ) → EndsAt file end → ¬ IsCutAt file at
not_cut file end at ends cut =
    never_cut file first_gate ends.gates cut.gates end cut.last ends.leads ends.within ends.shut cut.leads
    (λ low. ap (is_shut_at file) cut.place ∙ cut.stuck.no_gate (omega (arith, low, cut.place)))
    (λ next it. cut.stuck.no_group next (subst (λ (n : ℕ). LeadsTo file n next) cut.place it))

-- the gates behind some groups
abbrev pub gates_of : Gate → List (List ℕ) → List Gate
gates_of from [] = []
gates_of from (group ∷ groups) = gate_after from group ∷ gates_of (gate_after from group) groups

-- groups stand behind gates that lead on
pub groups_lead : (file : List ℕ) (from : Gate) (groups : List (List ℕ)) (end : Gate) → end.at ≤ length file
    → Laid file from groups end → Leads file from (gates_of from groups) end
groups_lead file from [] end low is = is
groups_lead file from (group ∷ groups) end low (first, rest) =
    let up = laid_up file (gate_after from group) groups end rest in
    let sum = sum_of from.prior group in (
      record {
        size = length group;
        not_shut = first.not_shut;
        length_is = sized file from.at from.prior group first.text;
        fits = omega (arith, first.short);
        sum_is = front file (from.at + 16) sum group (summed file from.at from.prior group first.text);
        wide = wide from.prior group;
        place = refl;
        within = omega (arith, up, low);
      },
      groups_lead file (gate_after from group) groups end low rest,
    )

-- those that lie to where the gates end lie to that very gate
pub one_gate : (file : List ℕ) (end last : Gate) (groups : List (List ℕ)) → EndsAt file end
    → Laid file first_gate groups last → last.at ≡ end.at → last ≡ end
one_gate file end last groups ends laid place =
    let leads = groups_lead file first_gate groups last (omega (arith, ends.within, place)) laid in
    let shut : is_shut_at file last.at ≡ true = ap (is_shut_at file) place ∙ ends.shut in
    sym (one_end file first_gate ends.gates (gates_of first_gate groups) end last ends.leads ends.shut leads shut)

-- and are all
pub all_ready : (file : List ℕ) (end last : Gate) (groups : List (List ℕ)) → EndsAt file end
    → Laid file first_gate groups last → last.at ≡ end.at → Ready file end groups
all_ready file end last groups ends laid place =
    record {
      laid = subst (λ (gate : Gate). Laid file first_gate groups gate)
          (one_gate file end last groups ends laid place) laid;
      within = ends.within;
      shut = ends.shut;
    }

pub ready_ends : (file : List ℕ) (end : Gate) (groups : List (List ℕ)) → Ready file end groups → EndsAt file end
ready_ends file end groups ready =
    record {
      gates = gates_of first_gate groups;
      leads = groups_lead file first_gate groups end (omega (arith, ready.within)) ready.laid;
      within = ready.within;
      shut = ready.shut;
    }

-- so a file of groups is not cut
pub groups_not_cut : (file : List ℕ) (groups : List (List ℕ)) (at : ℕ) → StandsFor file groups → ¬ IsCutAt file at
groups_not_cut file groups at (inl ready) cut = not_cut file ready.0 at (ready_ends file ready.0 groups ready.1) cut
groups_not_cut file groups at (inr none) cut = absurd (omega (arith, none.0, cut.some))
