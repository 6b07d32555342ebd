-- Gates lead to one end, and the groups of a file stand behind them.
use Rattle.std.proofs.Common.{◌≡◌, ◌≢◌, ◌+◌, ◌≤◌, ◌<◌, ◌∷◌, [], ◌++◌, inl, inr, ℕ, List, length, map}
use Rattle.std.proofs.Common.{slice_index, sym, ◌∙◌, arith, subst, ap, refl}
use Rattle.head_log.proofs.Gates.{one_size}
use Rattle.older_heads.specs.Gates.{EndsAt, IsCutAt, IsOpenAt, Leads}
use Rattle.older_heads.specs.Groups.{Laid, Ready, StandsFor}
use Rattle.older_heads.proofs.Texts.{sized}
use Rattle.older_heads.proofs.Walking.{laid_up}

-- behind the last open gate stands one more
pub leads_more : (file : List ℕ) (at : ℕ) (sizes : List ℕ) (end n : ℕ) → Leads file at sizes end → IsOpenAt file end n
    → Leads file at (sizes ++ n ∷ []) (end + 41 + n)
leads_more file at [] end n is it =
    subst (λ (m : ℕ). Leads file m (n ∷ []) (end + 41 + n)) (sym is) (it, refl)
leads_more file at (m ∷ sizes) end n (first, rest) it = (first, leads_more file (at + 41 + m) sizes end n rest it)

-- gates that lead to one that is not open lead to no other such
pub one_end : (file : List ℕ) (at : ℕ) (sizes others : List ℕ) (end last : ℕ) → Leads file at sizes end
    → slice_index file end ≢ 1 → Leads file at others last → slice_index file last ≢ 1 → end ≡ last
one_end file at [] [] end last is shut was closed = sym is ∙ was
one_end file at [] (n ∷ others) end last is shut was closed =
    absurd (shut (ap (slice_index file) (sym is) ∙ was.0.gate))
one_end file at (m ∷ sizes) [] end last is shut was closed =
    absurd (closed (ap (slice_index file) (sym was) ∙ is.0.gate))
one_end file at (m ∷ sizes) (n ∷ others) end last is shut was closed =
    let same = one_size file (at + 1) n m was.0.fits is.0.fits was.0.size is.0.size in
    one_end file (at + 41 + m) sizes others end last is.1 shut
    (subst (λ (k : ℕ). Leads file (at + 41 + k) others last) same was.1) closed

-- nor to where none stands
pub never_cut : (file : List ℕ) (at : ℕ) (sizes others : List ℕ) (end last : ℕ) → Leads file at sizes end
    → end < length file → slice_index file end ≢ 1 → Leads file at others last
    → (last < length file → slice_index file last ≡ 1) → ((n : ℕ) → ¬ IsOpenAt file last n) → ⊥
never_cut file at [] [] end last is within shut was gate none =
    let here : end ≡ last = sym is ∙ was in
    shut (ap (slice_index file) here ∙ gate (omega (arith, within, here)))
never_cut file at [] (n ∷ others) end last is within shut was gate none =
    shut (ap (slice_index file) (sym is) ∙ was.0.gate)
never_cut file at (m ∷ sizes) [] end last is within shut was gate none =
    none m (subst (λ (k : ℕ). IsOpenAt file k m) was is.0)
never_cut file at (m ∷ sizes) (n ∷ others) end last is within shut was gate none =
    let same = one_size file (at + 1) n m was.0.fits is.0.fits was.0.size is.0.size in
    never_cut file (at + 41 + m) sizes others end last is.1 within shut
    (subst (λ (k : ℕ). Leads file (at + 41 + k) others last) same was.1) gate none

pub not_cut : (file : List ℕ) (end at : ℕ) → EndsAt file end → ¬ IsCutAt file at
not_cut file end at ends cut =
    never_cut file 0 ends.sizes cut.sizes end at ends.leads ends.within ends.shut cut.leads cut.stuck.no_gate
    cut.stuck.no_group

-- groups stand behind open gates
pub groups_lead : (file : List ℕ) (at : ℕ) (groups : List (List ℕ)) (end : ℕ) → end ≤ length file
    → Laid file at groups end
    → Leads file at (map length groups) end
groups_lead file at [] end low is = is
groups_lead file at (group ∷ groups) end low (first, rest) =
    let up = laid_up file (at + 41 + length group) groups end rest in (
      record {
        gate = first.gate;
        size = sized file at group first.text;
        fits = omega (arith, first.short);
        within = omega (arith, up, low);
      },
      groups_lead file (at + 41 + length group) groups end low rest,
    )

pub ready_ends : (file : List ℕ) (end : ℕ) (groups : List (List ℕ)) → Ready file end groups → EndsAt file end
ready_ends file end groups ready =
    record {
      sizes = map length groups;
      leads = groups_lead file 0 groups end (omega (arith, ready.within)) ready.laid;
      within = ready.within;
      shut = ready.shut;
    }

-- so a file of groups is not cut
pub groups_not_cut : (file : List ℕ) (groups : List (List ℕ)) (at : ℕ) → StandsFor file groups → ¬ IsCutAt file at
groups_not_cut file groups at (inl ready) cut = not_cut file ready.0 at (ready_ends file ready.0 groups ready.1) cut
groups_not_cut file groups at (inr none) cut = absurd (omega (arith, none.0, cut.some))

-- groups end where the gates do
pub laid_at : (file : List ℕ) (end : ℕ) (groups : List (List ℕ)) → 1 < length file → EndsAt file end
    → StandsFor file groups → Laid file 0 groups end
laid_at file end groups long ends (inl ready) =
    let were = ready_ends file ready.0 groups ready.1 in
    let same = one_end file 0 were.sizes ends.sizes ready.0 end were.leads were.shut ends.leads ends.shut in
    subst (λ (n : ℕ). Laid file 0 groups n) same ready.1.laid
laid_at file end groups long ends (inr none) = absurd (omega (arith, none.0, long))
