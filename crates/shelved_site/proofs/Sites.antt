-- The site of a store that stays.
use Rattle.std.proofs.Common.{◌≡◌, ℕ, List, ap, sym, ◌∙◌}
use Rattle.operation.specs.declared.op.Op.{Op}
use Rattle.operation.specs.declared.target.Target.{Target}
use Rattle.site_state.specs.Site.{Map, ops_of, top_counter_of}
use Rattle.site_hub.specs.Stamps.{next_correction, LAST_COUNTER}
use Rattle.site_hub.specs.declared.fault.HubFault.{HubFault}
use Rattle.shelved_site.specs.declared.correcting.Corrected.{Corrected}
use Rattle.shelved_site.specs.declared.fault.ShelvedFault.{ShelvedFault}
use Rattle.shelved_site.specs.declared.fault.ShelvedFault.TheVariants.{Shelf, Site, Hub, Hidden}
use Rattle.shelved_site.specs.Corrections.{IsCorrected, IsNext, IsSpent, IsUncorrected, IsUnmade, is_known}
use Rattle.op_shelf.specs.declared.fault.ShelfFault.{ShelfFault}
use Rattle.shelved_site.specs.Sites.{IsSiteOf, IsBeforeHub, IsBehindSite, IsOfStore}

-- what was the site of a store is that of one that lists the same
pub site_since : (old new : List Op → Type 0) (site opening : Map) → ((ops : List Op) → old ops → new ops)
    → opening ≡ site → IsSiteOf old site → IsSiteOf new opening
site_since old new site opening same is it = record {
  ops = it.ops;
  listed = same it.ops it.listed;
  took = is ∙ it.took;
}

-- what is refused before there is a hub is no fault of one
pub before_hub : (lists : List Op → Type 0) (number : ℕ) (target : Target) (tag : ℕ) (value : List ℕ) (e : ShelvedFault)
    → IsBeforeHub e → IsUncorrected lists number target tag value e
before_hub lists number target tag value (Shelf _) before = tt
before_hub lists number target tag value (Site _) before = tt
before_hub lists number target tag value (Hub _) before = absurd before
before_hub lists number target tag value Hidden before = tt

pub no_hub : (e : ShelvedFault) (fault : HubFault) → IsBeforeHub e → e ≡ Hub fault → ⊥
no_hub (Shelf _) fault before is = absurd cc
no_hub (Site _) fault before is = absurd cc
no_hub (Hub _) fault before is = before
no_hub Hidden fault before is = before

-- nor is it a refusal to open one
pub not_hidden : (e : ShelvedFault) → IsBeforeHub e → ¬ (e ≡ Hidden)
not_hidden (Shelf _) before is = absurd cc
not_hidden (Site _) before is = absurd cc
not_hidden (Hub _) before is = before
not_hidden Hidden before is = before

-- what is refused behind a site is no fault of its store
pub behind_site : (refuses : ShelfFault → Type 0) (e : ShelvedFault) → IsBehindSite e → IsOfStore refuses e
behind_site refuses (Shelf _) behind = absurd behind
behind_site refuses (Site _) behind = absurd behind
behind_site refuses (Hub _) behind = tt
behind_site refuses Hidden behind = tt

-- ---- corrections at the site of a store

module _ (lists : List Op → Type 0) (site : Map) (number : ℕ) (target : Target) (tag : ℕ) (value : List ℕ) where
  -- what comes next at the site comes next in the store
  pub corrected_in : (is_left : Op → Type 0) (told : Corrected) → IsSiteOf lists site
      → IsNext site is_left number target tag value told → IsCorrected lists is_left number target tag value told
  corrected_in is_left told it next = record {
    ops = it.ops;
    listed = it.listed;
    made = next.made;
    next = next.next ∙ ap (λ (m : Map). next_correction number m target tag value) it.took;
    stamped = next.stamped;
    known = next.known ∙ ap (λ (m : Map). is_known target (ops_of m)) it.took;
    lasts = next.lasts;
  }

  -- and what was not made there was not made in it
  pub unmade_in : (fault : ShelvedFault) → IsSiteOf lists site → IsUnmade site number target tag value fault
      → IsUncorrected lists number target tag value fault
  unmade_in (Shelf _) it unmade = tt
  unmade_in (Site _) it unmade = tt
  unmade_in Hidden it unmade = tt
  unmade_in (Hub fault) it unmade =
      (it.ops, it.listed, ap (λ (m : Map). next_correction number m target tag value) (sym it.took) ∙ unmade)

  -- the last counter at the site is the last in it
  pub spent_in : IsSiteOf lists site → top_counter_of (ops_of site) ≡ LAST_COUNTER → IsSpent lists
  spent_in it spent = record {
    ops = it.ops;
    listed = it.listed;
    spent = ap (λ (m : Map). top_counter_of (ops_of m)) (sym it.took) ∙ spent;
  }
