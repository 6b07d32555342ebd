-- Why a desk makes no correction.
use Rattle.std.proofs.Common.{◌≡◌, ◌⊎◌, ◌∙◌, ℕ, List, Some, inl, inr, Result, Ok, Err, IfErr, refl, sym, ap}
use Rattle.http.specs.declared.request.Request.{Request}
use Rattle.operation.specs.Parts.{CorrectionParts}
use Rattle.site_state.specs.Site.{Map}
use Rattle.site_hub.proofs.Fronts.{prefix_self}
use Rattle.site_desk.specs.declared.fault.DeskFault.{DeskFault}
use Rattle.site_desk.specs.declared.fault.DeskFault.TheVariants.{Memory, Busy, NoChange, Shelf, Unshown}
use Rattle.site_desk.specs.declared.words.Words.{Words}
use Rattle.command_words.specs.declared.Change.{Change}
use Rattle.site_desk.specs.Making.{change_of, next_over}
use Rattle.site_desk.specs.Posting.{Says}
use Rattle.site_desk.specs.Requests.{posting_of}
use Rattle.site_desk.specs.Desks.{AtDesk, MakesNone, IsHeldUp, WhyUnmade, WhyRefused, WhyNone}

-- words that ask for no change leave the desk as it was
pub made_none : (opening : Map) (desk : AtDesk) (asks : Change → Type 0) (fault : DeskFault)
    → (fault ≡ NoChange) ⊎ (fault ≡ Memory) → MakesNone opening desk asks desk fault
made_none opening desk asks fault is = record {
  unshown = λ shown. absurd (elim is as (λ _. ⊥) [
    | inl unasked ↦ let e : NoChange ≡ Unshown = sym unasked ∙ shown in cc
    | inr memory ↦ let e : Memory ≡ Unshown = sym memory ∙ shown in cc
  ]);
  kept = inr (record { number = refl; seen = prefix_self desk.pass.seen; mine = refl });
}

-- its look was refused
pub unlooked : (fault : DeskFault) → (fault ≡ Busy) ⊎ (fault ≡ Memory) → IsHeldUp fault
unlooked fault is = elim is as (λ _. IsHeldUp fault) [
  | inl busy ↦ inr (inl busy)
  | inr memory ↦ inl memory
]

abbrev refusal : DeskFault → Result CorrectionParts DeskFault
refusal fault = Err fault

-- none comes next
pub none_next : (site top greatest : ℕ) (change : Change) (told fault : DeskFault) → top ≡ greatest → told ≡ fault
    → refusal fault ≡ next_over site top change → next_over site greatest change ≡ refusal told
none_next site top greatest change told fault same is next =
    ap (λ (t : ℕ). next_over site t change) (sym same) ∙ sym next ∙ ap refusal (sym is)

-- it was not kept, or is not shown
pub unkept : (fault : DeskFault) (P : Type 0) → (fault ≡ Unshown) ⊎ (((fault ≡ Memory) ⊎ (fault ≡ Shelf)) × P)
    → IsHeldUp fault
unkept fault P is = elim is as (λ _. IsHeldUp fault) [
  | inl unshown ↦ inr (inr (inr unshown))
  | inr kept ↦ elim kept.0 as (λ _. IsHeldUp fault) [
    | inl memory ↦ inl memory
    | inr shelf ↦ inr (inr (inl shelf))
  ]
]

-- what is not made of a change is not made of the words that ask for it
pub of_change : {A : Type 0} (opening : Map) (before after : AtDesk) (words : Words) (change : Change)
    (result : Result A DeskFault) → change_of words ≡ Some change
    → IfErr result (WhyUnmade opening before change after) → IfErr result (WhyRefused opening before words after)
of_change opening before after words change (Ok made) asks why = tt
of_change opening before after words change (Err fault) asks why = inr (change, asks, inr why)

-- and not of the request that says them
pub of_words : {A : Type 0} (opening : Map) (before after : AtDesk) (request : Request (List ℕ)) (words : Words)
    (result : Result A DeskFault) → Says (posting_of before.names request) words
    → IfErr result (WhyRefused opening before words after) → IfErr result (WhyNone opening before request after)
of_words opening before after request words (Ok made) says why = tt
of_words opening before after request words (Err fault) says why = inr (words, says, why)
