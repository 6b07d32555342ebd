-- The correction that comes next, and what is true whatever came of it.
use Rattle.std.proofs.Common.{◌≡◌, ◌∙◌, ◌+◌, ◌≤◌, ℕ, max, Bool, true, false, List, Result, Ok, Err, OnOk, ap, arith}
use Rattle.std.proofs.Common.{subst}
use mathlib.Core.List.{IsPrefix}
use Rattle.std.specs.Prelude.{◌==◌, if◌then◌else◌}
use Rattle.std.proofs.Math.Nat.{le-max_right}
use Rattle.operation.specs.declared.fault.OpFault.TheVariants.{BadCorrection}
use Rattle.operation.specs.declared.stamp.Stamp.{Stamp}
use Rattle.operation.specs.Corrections.{is_correction}
use Rattle.operation.specs.Parts.{CorrectionParts}
use Rattle.site_desk.specs.declared.fault.DeskFault.{DeskFault}
use Rattle.site_desk.specs.declared.fault.DeskFault.TheVariants.{StampsSpent}
use Rattle.command_words.specs.declared.Change.{Change}
use Rattle.site_hub.specs.Stamps.{LAST_COUNTER, made_with}
use Rattle.hub_exchange.specs.Putting.{WasWritten}
use Rattle.hub_exchange.proofs.PuttingLaws.{written_more}
use Rattle.site_desk.specs.Making.{made_by, next_over}

pub on_ok : {A B P : Type 0} (r : Result A B) → P → OnOk r P
on_ok (Ok a) p = p
on_ok (Err e) p = tt

-- what stands in the beginning of a ledger that came with an answer stands in what is known of it since
pub written_since : (front known : List (List ℕ)) (told digest : List ℕ) → IsPrefix front known → told ≡ digest
    → WasWritten front told → WasWritten known digest
written_since front known told digest begins is written =
    written_more front known begins digest (subst (WasWritten front) is written)

abbrev pub told : CorrectionParts → Result CorrectionParts DeskFault
told parts = Ok parts

made_from : (b k : Bool) (c parts : CorrectionParts)
    → told parts ≡ (if b then Err StampsSpent else made_by (if k then Ok c else Err BadCorrection)) → parts ≡ c
made_from true k c parts e = absurd cc
made_from false true c parts e = cc
made_from false false c parts e = absurd cc

-- what comes next has one counter more
pub made_is : (site top : ℕ) (change : Change) (parts : CorrectionParts) → told parts ≡ next_over site top change
    → parts ≡ made_with (top + 1) site change.target change.tag change.value
made_is site top change parts e =
    made_from (top == LAST_COUNTER) (is_correction (made_with (top + 1) site change.target change.tag change.value))
    (made_with (top + 1) site change.target change.tag change.value) parts e

-- so it is greater than the last that was made
pub last_rises : (site top last held : ℕ) (change : Change) (parts : CorrectionParts) (stamp : Stamp) → top ≡ max held last
    → told parts ≡ next_over site top change → stamp ≡ parts.stamp → last ≤ stamp.counter
last_rises site top last held change parts stamp greatest next is =
    let counter : stamp.counter ≡ top + 1
    = ap (λ (s : Stamp). s.counter) is ∙ ap (λ (p : CorrectionParts). p.stamp.counter) (made_is site top change parts next) in
    let above : last ≤ max held last = le-max_right held last in omega (arith, counter, greatest, above)
