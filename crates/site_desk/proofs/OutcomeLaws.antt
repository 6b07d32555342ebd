-- A line that is found to be that of no reason is that of none.
use Rattle.std.proofs.Common.{◌≡◌, ◌≢◌, ℕ, List, [], ◌∷◌, Bool, true, false, Some, None, cond, refl, sym, ap}
use Rattle.std.proofs.Common.{◌∙◌, rules, length}
use Rattle.std.specs.Prelude.{◌==◌}
use Rattle.std.specs.List.{AllByRecursion}
use Rattle.std.proofs.lemmas.Option.{none-some}
use Rattle.octets.specs.Texts.{same}
use Rattle.site_desk.specs.declared.fault.DeskFault.{DeskFault}
use Rattle.site_desk.specs.declared.fault.DeskFault.TheVariants as Fault
use Rattle.site_desk.specs.Answers.{refusal_line}
use Rattle.site_desk.specs.Outcomes.{all_faults, fault_by}

-- a text is the same as itself
same_again : (text : List ℕ) → same text text ≡ true
same_again text = search rules

-- one more reason is not that of the line, and the others are not
one_more : (line : List ℕ) (fault : DeskFault) (faults : List DeskFault) (is : Bool)
    → same (refusal_line fault) line ≡ is
    → (fault_by line faults ≡ None → AllByRecursion (λ f. line ≢ refusal_line f) faults)
    → cond is (Some fault) (fault_by line faults) ≡ None
    → AllByRecursion (λ f. line ≢ refusal_line f) (fault ∷ faults)
one_more line fault faults true it others isnt = absurd (none-some fault (sym isnt))
one_more line fault faults false it others isnt = (
  λ e. let clash : true ≡ false = sym (same_again (refusal_line fault)) ∙ ap (same (refusal_line fault)) (sym e) ∙ it
      in cc,
  others isnt,
)

no_fault_in : (line : List ℕ) (faults : List DeskFault) → fault_by line faults ≡ None
    → AllByRecursion (λ f. line ≢ refusal_line f) faults
no_fault_in line [] isnt = tt
no_fault_in line (fault ∷ faults) isnt = one_more line fault faults _ refl (no_fault_in line faults) isnt

-- what holds of all reasons holds of each
of_each : (P : DeskFault → Type 0) (fault : DeskFault) → AllByRecursion P all_faults → P fault
of_each P Fault.ForeignHost all = all.0
of_each P Fault.NoPath all = all.1.0
of_each P Fault.NoPost all = all.1.1.0
of_each P Fault.HasOrigin all = all.1.1.1.0
of_each P Fault.NoKind all = all.1.1.1.1.0
of_each P Fault.NoForm all = all.1.1.1.1.1.0
of_each P Fault.NoObject all = all.1.1.1.1.1.1.0
of_each P Fault.NoChange all = all.1.1.1.1.1.1.1.0
of_each P Fault.BadKey all = all.1.1.1.1.1.1.1.1.0
of_each P Fault.BadTag all = all.1.1.1.1.1.1.1.1.1.0
of_each P Fault.BadValue all = all.1.1.1.1.1.1.1.1.1.1.0
of_each P Fault.NoSite all = all.1.1.1.1.1.1.1.1.1.1.1.0
of_each P Fault.StampsSpent all = all.1.1.1.1.1.1.1.1.1.1.1.1.0
of_each P Fault.Shelf all = all.1.1.1.1.1.1.1.1.1.1.1.1.1.0
of_each P Fault.Busy all = all.1.1.1.1.1.1.1.1.1.1.1.1.1.1.0
of_each P Fault.Unshown all = all.1.1.1.1.1.1.1.1.1.1.1.1.1.1.1.0
of_each P Fault.Memory all = all.1.1.1.1.1.1.1.1.1.1.1.1.1.1.1.1.0

-- the line is that of no reason
pub no_fault : (line : List ℕ) (fault : DeskFault) → fault_by line all_faults ≡ None → line ≢ refusal_line fault
no_fault line fault isnt = of_each (λ f. line ≢ refusal_line f) fault (no_fault_in line all_faults isnt)

-- a line of no byte is empty
pub empty_is : (line : List ℕ) → (length line == 0) ≡ true → line ≡ []
empty_is [] none = refl
empty_is (byte ∷ line) none = search rules
