-- What is looked up of an attribute is its change.
use Rattle.std.proofs.Common.{◌≡◌, ℕ, false, List, Some, None, sym, ap, ◌∙◌}
use Rattle.std.specs.Prelude.{not, if◌then◌else◌}
use Rattle.operation.specs.declared.op.Op.{Op}
use Rattle.operation.specs.Parts.{ContentParts, own_value}
use Rattle.octets.specs.Texts.{same}
use Rattle.archive_model.specs.Attributes.{attribute}
use Rattle.archive_model.proofs.ModelLaws.{same_itself}
use Rattle.archive_query.specs.Changes.{changed_value}

-- an attribute that has the content's own value
pub unchanged : (ops : List Op) (c : ContentParts) (tag : ℕ) → attribute ops c tag ≡ own_value c tag
    → None ≡ changed_value ops c tag
unchanged ops c tag e =
    ap (λ b. if not b then Some (attribute ops c tag) else None)
    (sym (same_itself (attribute ops c tag) (own_value c tag) e))

-- and one that has another
pub changed : (ops : List Op) (c : ContentParts) (tag : ℕ) (value : List ℕ) → value ≡ attribute ops c tag
    → same value (own_value c tag) ≡ false → Some value ≡ changed_value ops c tag
changed ops c tag value e other =
    ap Some e ∙ ap (λ b. if not b then Some (attribute ops c tag) else None)
    (sym (ap (λ v. same v (own_value c tag)) (sym e) ∙ other))
