-- The data set of a content, with its corrections put in (PS3.4, B.4.1).
use Rattle.std.specs.Prelude.{◌≡◌, ◌⊎◌, ℕ, List, [], ◌∷◌, Option, Some, None, Bool, true, false, not, if◌then◌else◌}
use Rattle.std.specs.List.{list_any}
use Rattle.octets.specs.Padding.{trimmed}
use Rattle.data_set.specs.Tree.{Tree}
use Rattle.data_set.specs.Tags.{is_group_length}
use Rattle.data_set.specs.Texts.{Spells}
use Rattle.data_set.specs.Values.{value_in}
use Rattle.data_set.specs.Converted.{with_value}
use Rattle.dictionary.specs.Roles.{corrected_tags}
use Rattle.data_set.specs.Corrections.{correction_vr_of}
use Rattle.operation.specs.declared.op.Op.{Op}
use Rattle.operation.specs.Parts.{ContentParts, own_value}
use Rattle.archive_model.specs.Texts.{same}
use Rattle.archive_model.specs.Attributes.{attribute}
use Rattle.archive_model.specs.Members.{Has}

-- whether an attribute of a content has another value than the content's own
abbrev pub is_changed : List Op → ContentParts → ℕ → Bool
is_changed ops c tag = not (same (attribute ops c tag) (own_value c tag))

-- whether some attribute that a correction may give a value has
abbrev pub is_coerced : List Op → ContentParts → Bool
is_coerced ops c = list_any (is_changed ops c) corrected_tags

-- An attribute of this value representation is put in, padded, where it has another value than the content's own.
abbrev pub put_attribute : List Op → ContentParts → ℕ → Option (List ℕ) → List Tree → List Tree
put_attribute ops c tag None ts = ts
put_attribute ops c tag (Some vr) ts = if is_changed ops c tag then with_value c.syntax tag vr (attribute ops c tag) ts
    else ts

abbrev pub with_attribute : List Op → ContentParts → ℕ → List Tree → List Tree
with_attribute ops c tag ts = put_attribute ops c tag (correction_vr_of tag) ts

-- the same of several attributes
abbrev pub with_attributes : List Op → ContentParts → List ℕ → List Tree → List Tree
with_attributes ops c [] ts = ts
with_attributes ops c (tag ∷ tags) ts = with_attributes ops c tags (with_attribute ops c tag ts)

-- the elements of a content, each attribute that has another value put in
unfoldable pub coerced : List Op → ContentParts → List Tree → List Tree
coerced ops c ts = with_attributes ops c corrected_tags ts

-- these are a content's elements, as stored
abbrev pub AreStored : ContentParts → List Tree → Type 0
AreStored c ts = Spells c.syntax c.body ts

-- these are a content's elements, corrected
abbrev pub AreCoerced : List Op → ContentParts → List Tree → Type 0
AreCoerced ops c ts = (stored : List Tree) × AreStored c stored × (ts ≡ coerced ops c stored)

-- ---- what it means

-- an attribute that has another value is read again as this value
abbrev pub CoercedHasAttributes : Type 0
CoercedHasAttributes =
    (ops : List Op) (c : ContentParts) (ts : List Tree) (tag : ℕ) (vr : List ℕ)
    → is_group_length tag ≡ false → correction_vr_of tag ≡ Some vr → is_changed ops c tag ≡ true
    → value_in tag (coerced ops c ts) ≡ Some (trimmed (attribute ops c tag))

-- every other value is as it was: of an attribute that has the content's own value,
-- and of one that no correction may give a value
abbrev pub CoercedKeepsOthers : Type 0
CoercedKeepsOthers =
    (ops : List Op) (c : ContentParts) (ts : List Tree) (tag : ℕ)
    → is_group_length tag ≡ false → ((is_changed ops c tag ≡ false) ⊎ (correction_vr_of tag ≡ None))
    → value_in tag (coerced ops c ts) ≡ value_in tag ts

-- where every attribute that a correction may give a value has the content's own, nothing is put in
abbrev pub OwnIsNotCoerced : Type 0
OwnIsNotCoerced =
    (ops : List Op) (c : ContentParts)
    → ((tag : ℕ) → Has corrected_tags tag → attribute ops c tag ≡ own_value c tag)
    → is_coerced ops c ≡ false
