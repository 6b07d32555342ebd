-- What a look takes for the rows of a query: contents, and the values that corrections give them.
use Rattle.std.specs.Prelude.{◌≡◌, ◌==◌, ℕ, List, [], ◌∷◌, Option, Some, None, if◌then◌else◌}
use Rattle.std.specs.List.{filter_map}
use Rattle.std.specs.Map.{lookup}
use Rattle.std.specs.BTreeMap.{is_at}
use Rattle.operation.specs.declared.op.Op.{Op}
use Rattle.operation.specs.Parts.{ContentParts, own_value}
use Rattle.octets.specs.Members.{Has}
use Rattle.octets.specs.Texts.{same, text_cmp}
use Rattle.archive_model.specs.declared.view.View.{View}
use Rattle.archive_model.specs.Shown.{shown_at}
use Rattle.archive_model.specs.Attributes.{attribute}
use Rattle.data_set.specs.Set.{Set}
use Rattle.archive_model.specs.declared.asked.Asked.{Asked}
use Rattle.archive_model.specs.declared.query.Query.{Query}
use Rattle.archive_model.specs.Rows.{rows_with, rows_among, rows_of}

-- a tag and a value, where the corrected value of a key's attribute is not the content's own
abbrev pub fix_at : List Op → ContentParts → Asked → Option (ℕ × List ℕ)
fix_at ops c asked =
    if same (attribute ops c asked.tag) (own_value c asked.tag) then None
    else Some (asked.tag, attribute ops c asked.tag)

-- the values that corrections give a content, of the attributes that are asked
abbrev pub fixes_of : List Op → List Asked → ContentParts → List (ℕ × List ℕ)
fixes_of ops asked c = filter_map (fix_at ops c) asked

-- the first value of a tag among these, else this one
abbrev pub value_among : List ℕ → ℕ → List (ℕ × List ℕ) → List ℕ
value_among own tag [] = own
value_among own tag (f ∷ fs) = if f.0 == tag then f.1 else value_among own tag fs

abbrev pub these_or_none : Option (List (ℕ × List ℕ)) → List (ℕ × List ℕ)
these_or_none None = []
these_or_none (Some fs) = fs

-- what stands under a SOP Instance UID
abbrev pub fixes_under : List (List ℕ × List (ℕ × List ℕ)) → List ℕ → List (ℕ × List ℕ)
fixes_under fixes uid = these_or_none (lookup (is_at (text_cmp uid)) fixes)

-- what stands under each UID once fixes, if there are any, were put under one
abbrev pub fixes_put
    : List (List ℕ × List (ℕ × List ℕ)) → List ℕ → List (ℕ × List ℕ) → List ℕ → List (ℕ × List ℕ)
fixes_put fixes under [] uid = fixes_under fixes uid
fixes_put fixes under (f ∷ fs) uid = if is_at (text_cmp under) uid then f ∷ fs else fixes_under fixes uid

-- an attribute of a content, by what was taken
abbrev pub value_by : List (List ℕ × List (ℕ × List ℕ)) → ContentParts → ℕ → List ℕ
value_by fixes c tag = value_among (own_value c tag) tag (fixes_under fixes c.instance)

-- what was taken: contents, and under their SOP Instance UIDs the values that corrections give them
abbrev pub FoundValue : Type 0
FoundValue = List ContentParts × List (List ℕ × List (ℕ × List ℕ))

-- the rows of what was taken
abbrev pub rows_found : List ℕ → Query → FoundValue → List Set
rows_found called q found = rows_with (value_by found.1) called q found.0

-- the fixes of each of these contents stand under its UID, where one UID has one content's
abbrev pub AreFixes : List Op → List Asked → List ContentParts → List (List ℕ × List (ℕ × List ℕ)) → Type 0
AreFixes ops asked cs fixes = (told : List ℕ → List (ℕ × List ℕ))
    → ((c : ContentParts) → Has cs c → told c.instance ≡ fixes_of ops asked c)
    → (c : ContentParts) → Has cs c → fixes_under fixes c.instance ≡ fixes_of ops asked c

-- some contents are enough for the rows of a query: theirs are all, and each is shown
pub record AreEnough (view : View) (q : Query) (ops : List Op) (cs : List ContentParts) : Type 0 where
  pub rows : (called : List ℕ) → rows_among ops called q cs ≡ rows_of view called q ops
  pub shown : (c : ContentParts) → Has cs c → shown_at view ops c.instance ≡ Some c
