-- Among which SOP Instance UIDs the contents of a selection are, by the picks of an index.
use Rattle.std.specs.Prelude.{◌≡◌, ℕ, List, true, Option, Some}
use Rattle.octets.specs.Texts.{text_cmp}
use Rattle.operation.specs.Parts.{ContentParts}
use Rattle.study_index.specs.Keys.{has}
use Rattle.study_index.specs.Live.{Text, Pick, pick_at}
use Rattle.study_index.specs.Index.{pick_of}
use Rattle.archive_model.specs.declared.selection.Selection.{Selection}
use Rattle.archive_model.specs.Selection.{is_selected}

-- every content that is picked and is in a selection is of one of these UIDs
abbrev pub ReachesAll : Selection → List (Text × Option Pick) → List (List ℕ) → Type 0
ReachesAll s picks uids = (c : ContentParts) → pick_at c.instance picks ≡ Some (pick_of c) → is_selected s c ≡ true
    → has text_cmp uids c.instance ≡ true
