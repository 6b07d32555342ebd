-- What is rejected is in no row and in no count (IHE RAD-66).
use Rattle.std.specs.Prelude.{◌≡◌, ◌≢◌, List, ℕ, ◌∷◌, Some, None, IsTrue, not}
use Rattle.std.specs.List.{filter}
use Rattle.data_set.specs.Set.{Set}
use Rattle.rejection_note.specs.declared.note.Note.{Note}
use Rattle.operation.specs.declared.op.Op.{Op}
use Rattle.operation.specs.declared.op.Op.TheVariants.{Content as a_content}
use Rattle.operation.specs.Parts.{ContentParts}
use Rattle.archive_model.specs.Members.{Has}
use Rattle.archive_model.specs.Shown.{shown}
use Rattle.archive_model.specs.View.{hides}
use Rattle.archive_model.specs.Index.{is_content_of}
use Rattle.archive_model.specs.declared.view.View.{View}
use Rattle.archive_model.specs.declared.query.Query.{Query}
use Rattle.archive_model.specs.Rows.{row, rows_of}
use Rattle.site_state.specs.Site.{Map, ops_of}
use Rattle.site_world.specs.Headline.{SiteOf}

-- Each row is made of shown contents, none of which is of this instance: the first of them is its representative, and
-- its counts are theirs.
abbrev pub IsInNoRow : View → List ℕ → List Op → Type 0
IsInNoRow view uid ops =
    (called : List ℕ) (query : Query) (r : Set) → Has (rows_of view called query ops) r
    → (c : ContentParts) × (cs : List ContentParts)
    × (r ≡ row ops called query (c ∷ cs) c)
    × ((x : ContentParts) → Has (c ∷ cs) x → Has (shown view ops) x × (x.instance ≢ uid))

-- the operations of a set but for the contents of an instance
abbrev pub without : List ℕ → List Op → List Op
without uid ops = filter (λ o. not (is_content_of uid o)) ops

-- Every query is answered as if no content of this instance had been stored.
abbrev pub IsAsIfNeverStored : View → List ℕ → List Op → Type 0
IsAsIfNeverStored view uid ops =
    (called : List ℕ) (query : Query) → rows_of view called query ops ≡ rows_of view called query (without uid ops)

-- A note was taken, before or after what it names; its title hides in the view, and it names the instance.
pub record Rejects (view : View) (ops : List Op) (uid : List ℕ) : Type 0 where
  pub note : ContentParts
  pub says : Note
  pub taken : Has ops (a_content note)
  pub is : note.note ≡ Some says
  pub hiding : IsTrue (hides view says.title)
  pub named : Has says.covers uid

-- What a note that was taken names is in no row and in no count where its title hides, whenever the note was taken.
abbrev pub RejectedIsInNoRow : Type 0
RejectedIsInNoRow =
    (a : Map) (ops : List Op) (view : View) (uid : List ℕ) → SiteOf a ops → Rejects view ops uid →
    IsInNoRow view uid (ops_of a)

-- no content of an instance in a set is itself a note
abbrev pub IsNoNote : List ℕ → List Op → Type 0
IsNoNote uid ops = (c : ContentParts) → Has ops (a_content c) → c.instance ≡ uid → c.note ≡ None

-- And where it is no note itself, all rows are as if it had never been stored.
abbrev pub RejectedIsAsIfNeverStored : Type 0
RejectedIsAsIfNeverStored =
    (a : Map) (ops : List Op) (view : View) (uid : List ℕ) → SiteOf a ops → Rejects view ops uid →
    IsNoNote uid (ops_of a)
    → IsAsIfNeverStored view uid (ops_of a)
