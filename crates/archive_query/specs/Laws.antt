-- What the rows depend on.
use Rattle.std.specs.Prelude.{◌≡◌, ℕ, List}
use Rattle.archive_model.specs.declared.view.View.{View}
use Rattle.site_state.specs.Site.{Map, ops_of, held_at}
use Rattle.archive_model.specs.declared.query.Query.{Query}
use Rattle.archive_model.specs.Rows.{rows_of}

-- two sites that hold the same operation under each digest have the same rows
abbrev pub SameSitesAnswerAlike : Type 0
SameSitesAnswerAlike =
    (view : View) (called : List ℕ) (query : Query) (one other : Map)
    → ((digest : List ℕ) → held_at one digest ≡ held_at other digest)
    → rows_of view called query (ops_of one) ≡ rows_of view called query (ops_of other)
