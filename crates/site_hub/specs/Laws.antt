-- What running sites answer.
use Rattle.std.specs.Prelude.{◌≡◌, ℕ, List}
use Rattle.archive_model.specs.declared.view.View.{View}
use Rattle.site_state.specs.Site.{Map, ops_of, held_at}
use Rattle.archive_model.specs.declared.query.Query.{Query}
use Rattle.archive_model.specs.Rows.{rows_of}
use Rattle.archive_model.specs.declared.selection.Selection.{Selection}
use Rattle.archive_model.specs.declared.accepts.Accepts.{Accepts}
use Rattle.archive_model.specs.declared.sending.Sending.{Sending}
use Rattle.archive_model.specs.Sending.{Gets}
use Rattle.site_hub.specs.declared.entry.Entry.{Entry}
use Rattle.site_hub.specs.History.{set_of}

-- an opening set with a seen history holds, under each digest, what another holds with another history
abbrev pub HoldAlike : Map → List Entry → Map → List Entry → Type 0
HoldAlike one seen other told = (digest : List ℕ) → held_at (set_of one seen) digest ≡ held_at (set_of other told)
    digest

abbrev pub SeenAlikeIsOneSet : Type 0
SeenAlikeIsOneSet = (one other : Map) (seen told : List Entry) → HoldAlike one seen other told
    → set_of one seen ≡ set_of other told

abbrev pub SeenAlikeAnswersAlike : Type 0
SeenAlikeAnswersAlike =
    (view : View) (called : List ℕ) (query : Query) (one other : Map) (seen told : List Entry) → HoldAlike one seen
    other told
    → rows_of view called query (ops_of (set_of one seen)) ≡ rows_of view called query (ops_of (set_of other told))

abbrev pub SeenAlikeSendsAlike : Type 0
SeenAlikeSendsAlike =
    (view : View) (selection : Selection) (accepts : Accepts) (one other : Map) (seen told : List Entry)
    (these those : List Sending)
    → HoldAlike one seen other told
    → Gets view selection accepts (ops_of (set_of one seen)) these → Gets view selection
    accepts (ops_of (set_of other told)) those
    → these ≡ those
