use Rattle.std.proofs.Common.{List, ap, subst, ◌∙◌}
use Rattle.std.specs.List.{filter_map}
use Rattle.archive_model.specs.Shown.{shown}
use Rattle.archive_model.specs.Listed.{list_of}
use Rattle.site_state.specs.Site.{Map, ops_of}
use Rattle.archive_model.specs.declared.prepared.Prepared.{Prepared}
use Rattle.archive_model.specs.Selection.{selected}
use Rattle.archive_model.specs.Sending.{Gets}
use Rattle.archive_model.specs.Preparing.{prepared_of}
use Rattle.archive_query.specs.Loaded.{loaded_of}
use Rattle.archive_query.specs.Made.{AreMade}
use Rattle.archive_query.proofs.LoadedLaws.{lists_kept, loaded_are_prepared}
use Rattle.archive_query.proofs.SendingLaws.{made_are_sent}
use Rattle.archive_query.proofs.RetrieveLaws.{sent_computed}
use Rattle.archive_query.proofs.getting.get.Goals as goal

-- What is listed of the records is prepared, and what is made of that is sent of what is shown and selected.
pub returns-clause-gets : goal.returns-clause-gets
unfolding Gets prepared_of
returns-clause-gets c =
    let m = c.args.site.now in
    let ops = ops_of m in
    let s = c.args.selection.now in
    let accepted = c.args.accepts.now.list in
    let prepared =
    c.in_ok-prepared.ensures ∙ ap (filter_map (loaded_of m)) (c.in_ok-listed.ensures.listed
    ∙ ap (λ (k : Map). list_of c.args.view s (ops_of k)) c.site.ensures
    ∙ lists_kept m c.args.view s)
    ∙ loaded_are_prepared m c.see_lawful.ensures.own c.args.view s in
    made_are_sent ops accepted (selected s (shown c.args.view ops)) c.in_ok-found.found.items
    (subst (λ (ps : List Prepared). AreMade accepted ps c.in_ok-found.found.items) (c.deref.ensures.value ∙ prepared)
    c.in_ok-found.ensures)

-- And it is what the definition computes.
pub returns-clause-computed : goal.returns-clause-computed
returns-clause-computed c =
    sent_computed c.args.view c.args.selection.now c.args.accepts.now (ops_of c.args.site.now) c.in_ok-found.found.items
    (returns-clause-gets c)
