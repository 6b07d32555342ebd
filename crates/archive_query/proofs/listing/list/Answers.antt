use Rattle.std.proofs.Common.{List, map, ap, ◌∙◌, Bor}
use Rattle.records.specs.declared.recorded_content.RecordedContent.{RecordedContent}
use Rattle.operation.specs.Parts.{ContentParts}
use Rattle.archive_model.specs.Listed.{listed, list_of}
use Rattle.archive_model.specs.Preparing.{prepared_for, prepared_of}
use Rattle.site_state.specs.Site.{ops_of}
use Rattle.archive_query.proofs.listing.list.Goals as goal

-- What is listed is listed of what is shown and selected.
pub returns : goal.returns
unfolding list_of prepared_of
returns c =
    let ops = ops_of c.args.site.now in
    record {
      listed = c.in_ok-found.ensures ∙ ap (λ (cs : List ContentParts). map listed (map (prepared_for ops) cs))
          (ap (map (λ (x : Bor RecordedContent). x.now)) c.deref.ensures.value ∙ c.in_ok-contents.ensures);
    }
