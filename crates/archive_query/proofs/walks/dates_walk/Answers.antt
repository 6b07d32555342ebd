use Rattle.std.proofs.Common.{take, ap, ◌∙◌}
use Rattle.study_index.specs.Live.{Text}
use Rattle.study_index.specs.Leads.{a_lead, walk_of}
use Rattle.archive_query.proofs.DateLeads.{dates_within}
use Rattle.archive_query.proofs.walks.dates_walk.Goals as goal

-- The dates of the range stand between both ends.
pub returns : goal.returns
returns c =
    let tag = c.args.tag in
    let first = c.ends.result.0.now in
    dates_within tag c.args.key.now first c.ends.result.1.now
    (walk_of c.in_ok-front.front c.in_ok-end.end c.empty-2.result) c.requires.kept c.ends.ensures.first
    c.ends.ensures.last
    (c.in_ok-front.ensures
    ∙ ap (λ (t : Text). a_lead tag t 0 c.empty.result) c.cut.ensures
    ∙ ap (λ (e : Text). a_lead tag (take 64 first) 0 e) c.empty.ensures)
    c.in_ok-end.ensures c.empty-2.ensures
