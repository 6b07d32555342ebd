use Rattle.std.proofs.Common.{ap, sym, ◌∙◌}
use Rattle.key_matching.specs.Range.{is_in_range}
use Rattle.key_matching.specs.declared.range.Moment.TheVariants.{Date}
use Rattle.key_matching.specs.WildCard.{is_wild_match}
use Rattle.study_index.specs.Live.{Text}
use Rattle.study_index.specs.Leads.{is_folded}
use Rattle.archive_query.proofs.DateLeads.{dates_as}
use Rattle.archive_query.proofs.TextLeads.{matched_as}
use Rattle.archive_query.proofs.WalkLaws.{walk_is, text_or_dates}
use Rattle.archive_query.proofs.walks.walk_of.Goals as goal

-- The walk of dates is one of the key.
pub returns-then-is_dates : goal.returns-then-is_dates
returns-then-is_dates c =
    let asked = c.args.asked.now in
    walk_is asked c.in_ok-walk.walk c.requires (λ value e. c.in_ok-walk.ensures value
    (ap (λ (k : Text). is_in_range Date k value) c.as_slice-key.ensures
    ∙ dates_as asked.matching asked.tag asked.key value (sym c.is_dates.ensures ∙ c.if-is_dates.true) e))

-- So is that of text.
pub returns : goal.returns
returns c =
    let asked = c.args.asked.now in
    walk_is asked c.in_ok-walk-2.walk c.requires (λ value e. c.in_ok-walk-2.ensures value
    (ap (λ (k : Text). is_wild_match (is_folded asked.tag) k value) c.as_slice-key.ensures
    ∙ matched_as asked.matching asked.tag asked.key value
    (text_or_dates asked c.requires (sym c.is_dates.ensures ∙ c.if-is_dates.false)) e))
