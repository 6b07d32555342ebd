use Rattle.std.proofs.Common.{ap, ◌∙◌}
use Rattle.archive_page.specs.Answers.{listing_answer}
use Rattle.site_tables.proofs.UnderLaws.{if_ok}
use Rattle.site_pages.proofs.ListingLaws.{listed_is}
use Rattle.site_pages.proofs.listing.listed.Goals as goal

-- What was taken of a set makes the rows of the set.
pub returns : goal.returns
returns c =
    let search = c.args.search in
    if_ok c.listing_answer.result (λ answer e ops are. e ∙ ap (listing_answer c.args.form)
    (c.in_ok-listing.ensures ∙ listed_is search ops c.args.taken.now c.args.query.now c.requires are))
    c.listing_answer.ensures
