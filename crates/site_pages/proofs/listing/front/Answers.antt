use Rattle.std.proofs.Common.{arith}
use Rattle.archive_page.specs.declared.links.TheConstants.{PAGE_LENGTH}
use Rattle.site_pages.proofs.ListingLaws.{all_taken}
use Rattle.site_pages.proofs.listing.front.Goals as goal

-- All of them stand at the front.
pub returns-then-answers : goal.returns-then-answers
returns-then-answers c = all_taken PAGE_LENGTH c.args.answers.now (omega (arith, c.if-answers.true))
