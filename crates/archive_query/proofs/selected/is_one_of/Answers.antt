use Rattle.std.proofs.Common.{◌∙◌}
use Rattle.key_matching.proofs.Listed.{found_by_halves}
use Rattle.archive_query.proofs.AmongLaws.{any-map}
use Rattle.archive_query.proofs.selected.is_one_of.Goals as goal

-- A bisection of what ascends finds what is there.
pub returns : goal.returns
returns c = c.is_ok.ensures.value ∙ found_by_halves (λ u. u.now) c.args.uids.now c.args.uid.now c.binary_search.result
    c.requires c.binary_search.ensures.bound c.binary_search.ensures.position ∙ any-map c.args.uids.now c.args.uid.now
