use Rattle.std.proofs.Common.{rules}
use Rattle.std.specs.Ordering.{is_lt}
use Rattle.std.proofs.lemmas.Fn.{always_returns_same}
use Rattle.octets.specs.Texts.{text_cmp}
use Rattle.site_tables.specs.declared.under.Under.{Under}
use Rattle.site_tables.proofs.UnderLaws.{parted_before}
use Rattle.site_tables.proofs.under.start_of.Goals as goal

-- What is in order is parted by a UID.
pub returns-clause-start : goal.returns-clause-start
returns-clause-start g c =
    let text = λ (e : Under g.row.T.Denot). e.uid.now in
    c.partition_point.ensures.partitioned (λ e. is_lt (text_cmp e.uid.now c.args.uid.now))
    (always_returns_same _ _ _ (λ a v f k. search rules))
    (parted_before text c.args.entries.now c.args.uid.now c.requires)
