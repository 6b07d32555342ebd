use Rattle.std.proofs.Common.{rules}
use Rattle.std.specs.Ordering.{is_le}
use Rattle.std.proofs.lemmas.Fn.{always_returns_same}
use Rattle.octets.specs.Texts.{text_cmp}
use Rattle.site_tables.specs.declared.under.Under.{Under}
use Rattle.site_tables.proofs.UnderLaws.{parted_up_to}
use Rattle.site_tables.proofs.under.end_of.Goals as goal

-- What is in order is parted by a UID.
pub returns-clause-end : goal.returns-clause-end
returns-clause-end g c =
    let text = λ (e : Under g.row.T.Denot). e.uid.now in
    c.partition_point.ensures.partitioned (λ e. is_le (text_cmp e.uid.now c.args.uid.now))
    (always_returns_same _ _ _ (λ a v f k. search rules))
    (parted_up_to text c.args.entries.now c.args.uid.now c.requires)
