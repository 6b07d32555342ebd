use Rattle.std.proofs.Common.{rules, arith}
use Rattle.site_hub.proofs.Histories.{absorbed}
use Rattle.site_hub.proofs.snapshot.SnapshotAbsorbItem.absorb_first.Goals as goal

-- The copy took the entry that comes next, so it stands for the history that the entry ends.
pub invariant_of-self-2 : goal.invariant_of-self-2
invariant_of-self-2 g c =
    let item = c.item.inside in
    rw (c.again-front.ensures) (absorbed _ _ _ c.self.inside.front item.front c.item.invariant.0 item.entry
    c.in_ok-take_copy.ensures.ok c.self.invariant (c.begins.ensures.goes_on (search rules))
    (omega (arith, c.len.ensures.length, c.len-else-not-begins.ensures.length, c.if-len-ne1.false))
    c.item.invariant.1)
