use Rattle.std.proofs.Common.{sym, ◌∙◌}
use Rattle.octets.proofs.ByteLaws.{ok_is}
use Rattle.exchange_frames.specs.declared.fault.FrameFault.{FrameFault}
use Rattle.exchange_walk.proofs.Walks.{walk_again}
use Rattle.exchange_walk.proofs.answering.walk_of.Goals as goal

-- The entries are a walk's.
pub unreachable-requires : goal.unreachable-requires
unreachable-requires c =
    let read = sym c.in-Err.is ∙ c.of.ensures ∙ walk_again c.args.entries.items c.requires.short c.requires.apart in
    absurd cc

-- They are kept.
pub returns : goal.returns
returns c = ok_is FrameFault _ _ (sym c.in-Ok.is ∙ c.of.ensures ∙ walk_again c.args.entries.items c.requires.short c.requires.apart)
