use Rattle.std.proofs.Common.{rules}
use Rattle.command_line.proofs.NetworkLaws.{one_more}
use Rattle.command_line.proofs.serving.networks_in.Goals as goal

-- The network just read is that of the next text.
pub loop-text-preserved : goal.loop-text-preserved
loop-text-preserved c =
    one_more c.unwrap_or-written.result.now c.loop-text.networks.items c.push.new.self.items c.in-Some.network
    c.loop-text.text-index _ c.in_ok-push.ensures.items (search rules) c.in-Some.ensures.read c.loop-text.invariant
