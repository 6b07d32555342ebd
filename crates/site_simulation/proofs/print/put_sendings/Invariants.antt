use Rattle.std.proofs.Common.{◌≡◌, ◌++◌, drop}
use Rattle.std.specs.List.{flat_map}
use Rattle.site_simulation.specs.Texts.{sending_line}
use Rattle.site_simulation.proofs.print.put_sendings.Given as goal

-- What was printed, with the lines of the instances left, is the lines of all that are sent.
abbrev pub invariant-loop-sending : goal.invariant-loop-sending
invariant-loop-sending l = l.out.items ++ flat_map sending_line (drop l.sending-index l.sendings)
    ≡ l.fn.out.items ++ flat_map sending_line l.sendings
