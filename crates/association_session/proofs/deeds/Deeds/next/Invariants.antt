use Rattle.std.proofs.Common.{◌≡◌, ◌++◌, length, map}
use Rattle.association_session.specs.inner.Deeds.{deeds_in}
use Rattle.association_session.specs.declared.deed.Deed.TheVariants.{Send}
use Rattle.association_session.proofs.deeds.Deeds.next.Given as goal

-- Nothing was taken.
abbrev pub invariant-loop-pdu : goal.invariant-loop-pdu
invariant-loop-pdu l = map Send l.self-inside.sending ++ deeds_in l.self-inside.outgoing.items ≡ l.fn.self

-- Each turn leaves fewer of them.
abbrev pub decreases-loop-pdu : goal.decreases-loop-pdu
decreases-loop-pdu l = length l.self-inside.outgoing.items
