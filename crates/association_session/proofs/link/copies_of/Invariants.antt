use Rattle.std.proofs.Common.{◌≡◌, take}
use Rattle.association_session.proofs.link.copies_of.Given as goal

-- The copies so far are those of the first contexts.
abbrev pub invariant-loop-context : goal.invariant-loop-context
invariant-loop-context l = l.copies.items ≡ take l.context-index l.contexts
