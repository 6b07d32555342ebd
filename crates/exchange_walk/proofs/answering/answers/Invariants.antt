use Rattle.std.proofs.Common.{◌≡◌, ◌+◌, take}
use Rattle.std.specs.List.{flat_map}
use Rattle.walk_frames.specs.declared.walk.TheConstants.{MOST_ENTRIES}
use Rattle.exchange_walk.specs.Answers.{answers_to}
use Rattle.exchange_walk.proofs.answering.answers.Given as goal

-- the answers to the entries so far, up to one more than a walk has
abbrev pub invariant-loop-entry : goal.invariant-loop-entry
invariant-loop-entry l =
    l.entries.items ≡ take (MOST_ENTRIES + 1) (flat_map (answers_to l.site) (take l.entry-index l.heard))
