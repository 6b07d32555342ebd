use Rattle.std.proofs.Common.{◌≡◌, ◌+◌, ◌++◌, take}
use Rattle.std.specs.Prelude.{map}
use Rattle.walk_frames.specs.declared.walk.TheConstants.{MOST_ENTRIES}
use Rattle.exchange_tree.specs.Nodes.{child}
use Rattle.exchange_walk.specs.Answers.{entry_of}
use Rattle.exchange_walk.proofs.answering.put_answers.Given as goal

-- the entries for the children so far are behind what was there, up to one more than a walk has
abbrev pub invariant-loop-digit : goal.invariant-loop-digit
invariant-loop-digit l = l.entries.items
    ≡ take (MOST_ENTRIES + 1) (l.initial.entries.items
    ++ map (λ digit. entry_of l.site (child l.node digit)) (take l.digit-index l.digit-items))
