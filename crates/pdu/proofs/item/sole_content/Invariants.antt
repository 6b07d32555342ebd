use Rattle.std.proofs.Common.{◌≡◌, ◌++◌, drop}
use Rattle.std.specs.Prelude.{option_to_list}
use Rattle.std.specs.Option.{option_copied}
use Rattle.pdu.specs.Grammar.{contents_of}
use Rattle.pdu.proofs.item.sole_content.Given as goal

-- What was found, if anything, in front of those of the kind that are left, is all of the kind.
abbrev pub invariant-loop-item : goal.invariant-loop-item
invariant-loop-item l = option_to_list (option_copied l.found) ++ contents_of l.kind (drop l.item-index l.items)
    ≡ contents_of l.kind l.items
