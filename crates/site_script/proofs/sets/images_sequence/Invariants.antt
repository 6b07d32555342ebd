use Rattle.std.proofs.Common.{◌≡◌, ◌++◌, drop, map}
use Rattle.site_script.specs.Sets.{named}
use Rattle.site_script.proofs.sets.images_sequence.Given as goal

-- The items so far, with those for the UIDs left, name all UIDs.
abbrev pub invariant-loop-uid : goal.invariant-loop-uid
invariant-loop-uid l = map (λ item. item.items) l.items.items ++ map named (drop l.uid-index l.uids) ≡ map named l.uids
