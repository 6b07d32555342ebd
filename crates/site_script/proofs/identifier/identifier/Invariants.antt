use Rattle.std.proofs.Common.{◌≡◌, ◌++◌, drop, map}
use Rattle.site_script.specs.Sets.{key_element}
use Rattle.site_script.proofs.identifier.identifier.Given as goal

-- The elements so far, with those of the keys left, are the elements of all keys.
abbrev pub invariant-loop-key : goal.invariant-loop-key
invariant-loop-key l = l.elements.items ++ map key_element (drop l.key-index l.keys) ≡ map key_element l.keys
