use Rattle.shelved_site.proofs.Hashed.{IsHashed}
use Rattle.shelved_site.proofs.fingerprinting.hash_of_tree.Given as goal

-- The digests that came so far were hashed.
abbrev pub invariant-loop-digest : goal.invariant-loop-digest
invariant-loop-digest l = IsHashed l.hasher l.digest-iterator l.initial.digest-iterator
