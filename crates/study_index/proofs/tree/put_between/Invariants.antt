use Rattle.std.proofs.Common.{◌≡◌, map}
use Rattle.std.specs.Map.Iter.{deref}
use Rattle.octets.specs.Texts.{text_cmp}
use Rattle.join_laws.specs.GrowSet.{union_of}
use Rattle.study_index.specs.Live.{instance_of}
use Rattle.study_index.proofs.tree.put_between.Given as goal

-- the instances of the places so far are in
abbrev pub invariant-loop-place : goal.invariant-loop-place
invariant-loop-place l = l.uids.keys ≡ union_of text_cmp l.initial.uids.keys (map instance_of (map deref l.yielded))
