use Rattle.std.proofs.Common.{◌≡◌, map}
use Rattle.std.specs.Map.{keys_of}
use Rattle.std.specs.Map.Iter.{deref_pair}
use Rattle.octets.specs.Texts.{text_cmp}
use Rattle.join_laws.specs.GrowSet.{union_of}
use Rattle.study_index.proofs.live_picks.put_keys.Given as goal

-- the instances so far are in
abbrev pub invariant-loop-instance : goal.invariant-loop-instance
invariant-loop-instance l = l.uids.keys ≡ union_of text_cmp l.initial.uids.keys (keys_of (map deref_pair l.yielded))
