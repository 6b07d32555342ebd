use Rattle.std.proofs.Common.{◌≡◌, map}
use Rattle.std.specs.Map.Iter.{deref_pair}
use Rattle.study_index.specs.Live.{gains, losses}
use Rattle.study_index.proofs.live_picks.changes.Given as goal

-- what the entries so far bring
abbrev pub invariant-loop-instance : goal.invariant-loop-instance
invariant-loop-instance l = record {
  fresh : l.fresh.items ≡ gains l.picks (map deref_pair l.yielded);
  stale : l.stale.items ≡ losses l.picks (map deref_pair l.yielded);
}
