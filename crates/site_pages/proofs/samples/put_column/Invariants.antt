use Rattle.std.proofs.Common.{◌≡◌, ◌++◌, drop}
use Rattle.std.specs.List.{flat_map}
use Rattle.site_pages.specs.Samples.{peer_sample}
use Rattle.site_pages.proofs.samples.put_column.Given as goal

-- What was put, with what is told of the peers that are left, is all.
abbrev pub invariant-loop-peer : goal.invariant-loop-peer
invariant-loop-peer l =
    l.out.items ++ flat_map (peer_sample l.column.way l.column.part l.column.now) (drop l.peer-index l.peers)
    ≡ l.fn.out.items ++ flat_map (peer_sample l.column.way l.column.part l.column.now) l.peers
