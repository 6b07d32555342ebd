use Rattle.std.proofs.Common.{◌≡◌, ◌++◌, drop, map}
use Rattle.site_pages.specs.Facts.{peer_fact}
use Rattle.site_pages.proofs.facts.put_peers.Given as goal

-- What is told so far, with what is told of the peers that are left, is all.
abbrev pub invariant-loop-peer : goal.invariant-loop-peer
invariant-loop-peer l =
    l.out.items ++ map (peer_fact l.way l.now) (drop l.peer-index l.peers)
    ≡ l.fn.out.items ++ map (peer_fact l.way l.now) l.peers
