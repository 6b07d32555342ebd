use Rattle.std.specs.Prelude.{◌≡◌, ◌++◌, All, drop, map}
use Rattle.archive_server.specs.declared.meeting.Peer.{Peer}
use Rattle.archive_app.specs.Serves.{IsSeconds}
use Rattle.archive_app.proofs.serve.peers_of.Given as goal

-- The addresses so far, with those that are left, are all, and each has its pause.
abbrev pub invariant-loop-address : goal.invariant-loop-address
invariant-loop-address l = (map (λ peer. peer.address.now) l.peers.items
    ++ map (λ address. address.now) (drop l.address-index l.address-items)
    ≡ map (λ address. address.now) l.serving.peers.items)
    × All (λ (peer : Peer). IsSeconds l.serving.every peer.every) l.peers.items
