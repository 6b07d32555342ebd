-- What a pass gains while it serves.
use Rattle.std.specs.Prelude.{ℕ, List, Option}
use Rattle.site_hub.specs.Hub.{Seat, IsLater}
use Rattle.hub_exchange.specs.Putting.{AddsOnly, IsLent}

-- The same pass, later: it has seen no less and has all of its own, and what became its own since is one of these.
pub record IsOnward (these : List ℕ → Type 0) (before after : Seat) : Type 0 where
  pub later : IsLater before after
  pub own : AddsOnly these before.mine after.mine

-- A pass that serves has gone on from what it was at entry, and its way to the shelf is the one that was lent.
pub record IsServing {P : Type 0} (these : List ℕ → Type 0) (entry pass : Seat) (named : Option P) (way : P) : Type 0
  where
    pub onward : IsOnward these entry pass
    pub lent : IsLent named way
