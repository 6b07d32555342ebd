-- Laws of passes that went on.
use Rattle.std.proofs.Common.{◌≡◌, refl, sym, subst, List, ℕ}
use mathlib.Core.List.{IsPrefix}
use Rattle.site_hub.specs.Hub.{Seat, IsLater, HasLooked}
use Rattle.site_hub.proofs.Fronts.{prefix_self}
use Rattle.site_hub.proofs.Laters.{later_self, later_trans}
use Rattle.hub_exchange.specs.Putting.{WasWritten}
use Rattle.hub_exchange.proofs.PuttingLaws.{adds_trans, adds_none, adds_more, written_more}
use Rattle.hub_exchange.specs.Onward.{IsOnward}

-- a pass goes on from itself
pub onward_self : (these : List ℕ → Type 0) (s : Seat) → IsOnward these s s
onward_self these s = record {
  later = later_self s;
  own = adds_none these s.mine s.mine refl;
}

pub onward_trans : (these : List ℕ → Type 0) (r s t : Seat) → IsOnward these r s → IsOnward these s t
    → IsOnward these r t
onward_trans these r s t p q = record {
  later = later_trans r s t p.later q.later;
  own = adds_trans these r.mine s.mine t.mine p.later.mine q.later.mine p.own q.own;
}

-- what is one of these is one of those
pub onward_more : (these those : List ℕ → Type 0) (s t : Seat) → ((digest : List ℕ) → these digest → those digest)
    → IsOnward these s t → IsOnward those s t
onward_more these those s t all p = record {
  later = p.later;
  own = adds_more these those s.mine t.mine all p.own;
}

-- what was known to be written was written
pub onward_known : (front written : List (List ℕ)) (s t : Seat) → IsPrefix front written
    → IsOnward (WasWritten front) s t → IsOnward (WasWritten written) s t
onward_known front written s t begins =
    onward_more (WasWritten front) (WasWritten written) s t (written_more front written begins)

-- a pass that went on, and then went on by what was learned then
pub onward_learned : (front more written : List (List ℕ)) (r s t : Seat) → IsPrefix front written
    → IsPrefix more written → IsOnward (WasWritten front) r s → IsOnward (WasWritten more) s t
    → IsOnward (WasWritten written) r t
onward_learned front more written r s t begins learned p q = onward_trans (WasWritten written) r s t
    (onward_known front written r s begins p) (onward_known more written s t learned q)

-- a pass that looked stored nothing
pub onward_looked : (these : List ℕ → Type 0) (r s t : Seat) → IsOnward these r s → IsLater s t → t.mine ≡ s.mine
    → IsOnward these r t
onward_looked these r s t p later same = onward_trans these r s t p (record {
  later = later;
  own = adds_none these s.mine t.mine same;
})

-- nor did one that has looked since
pub onward_seen : (these : List ℕ → Type 0) (r s t : Seat) → IsOnward these r s → HasLooked s t → IsOnward these r t
onward_seen these r s t p looked = onward_looked these r s t p (record {
  number = looked.number;
  seen = looked.seen;
  mine = subst (λ (m : List (List ℕ)). IsPrefix s.mine m) (sym looked.mine) (prefix_self s.mine);
}) looked.mine
