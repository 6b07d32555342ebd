-- Passes that go on.
use Rattle.std.proofs.Common.{◌≡◌, ◌++◌, ◌∷◌, [], List, ℕ, refl, sym, ap, subst, ◌∙◌}
use mathlib.Core.List.{IsPrefix}
use Rattle.site_hub.specs.Hub.{Seat, IsLater}
use Rattle.site_hub.proofs.Fronts.{prefix_self, prefix_trans}

-- each pass is itself later
pub later_self : (s : Seat) → IsLater s s
later_self s = record { number = refl; seen = prefix_self s.seen; mine = prefix_self s.mine }

pub later_trans : (r s t : Seat) → IsLater r s → IsLater s t → IsLater r t
later_trans r s t first second = record {
  number = second.number ∙ first.number;
  seen = prefix_trans r.seen s.seen t.seen first.seen second.seen;
  mine = prefix_trans r.mine s.mine t.mine first.mine second.mine;
}

pub later_same : (s t : Seat) → t ≡ s → IsLater s t
later_same s t same = record {
  number = ap (λ (x : Seat). x.number) same;
  seen = subst (IsPrefix s.seen) (sym (ap (λ (x : Seat). x.seen) same)) (prefix_self s.seen);
  mine = subst (IsPrefix s.mine) (sym (ap (λ (x : Seat). x.mine) same)) (prefix_self s.mine);
}

-- as it was, but for what was refused
pub later_kept : (s t : Seat) → t.number ≡ s.number → t.seen ≡ s.seen → t.mine ≡ s.mine → IsLater s t
later_kept s t number seen mine = record {
  number = number;
  seen = subst (IsPrefix s.seen) (sym seen) (prefix_self s.seen);
  mine = subst (IsPrefix s.mine) (sym mine) (prefix_self s.mine);
}

-- one digest more, and what was seen or what goes on from it
pub later_by : (s t : Seat) (digest : List ℕ) → t.number ≡ s.number → IsPrefix s.seen t.seen
    → t.mine ≡ s.mine ++ digest ∷ []
    → IsLater s t
later_by s t digest number seen mine = record { number = number; seen = seen; mine = (digest ∷ [], sym mine) }

pub later_pending : (s t : Seat) (digest : List ℕ) → t.number ≡ s.number → t.seen ≡ s.seen
    → t.mine ≡ s.mine ++ digest ∷ []
    → IsLater s t
later_pending s t digest number seen mine =
    later_by s t digest number (subst (IsPrefix s.seen) (sym seen) (prefix_self s.seen)) mine
