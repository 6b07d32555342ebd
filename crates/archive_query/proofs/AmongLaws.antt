-- UIDs that are lent, one by one.
use Rattle.std.proofs.Common.{◌≡◌, ℕ, Bool, ◌||◌, List, [], ◌∷◌, map, Bor, refl, ap}
use Rattle.std.specs.List.{list_any}
use Rattle.archive_model.specs.Texts.{same}

pub any-map : (uids : List (Bor (List ℕ))) (uid : List ℕ) → list_any (λ u. same u.now uid) uids ≡ list_any
    (λ u. same u uid) (map (λ u. u.now) uids)
any-map [] uid = refl
any-map (u ∷ uids) uid = ap (λ (b : Bool). same u.now uid || b) (any-map uids uid)
