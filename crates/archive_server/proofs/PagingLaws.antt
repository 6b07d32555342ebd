-- Laws of a pass and a clerk that only look, and of accepts, one behind another.
use Rattle.std.proofs.Common.{◌≡◌, List, [], ◌∷◌, ◌++◌, Option, Bool, true, false}
use Rattle.std.proofs.Common.{refl, subst, ◌∙◌}
use Rattle.std.specs.List.{flat_map}
use Rattle.std.proofs.lemmas.List.{flat_map_more}
use Rattle.std.specs.declared.time.Duration.{Duration}
use Rattle.site_hub.specs.Hub.{Seat, HasLooked}
use Rattle.site_hub.proofs.Fronts.{prefix_self, prefix_trans}
use Rattle.archive_server.specs.Calling.{Turn, Waits, Went, wait_on, GoesOnWhileServed}
use Rattle.archive_server.specs.Done.{Standing, HasOnlyLooked}
use Rattle.archive_server.proofs.CallingLaws.{went_on}

-- a pass that did nothing
pub looked_self : (seat : Seat) → HasLooked seat seat
looked_self seat = record { number = refl; seen = prefix_self seat.seen; mine = refl }

pub looked_trans : (x y z : Seat) → HasLooked x y → HasLooked y z → HasLooked x z
looked_trans x y z p q = record {
  number = q.number ∙ p.number;
  seen = prefix_trans x.seen y.seen z.seen p.seen q.seen;
  mine = q.mine ∙ p.mine;
}

-- a pass that looked, and then looked as the same pass
pub looked_behind : (x y z w : Seat) → HasLooked x y → z ≡ y → HasLooked z w → HasLooked x w
looked_behind x y z w p e q = looked_trans x y w p (subst (λ (s : Seat). HasLooked s w) e q)

-- a clerk that did nothing
pub only_self : (standing : Standing) → HasOnlyLooked standing standing
only_self standing = record { looked = looked_self standing.pass; known = refl }

pub only_trans : (x y z : Standing) → HasOnlyLooked x y → HasOnlyLooked y z → HasOnlyLooked x z
only_trans x y z p q = record {
  looked = looked_trans x.pass y.pass z.pass p.looked q.looked;
  known = q.known ∙ p.known;
}

-- one wait more, behind which somebody serves
pub one_wait_more : (start a b : Option (List Turn)) (times : List Duration) (time : Duration) (served : Bool)
    → Went start a (flat_map wait_on times) → Went a b (Waits time served ∷ []) → served ≡ true
    → Went start b (flat_map wait_on (times ++ time ∷ []))
one_wait_more start a b times time served before wait serves =
    subst (λ (turns : List Turn). Went start b turns) (flat_map_more wait_on [] times time)
    (went_on start a b (flat_map wait_on times) (wait_on time) before
    (subst (λ (s : Bool). Went a b (Waits time s ∷ [])) serves wait))

-- the last one, behind which nobody does
pub the_last_wait : (start a b : Option (List Turn)) (times : List Duration) (time : Duration) (served : Bool)
    → Went start a (flat_map wait_on times) → Went a b (Waits time served ∷ []) → served ≡ false
    → GoesOnWhileServed start b
the_last_wait start a b times time served before wait ends = (
  times,
  time,
  went_on start a b (flat_map wait_on times) (Waits time false ∷ []) before
      (subst (λ (s : Bool). Went a b (Waits time s ∷ [])) ends wait),
)
