use Rattle.std.proofs.Common.{◌≡◌, ◌++◌, ◌∷◌, [], List, ℕ, map, Some, sym, subst, ap, ◌∙◌}
use Rattle.std.proofs.lemmas.List.{map-append}
use Rattle.op_log.specs.declared.place.Place.{Place}
use Rattle.op_log.specs.Heads.{Head}
use Rattle.op_log.specs.Kept.{first_under, with_head}
use Rattle.op_log.specs.Places.{head_at, head_by}
use Rattle.op_log.specs.Staged.{IsUndone, replaced_in}
use Rattle.op_log.proofs.Settling.{kept_next, kept_same, new_next}
use Rattle.op_log.proofs.group.Group.keep.Goals as goal

-- No head has the digest, so one that does stands behind the others.
pub returns-in_default-clause-next : goal.returns-in_default-clause-next
returns-in_default-clause-next c first h same undone =
    let heads = c.args.places.now in
    let none = ap (λ (d : List ℕ). first_under d heads) same ∙ c.find.ensures.none c.in_default.is in
    new_next first heads (replaced_in c.args.self.now) undone h none

-- What is kept is the place that is there.
pub returns-clause-same : goal.returns-clause-same
returns-clause-same c first undone =
    let heads = c.args.places.now in
    let digest = c.args.digest.now in
    let place = c.in-Some.place.now in
    let was = c.args.self.now in
    let front = c.in_ok-from_slice.ensures ∙ c.as_slice.ensures in
    let copy : Place = record { front = c.in_ok-from_slice.field-0; at = place.at; size = place.size } in
    let same : head_by digest place ≡ head_by digest copy =
    λ i. record { digest = digest; front = sym front i; at = place.at; size = place.size } in
    let items : map head_at c.push.new.self.items ≡ replaced_in was ++ head_by digest copy ∷ [] =
    ap (map head_at) c.in_ok-push.ensures.items ∙ map-append head_at was.replaced.items ((digest, copy) ∷ []) in
    subst (λ (rs : List Head). IsUndone first heads rs) (sym items)
    (kept_same first heads (replaced_in was) undone (head_by digest copy) (c.in-Some.ensures.found ∙ ap Some same))

-- Another comes in its place.
pub returns-clause-next : goal.returns-clause-next
returns-clause-next c first h own undone =
    let heads = c.args.places.now in
    let digest = c.args.digest.now in
    let place = c.in-Some.place.now in
    let was = c.args.self.now in
    let front = c.in_ok-from_slice.ensures ∙ c.as_slice.ensures in
    let copy : Place = record { front = c.in_ok-from_slice.field-0; at = place.at; size = place.size } in
    let same : head_by digest place ≡ head_by digest copy =
    λ i. record { digest = digest; front = sym front i; at = place.at; size = place.size } in
    let items : map head_at c.push.new.self.items ≡ replaced_in was ++ head_by digest copy ∷ [] =
    ap (map head_at) c.in_ok-push.ensures.items ∙ map-append head_at was.replaced.items ((digest, copy) ∷ []) in
    subst (λ (rs : List Head). IsUndone first (with_head heads h) rs) (sym items)
    (kept_next first heads (replaced_in was) undone (head_by digest copy) h (c.in-Some.ensures.found ∙ ap Some same) (sym own))
