use Rattle.std.proofs.Common.{◌≡◌, ◌++◌, ◌∷◌, [], List, ℕ, map, take, length, sym, subst, ap, ◌∙◌, arith}
use Rattle.std.proofs.Math.Seq.{take-append_seam}
use Rattle.std.proofs.lemmas.List.{map-append, nil_from_length}
use Rattle.op_log.specs.declared.place.Place.{Place}
use Rattle.op_log.specs.Heads.{Head}
use Rattle.op_log.specs.Places.{head_at}
use Rattle.op_log.specs.Staged.{AreThere, IsUndone, back}
use Rattle.op_log.proofs.Settling.{there_last, there_with, undone_last}
use Rattle.op_log.proofs.places.Places.restore.Goals as goal

-- Each that was replaced has a head with its digest.
pub put_back-requires : goal.put_back-requires
put_back-requires c =
    let heads = c.replaced.self in
    let last = c.in-Some.last in
    let left = c.pop.new.self.items in
    let items = ap (map head_at) c.in-Some.ensures.items ∙ map-append head_at left (last ∷ []) in
    (there_last heads (map head_at left) (head_at last) (subst (λ (rs : List Head). AreThere heads rs) items c.replaced.invariant.there)).1

-- The last is put back.
pub replaced-preserved : goal.replaced-preserved
replaced-preserved c =
    let heads = c.replaced.self in
    let last = c.in-Some.last in
    let left = c.pop.new.self.items in
    let items = ap (map head_at) c.in-Some.ensures.items ∙ map-append head_at left (last ∷ []) in
    let there = there_last heads (map head_at left) (head_at last) (subst (λ (rs : List Head). AreThere heads rs) items c.replaced.invariant.there) in
    record {
      there = subst (λ (hs : List Head). AreThere hs (map head_at left)) (sym c.put_back.ensures)
          (there_with heads (map head_at left) (head_at last) there.0);
      undone = λ first was.
          subst (λ (hs : List Head). IsUndone first hs (map head_at left)) (sym c.put_back.ensures)
          (undone_last first heads (map head_at left) (head_at last)
          (subst (λ (rs : List Head). IsUndone first heads rs) items (c.replaced.invariant.undone first was)));
    }

-- The first heads stand again, and the others are forgotten.
pub returns : goal.returns
returns c first long was =
    let heads = c.replaced.self in
    let left = c.replaced.left.items in
    let none : length left ≡ 0 = omega (arith, c.in_default.ensures.cases.0, c.replaced.left.ok) in
    let undone = c.replaced.invariant.undone first was in
    let are : heads ≡ first ++ undone.more =
    subst (λ (xs : List (List ℕ × Place)). back heads (map head_at xs) ≡ first ++ undone.more) (nil_from_length left none) undone.are in
    c.truncate.ensures ∙ ap (take c.args.len) are ∙ ap (λ (n : ℕ). take n (first ++ undone.more)) long ∙ take-append_seam first undone.more
