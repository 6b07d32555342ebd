use Rattle.std.proofs.Common.{◌∙◌, ap, subst, sym}
use Rattle.std.specs.List.Sorted.{IsStrictlySortedBy}
use Rattle.std.specs.Map.{keys_of}
use Rattle.join_laws.specs.MapOf.{map_joined}
use Rattle.join_laws.specs.Proved.Maps.{sorted-put_joined}
use Rattle.join_laws.proofs.Backwards.{last_entry_first}
use Rattle.join_laws.specs.Proved.Ascending.{front_ascends}
use Rattle.join_laws.proofs.map_of.put_all.Goals as goal

-- The last entry that is left is taken in before the others.
pub loop-key-preserved : goal.loop-key-preserved
loop-key-preserved g c =
    let R = g.K.Ord.cmp in
    let join = g.J.Join.joined in
    let total = g.met.K.Ord.total in
    let exact = g.met.K.Exact.exact in
    let was = c.loop-key.into.entries in
    let rest = c.next_back.new.self in
    let key = c.in-Some.key.now in
    let value = c.in-Some.value.now in
    let ordered = c.loop-key.invariant.ordered in
    let put = c.in_ok-put.ensures.ok in
    record {
      joined = ap (λ es. map_joined R join es rest) put
          ∙ last_entry_first total exact join (key, value) was rest c.loop-key.rest ordered c.loop-key.invariant.left
          c.in-Some.ensures.steps
          ∙ c.loop-key.invariant.joined;
      ordered = subst (λ es. IsStrictlySortedBy R (keys_of es)) (sym put)
          (sorted-put_joined total exact join key value was ordered);
      left = front_ascends _ rest (key, value)
          (subst (λ es. IsStrictlySortedBy R (keys_of es)) c.in-Some.ensures.steps c.loop-key.invariant.left);
    }
