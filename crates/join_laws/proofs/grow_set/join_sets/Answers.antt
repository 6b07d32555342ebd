use Rattle.std.proofs.Common.{◌∙◌, ap, subst, sym}
use Rattle.std.specs.List.Sorted.{IsStrictlySortedBy}
use Rattle.join_laws.specs.GrowSet.{union_of}
use Rattle.join_laws.specs.Proved.Sets.{sorted-insert_key}
use Rattle.join_laws.proofs.Backwards.{last_first}
use Rattle.join_laws.proofs.grow_set.join_sets.Goals as goal

-- The last key that is left is put in before the others.
pub loop-key-preserved : goal.loop-key-preserved
loop-key-preserved g c =
    let R = g.K.Ord.cmp in
    let into = c.loop-key.into.keys in
    let rest = c.next_back.new.self in
    let key = c.in-Some.key.now in
    let ordered = c.loop-key.invariant.ordered in
    let put = c.in_default-put_noted.ensures.ok in
    record {
      joined = ap (λ ks. union_of R ks rest) put
          ∙ last_first g.met.K.Ord.total g.met.K.Exact.exact key into rest c.loop-key.rest ordered
          c.in-Some.ensures.steps
          ∙ c.loop-key.invariant.joined;
      ordered = subst (IsStrictlySortedBy R) (sym put) (sorted-insert_key g.met.K.Ord.total key into ordered);
      back = c.put_noted.ensures.noted ∙ c.loop-key.invariant.back;
    }
