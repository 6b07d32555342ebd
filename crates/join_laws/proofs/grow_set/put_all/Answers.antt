use Rattle.std.proofs.Common.{◌∙◌, ap}
use Rattle.std.specs.BTreeSet.{insert_key}
use Rattle.join_laws.specs.GrowSet.{union_of}
use Rattle.join_laws.proofs.Backwards.{last_first}
use Rattle.join_laws.proofs.grow_set.put_all.Goals as goal

-- The last key that is left is put in before the others.
pub loop-key-preserved : goal.loop-key-preserved
loop-key-preserved g c =
    let R = g.K.Ord.cmp in
    let into = c.loop-key.into.keys in
    let rest = c.next_back.new.self in
    let put = c.in_ok-insert.ensures.keys ∙ ap (insert_key R into) c.in_ok-copy.ensures in
    record {
      joined = ap (λ ks. union_of R ks rest) put
          ∙ last_first g.met.K.Ord.total g.met.K.Exact.exact c.in-Some.key.now into rest c.loop-key.rest
          c.loop-key.invariant.ordered c.in-Some.ensures.steps
          ∙ c.loop-key.invariant.joined;
      ordered = c.in_ok-insert.ensures.ordered;
    }
