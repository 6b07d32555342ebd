use Rattle.std.proofs.Common.{◌∙◌, sym, ap}
use Rattle.join_laws.specs.Journal.{taken_out}
use Rattle.join_laws.proofs.Journals.{taken_out-push}
use Rattle.join_laws.proofs.grow_set.take_out.Goals as goal

-- The last key added is taken out, and the others are still to be.
pub loop-key-preserved : goal.loop-key-preserved
loop-key-preserved g c =
    let left = c.pop.new.self.items in
    let keys = c.loop-key.from.keys in
    ap (taken_out g.K.Ord.cmp left) c.remove.ensures.keys
    ∙ sym (taken_out-push g.K.Ord.cmp left c.in-Some.key keys)
    ∙ ap (λ added. taken_out g.K.Ord.cmp added keys) (sym c.in-Some.ensures.items)
    ∙ c.loop-key.invariant
