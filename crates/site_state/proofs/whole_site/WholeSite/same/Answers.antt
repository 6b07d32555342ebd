use Rattle.std.proofs.Common.{sym, ap, ◌∙◌}
use Rattle.site_state.specs.Site.{ops_of}
use Rattle.site_state.proofs.Maps.{tree_ops}
use Rattle.site_state.proofs.Unions.{heads_same, first_same, not_longer, same_ops, ended}
use Rattle.site_state.proofs.whole_site.WholeSite.same.Goals as goal

-- Two equal operations went, one of each site, so the rests are the same exactly where all are.
pub loop-op-preserved : goal.loop-op-preserved
loop-op-preserved c =
    heads_same c.in-Some.op.now c.in-Some-next.other_op.now c.next.new.self c.next-in-loop-op.new.self
    c.loop-op.op-iterator c.loop-op.others
    c.in-Some.ensures.steps c.in-Some-next.ensures.steps (c.equals.ensures.0 c.if-not-equals.false) c.loop-op.invariant

-- The other site has fewer operations, so it does not hold the same.
pub returns-in-None-next : goal.returns-in-None-next
returns-in-None-next c =
    let these = c.into_iter-op-iterator.ensures.into_iter_gives ∙ c.values-op-items.ensures.rest
    ∙ tree_ops c.args.self.now c.self.inside.operations.entries c.self.view_is c.values-op-items.ensures.ordered in
    let those = c.values-others.ensures.rest ∙ tree_ops c.args.other.now c.other.inside.operations.entries
    c.other.view_is c.values-others.ensures.ordered in (
      λ f. absurd cc,
      λ e. not_longer c.in-Some.op.now c.next.new.self c.loop-op.op-iterator c.loop-op.others c.in-Some.ensures.steps
          c.in-None-next.ensures.steps.0
          (c.loop-op.invariant.1 (these ∙ ap ops_of e ∙ sym those)),
    )

-- Two operations at one place are unequal, so the sites do not hold the same.
pub returns-then-not-equals : goal.returns-then-not-equals
returns-then-not-equals c =
    let these = c.into_iter-op-iterator.ensures.into_iter_gives ∙ c.values-op-items.ensures.rest
    ∙ tree_ops c.args.self.now c.self.inside.operations.entries c.self.view_is c.values-op-items.ensures.ordered in
    let those = c.values-others.ensures.rest ∙ tree_ops c.args.other.now c.other.inside.operations.entries
    c.other.view_is c.values-others.ensures.ordered in (
      λ f. absurd cc,
      λ e. let same = first_same c.in-Some.op.now c.in-Some-next.other_op.now c.next.new.self c.next-in-loop-op.new.self
          c.loop-op.op-iterator c.loop-op.others c.in-Some.ensures.steps c.in-Some-next.ensures.steps
          (c.loop-op.invariant.1 (these ∙ ap ops_of e ∙ sym those)) in
          let t = c.equals.ensures.1 same in let u = c.if-not-equals.true in cc,
    )

-- All of this site's operations were met, so both hold the same exactly where the other has none left.
pub returns : goal.returns
returns c =
    let these = c.into_iter-op-iterator.ensures.into_iter_gives ∙ c.values-op-items.ensures.rest in
    let left = ended c.loop-op.others c.next-2.new.self c.next-2.result c.is_none.result c.next-2.ensures.steps
    c.is_none.ensures in (
      λ t. same_ops c.args.self.now c.args.other.now c.self.inside.operations.entries c.other.inside.operations.entries
          c.self.view_is c.other.view_is
          c.values-op-items.ensures.ordered c.values-others.ensures.ordered c.self.invariant.0 c.other.invariant.0
          (sym these ∙ c.loop-op.invariant.0 (c.in-None.ensures.steps.0 ∙ sym (left.0 t))
          ∙ c.values-others.ensures.rest),
      λ e. left.1 (sym (c.loop-op.invariant.1
          (these ∙ tree_ops c.args.self.now c.self.inside.operations.entries c.self.view_is
          c.values-op-items.ensures.ordered ∙ ap ops_of e
          ∙ sym (c.values-others.ensures.rest ∙ tree_ops c.args.other.now c.other.inside.operations.entries
          c.other.view_is c.values-others.ensures.ordered)))
          ∙ c.in-None.ensures.steps.0),
    )
