use Rattle.std.proofs.Common.{ap, subst, sym, ◌∙◌, arith}
use Rattle.octets.specs.Members.{Has}
use Rattle.exchange_walk.specs.Hearing.{is_child_of}
use Rattle.exchange_walk.proofs.Lists.{has_at}
use Rattle.exchange_walk.proofs.Children.{split_has, is_the_split, is_first}
use Rattle.exchange_walk.proofs.hearing.is_child_of_split.Goals as goal

-- All entries stand before the node, so none is a split of which it is a child.
pub returns-then-first-said : goal.returns-then-first-said
returns-then-first-said c = (
  λ e. absurd cc,
  λ is. absurd (omega (
    arith,
    c.if-first-said.true,
    (is_first c.args.said.now c.args.node.now
        c.count_before-first.result is.split c.requires.apart c.count_before-first.ensures.point is).0,
  )),
)

-- If one is, it is the first that does not.
pub returns : goal.returns
returns c =
    let said = c.args.said.now in
    let node = c.args.node.now in
    let first = c.count_before-first.result in
    let entry = c.index-said-first.result in (
      λ e. split_has said entry node c.is_child_of.ensures.digits
          (subst (Has said) (sym c.index-said-first.is)
          (has_at said first entry (omega (arith, c.if-first-said.false))))
          (sym c.is_child_of.ensures.is ∙ e),
      λ is. c.is_child_of.ensures.is
          ∙ ap (λ e. is_child_of e node) (c.index-said-first.is
          ∙ (is_first said node first entry c.requires.apart c.count_before-first.ensures.point is).1)
          ∙ is_the_split said node is,
    )
