use Rattle.std.proofs.Common.{◌≡◌, ap, ◌∙◌, arith}
use Rattle.std.specs.Prelude.{map}
use Rattle.std.specs.List.{range_with_len}
use Rattle.exchange_tree.specs.declared.nodes.TheConstants.{CHILD_COUNT}
use Rattle.exchange_tree.specs.Nodes.{child}
use Rattle.exchange_tree.specs.Sums.{sum_of, child_sums}
use Rattle.exchange_tree.proofs.Lists.{more_told}
use Rattle.exchange_tree.proofs.sums.children.Goals as goal

-- One sum more is that of its child.
pub loop-digit-preserved : goal.loop-digit-preserved
loop-digit-preserved c =
    let ds = c.args.digests.now in
    more_told (λ d. sum_of ds (child c.args.node.now d)) c.loop-digit.digit c.loop-digit.sums.items
    c.push.new.self.items c.sum.result c.loop-digit.invariant c.in_ok-push.ensures.items
    (c.sum.ensures ∙ ap (sum_of ds) (c.as_slice.ensures.value ∙ c.in_ok-child.ensures))

-- All are told.
pub returns : goal.returns
unfolding child_sums
returns c =
    let end : c.loop-digit.digit ≡ CHILD_COUNT = omega (arith, c.loop-digit-test.false, c.loop-digit.auto.digit-end) in
    c.loop-digit.invariant ∙ ap (λ n. map (λ d. sum_of c.args.digests.now (child c.args.node.now d))
    (range_with_len 0 n)) end
