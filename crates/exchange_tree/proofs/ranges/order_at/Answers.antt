use Rattle.std.proofs.Common.{ℕ, ap, ◌∙◌}
use Rattle.std.specs.Ordering.{nat_cmp}
use Rattle.exchange_tree.proofs.Orders.{no_digit, a_digit}
use Rattle.exchange_tree.proofs.ranges.order_at.Goals as goal

-- The text ends before it.
pub returns-then-at-bytes : goal.returns-then-at-bytes
returns-then-at-bytes c = no_digit c.args.bytes.now c.args.at c.args.digit c.if-at-bytes.true

-- It is one half of the byte there.
pub returns : goal.returns
returns c =
    c.cmp.ensures ∙ ap (λ (k : ℕ). nat_cmp k c.args.digit) c.half.ensures
    ∙ a_digit c.args.bytes.now c.args.at c.args.digit c.if-at-bytes.false
