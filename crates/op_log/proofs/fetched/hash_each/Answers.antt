use Rattle.std.proofs.Common.{sym, ◌∙◌}
use Rattle.op_log.proofs.Fetches.{same_each}
use Rattle.op_log.proofs.fetched.hash_each.Goals as goal

-- Each stays what it is.
pub returns : goal.returns
returns g c =
    same_each c.args.ops.now c.for_each_mut.new.s c.for_each_mut.auto.s λ i d low.
    let changes = (c.for_each_mut.ensures i d low).1 in
    sym changes.left ∙ changes.call ∙ changes.argument_is
