use Rattle.std.proofs.Common.{◌≡◌, sym, ◌∙◌, rules}
use Rattle.operation.specs.Spelling.{spelling}
use Rattle.op_shelf.specs.Older.{pair_of}
use Rattle.op_shelf.proofs.Olders.{same_pair, body_of_pair}
use Rattle.op_shelf.proofs.rows.is_pair.Goals as goal

-- A pair of an operation with the same spelling is that of this one.
pub returns-then-not-has_text-clause-bad : goal.returns-then-not-has_text-clause-bad
returns-then-not-has_text-clause-bad c bad other =
    let held : c.in-Some.body.now ≡ spelling other.0 = body_of_pair c.args.pair.now other.0 c.in-Some.body.now other.2
    c.in-Some.ensures.found in
    let same : spelling other.0 ≡ spelling c.in_ok-op.op = sym held ∙ c.in_ok-op.ensures.found in
    let is : c.args.pair.now ≡ pair_of c.in_ok-op.op = other.2 ∙ same_pair other.0 c.in_ok-op.op same in
    search (is, c.in_ok-op.ensures.found, rules)
