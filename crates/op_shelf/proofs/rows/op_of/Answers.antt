use Rattle.std.proofs.Common.{◌≡◌, sym, ◌∙◌, rules}
use Rattle.operation.specs.Spelling.{spelling}
use Rattle.op_shelf.specs.Entries.{entry_of}
use Rattle.op_shelf.proofs.Ops.{same_entry, body_of}
use Rattle.op_shelf.proofs.rows.op_of.Goals as goal

-- An entry of an operation with the same spelling is that of this one.
pub returns-then-not-is_headed-clause-bad : goal.returns-then-not-is_headed-clause-bad
returns-then-not-is_headed-clause-bad c bad other =
    let held : c.in-Some.body.now ≡ spelling other.0 = body_of c.args.entry.now other.0 c.in-Some.body.now other.2
    c.in-Some.ensures.found in
    let same : spelling other.0 ≡ spelling c.in_ok-made.made = sym held ∙ c.in_ok-made.ensures.found in
    let is : c.args.entry.now ≡ entry_of c.in_ok-made.made = other.2 ∙ same_entry other.0 c.in_ok-made.made same in
    search (is, c.in_ok-made.ensures.found, rules)
