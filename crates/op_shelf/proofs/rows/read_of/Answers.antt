use Rattle.std.proofs.Common.{◌≡◌, sym, ◌∙◌, ap, rules}
use Rattle.operation.specs.Spelling.{spelling}
use Rattle.op_shelf.specs.Entries.{entry_by}
use Rattle.op_shelf.proofs.Ops.{body_of}
use Rattle.op_shelf.proofs.rows.read_of.Goals as goal

-- The entry of an operation that has the digest is the one under its text.
pub returns-then-not-is_headed-clause-bad : goal.returns-then-not-is_headed-clause-bad
returns-then-not-is_headed-clause-bad c bad op lawful named it =
    let held = body_of c.args.entry.now op c.in-Some.body.now it c.in-Some.ensures.found in
    let is : c.args.entry.now ≡ entry_by c.args.text.now c.in-Some.body.now =
    it ∙ ap (λ d. entry_by d (spelling op)) named ∙ ap (λ b. entry_by c.args.text.now b) (sym held) in
    search (is, rules)
