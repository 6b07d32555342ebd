use Rattle.std.proofs.Common.{◌≡◌, sym, ◌∙◌, rules}
use Rattle.operation.specs.Spelling.{hash_of}
use Rattle.op_shelf.proofs.Loads.{one_digest}
use Rattle.op_shelf.proofs.loading.op_at.Goals as goal

-- Each operation of the entry has the digest of this one.
pub returns-then-ne-clause-bad : goal.returns-then-ne-clause-bad
returns-then-ne-clause-bad c told op lawful is held =
    let same : hash_of c.in_ok-op.op ≡ c.args.digest.now =
    one_digest c.in_ok-op.op op (sym c.in_ok-op.ensures.found ∙ held) ∙ is in
    search (same, rules)
