use Rattle.std.proofs.Common.{◌≡◌, subst, rules}
use Rattle.op_shelf.specs.Entries.{entry_of, digest_text}
use Rattle.op_shelf.specs.Putting.{PutsEntry}
use Rattle.op_shelf.proofs.shelf.Shelf.put.Goals as goal

-- The copy is the operation.
pub returns : goal.returns
returns g c =
    let same : c.of-digested.result ≡ c.args.op.now = search rules in
    subst (λ op. PutsEntry g.S.Store c.args.self.now c.put_digested.new.self (digest_text op) (entry_of op)
    c.put_digested.result) same c.put_digested.ensures
