use Rattle.std.proofs.Common.{◌≡◌, subst, subst₂, rules}
use Rattle.operation.specs.Spelling.{spelling}
use Rattle.op_shelf.specs.Entries.{entry_by, digest_text}
use Rattle.op_shelf.specs.Putting.{PutsEntry}
use Rattle.op_shelf.proofs.shelf.Shelf.put_digested.Goals as goal

-- The entry is that of the operation.
pub returns : goal.returns
returns g c =
    let same : c.self.inside.database ≡ c.args.self.now = search rules in
    let name : c.as_str.result.now ≡ digest_text c.args.op.now = search rules in
    let body : c.deref.result.now ≡ spelling c.args.op.now = search rules in
    subst (λ h. PutsEntry g.S.Store h c.put_entry.new.database (digest_text c.args.op.now)
    (entry_by (digest_text c.args.op.now) (spelling c.args.op.now)) c.put_entry.result) same
    (subst₂ (λ d b. PutsEntry g.S.Store c.self.inside.database c.put_entry.new.database d (entry_by d b)
    c.put_entry.result) name body c.put_entry.ensures)
