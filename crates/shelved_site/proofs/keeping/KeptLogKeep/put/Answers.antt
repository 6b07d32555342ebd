use Rattle.std.proofs.Common.{◌≡◌, ◌∷◌, [], IfErr, subst, rules}
use Rattle.operation.specs.declared.op.Op.{Op}
use Rattle.op_shelf.specs.Keep.{Finds, Gains}
use Rattle.shelved_site.specs.Keeping.{Holds, log_of}
use Rattle.shelved_site.specs.Refusing.{LogRefusesGroup}
use Rattle.shelved_site.proofs.keeping.KeptLogKeep.put.Goals as goal

-- The copy is the operation.
pub returns-clause-new : goal.returns-clause-new
returns-clause-new g c up told =
    let same : c.of-digested.result ≡ c.args.op.now = search rules in
    subst (λ (op : Op). Gains (Holds g.B.Disk (log_of c.args.self.now)) (Holds g.B.Disk (log_of c.put_digested.new.self)) op)
    same (c.put_digested.ensures.new up told)

-- So it is where it was known.
pub returns-clause-known : goal.returns-clause-known
returns-clause-known g c up told =
    let same : c.of-digested.result ≡ c.args.op.now = search rules in
    subst (λ (op : Op). Finds (Holds g.B.Disk (log_of c.args.self.now)) (Holds g.B.Disk (log_of c.put_digested.new.self)) op)
    same (c.put_digested.ensures.known up told)

-- What is refused is refused of the operation itself.
pub returns-clause-why : goal.returns-clause-why
returns-clause-why g c =
    let same : c.of-digested.result ≡ c.args.op.now = search rules in
    subst (λ (op : Op). IfErr c.put_digested.result (LogRefusesGroup g.H.Disk g.B.Disk (log_of c.args.self.now)
    (log_of c.put_digested.new.self) (op ∷ []))) same c.put_digested.ensures.why
