use Rattle.join_laws.proofs.Puts.{one_value, put_copy}
use Rattle.join_laws.proofs.map_of.add_first.Goals as goal

-- nothing and one operation is the value of that operation, and the key was absent
pub returns-clause-ok : goal.returns-clause-ok
returns-clause-ok g c =
    put_copy g.met.K.Ord.total g.J.Join.joined c.args.key.now (g.J.Summary.of_one c.args.op.now)
    c.args.into.now.entries c.insert.new.self.entries c.in_ok-copy.field-0 c.add.new.self
    c.in_ok-insert.ensures.entries c.in_ok-copy.ensures
    (one_value g.J.Join.joined g.J.Summary.nothing (g.J.Summary.of_one c.args.op.now) c.empty-value.result
    c.add.new.self c.in_ok-add.ensures.ok c.empty-value.ensures
    (g.met.J.Summary.summary_laws.neutral (g.J.Summary.of_one c.args.op.now)
    (g.met.J.Summary.summary_laws.one_held c.args.op.now)))
    c.requires.absent
