use Rattle.join_laws.proofs.Puts.{put_copy}
use Rattle.join_laws.proofs.map_of.put_first.Goals as goal

-- the copies are equal to the key and the value, and the key was absent
pub returns-clause-ok : goal.returns-clause-ok
returns-clause-ok g c =
    put_copy g.met.K.Ord.total g.J.Join.joined c.args.key.now c.args.value.now c.args.into.now.entries
    c.insert.new.self.entries c.in_ok-copy.field-0 c.in_ok-copy-2.field-0 c.in_ok-insert.ensures.entries
    c.in_ok-copy.ensures c.in_ok-copy-2.ensures c.requires.absent
