use Rattle.std.proofs.Common.{sym}
use Rattle.std.proofs.lemmas.Result.{on_ok_weaker}
use Rattle.join_laws.proofs.Puts.{put_written}
use Rattle.join_laws.proofs.map_of.put_noted.Goals as goal

-- the key was there, and its value takes in the other
pub returns-in-Some-clause-ok : goal.returns-in-Some-clause-ok
returns-in-Some-clause-ok g c =
    on_ok_weaker c.join_there.result
    (λ joined. put_written g.met.K.Ord.total g.J.Join.joined c.args.key.now c.args.value.now
    c.args.into.now.entries (c.get_mut.follows.lender c.join_there.new.there).entries c.in-Some.there.now
    c.join_there.new.there (c.get_mut.follows.holds c.join_there.new.there).0 joined c.get_mut.ensures.ordered
    (sym c.in-Some.ensures.value)) c.join_there.ensures.ok
