use Rattle.join_laws.proofs.Unions.{contains-union}
use Rattle.join_laws.proofs.laws.union_has_the_keys_of_both.Goals as goal

-- A key is in the union where it is in one or the other.
pub returns : goal.returns
returns g c = λ key. contains-union g.met.K.Ord.total g.met.K.Exact.exact key c.args.left.now c.args.right.now
