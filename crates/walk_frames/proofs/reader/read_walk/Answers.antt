use Rattle.std.proofs.Common.{ap, subst, ◌∙◌, arith}
use Rattle.octets.specs.Bytes.{IsBytes}
use Rattle.octets.specs.Gives.{Gives}
use Rattle.exchange_frames.specs.Fault.{is_memory}
use Rattle.walk_frames.specs.Reading.{walk_at}
use Rattle.walk_frames.proofs.WalkLaws.{walk_again, fault_told, answered_so, faulted_so}
use Rattle.walk_frames.proofs.reader.read_walk.Goals as goal

fits : (c : goal.After-walk_of) → IsBytes c.args.body.now
fits c = λ i. omega (arith, c.type_inv.body i)

-- What came of the body is told of it.
pub returns-clause-done : goal.returns-clause-done
returns-clause-done c = answered_so c.args.body.now c.walk_of.result (fits c) c.walk_of.ensures

-- A walk that the body spells is what it comes to.
pub returns-clause-only : goal.returns-clause-only
returns-clause-only c = λ walk is text. subst (Gives is_memory (λ w. w) c.walk_of.result)
    (ap walk_at text ∙ walk_again walk is) c.walk_of.ensures

-- What came of the body is its fault.
pub returns-clause-fault : goal.returns-clause-fault
returns-clause-fault c = faulted_so c.args.body.now c.walk_of.result c.walk_of.ensures

-- A fault that the body has is what it comes to.
pub returns-clause-faulty : goal.returns-clause-faulty
returns-clause-faulty c = λ e has. subst (Gives is_memory (λ w. w) c.walk_of.result)
    (fault_told c.args.body.now e (fits c) has) c.walk_of.ensures
