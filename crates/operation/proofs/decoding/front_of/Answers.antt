use Rattle.std.proofs.Common.{◌≡◌, Ok, rules, arith}
use Rattle.operation.specs.declared.draft.Draft.{Draft}
use Rattle.operation.specs.Reading.{draft_at}
use Rattle.operation.proofs.ReadingLaws.{draft_takes}
use Rattle.operation.proofs.decoding.front_of.Goals as goal

-- The parts were taken from the front one after the other, so the text spells them.
pub returns-clause-spelled : goal.returns-clause-spelled
unfolding draft_at
returns-clause-spelled c =
    let made : Draft = record {
      class = c.in_ok-class.class.now;
      instance = c.in_ok-instance.instance.now;
      syntax =
          c.in_ok-syntax.syntax;
      body = c.in_ok-body.body.now;
    } in
    let read : draft_at c.args.text.now ≡ Ok made = search rules in
    draft_takes c.args.text.now made (λ i. omega (arith, c.type_inv.text i)) read
