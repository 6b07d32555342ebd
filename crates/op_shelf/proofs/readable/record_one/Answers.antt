use Rattle.std.proofs.Common.{◌++◌, ◌∷◌, [], ap, ◌∙◌, refl}
use Rattle.operation.specs.declared.op.Op.{Op}
use Rattle.operation.proofs.DigestLaws.{own_digest}
use Rattle.op_shelf.proofs.readable.record_one.Goals as goal

-- What is pushed stands for the operation.
pub returns-clause-added : goal.returns-clause-added
returns-clause-added c = record {
  op = c.args.op.now;
  lawful = c.requires.lawful;
  entry_is = refl;
  digest = c.of.ensures.digest ∙ own_digest c.args.op.now c.requires.lawful;
  added = c.in_ok-push.ensures.items ∙ ap (λ (o : Op). c.args.recorded.now.items ++ o ∷ []) c.in_ok-made.ensures.stands;
}
