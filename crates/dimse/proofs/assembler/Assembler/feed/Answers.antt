use Rattle.std.proofs.Common.{◌∙◌, sym}
use Rattle.dimse.proofs.StepLaws.{not_failed, feeds_refused}
use Rattle.dimse.proofs.SoundLaws.{when_taken}
use Rattle.dimse.proofs.assembler.Assembler.feed.Goals as goal

-- A fragment with a fault leaves the assembler failed.
pub returns-in-Some-clause-fed : goal.returns-in-Some-clause-fed
returns-in-Some-clause-fed c =
    feeds_refused c.args.self.now c.self.inside.contexts c.self.inside.stage c.replace-stage.new.dest c.args.pdv
    c.in-Some.fault c.self.view_is c.replace-stage.ensures.after
    (rw (← c.as_slice.ensures, ← c.replace-stage.ensures.value) (sym c.in-Some.ensures))

-- A failed assembler has a fault at each fragment.
pub advance-requires : goal.advance-requires
advance-requires c = not_failed c.as_slice.result.now c.replace-stage.result c.args.pdv (sym c.fault_with.ensures
    ∙ c.in_default.is)

-- A fragment without a fault leaves a text within its limit.
pub invariant_of-self-2 : goal.invariant_of-self-2
invariant_of-self-2 c = (when_taken c.as_slice.result.now c.self.inside.stage c.replace-stage.result c.args.pdv
    c.replace-stage.ensures.value c.self.invariant (sym c.fault_with.ensures ∙ c.in_default.is)
    c.in_ok-message.ensures.sound).1

-- A message of texts within their limits can be sent.
pub returns-clause-whole : goal.returns-clause-whole
returns-clause-whole c = (when_taken c.as_slice.result.now c.self.inside.stage c.replace-stage.result c.args.pdv
    c.replace-stage.ensures.value c.self.invariant (sym c.fault_with.ensures ∙ c.in_default.is)
    c.in_ok-message.ensures.sound).0
