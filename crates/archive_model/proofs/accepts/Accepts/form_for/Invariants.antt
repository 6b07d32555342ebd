use Rattle.std.proofs.Common.{◌≡◌, length}
use Rattle.archive_model.specs.Accepts.{form_for}
use Rattle.archive_model.proofs.accepts.Accepts.form_for.Given as goal

-- What the entries that are left say of the class is what all of them say.
abbrev pub invariant-loop-rest : goal.invariant-loop-rest
invariant-loop-rest l = form_for l.rest l.class l.own ≡ form_for l.self.list l.class l.own

-- Each turn leaves fewer entries.
abbrev pub decreases-loop-rest : goal.decreases-loop-rest
decreases-loop-rest l = length l.rest
