use Rattle.std.proofs.Common.{◌++◌, ◌∷◌, [], inl, refl, subst, sym}
use Rattle.head_log.proofs.Opening.{on_err}
use Rattle.head_log.specs.declared.gate.Gate.{Gate}
use Rattle.head_log.specs.Groups.{Ready}
use Rattle.head_log.proofs.log.HeadLog.add.Goals as goal

-- The gate is still shut.
pub returns-in_err-stage-clause-crash : goal.returns-in_err-stage-clause-crash
returns-in_err-stage-clause-crash g c groups ready left may =
    let end = c.args.self.now.end in
    inl (inl (end, c.stage.ensures.kept end groups refl ready left may))

pub returns-in_err-stage-clause-refused : goal.returns-in_err-stage-clause-refused
returns-in_err-stage-clause-refused g c =
    on_err c.from_residual-in_err-stage.result
    λ up. (refl, λ groups ready. c.stage.ensures.kept c.args.self.now.end groups refl ready)

-- The gate may be open.
pub returns-in_err-open-clause-crash : goal.returns-in_err-open-clause-crash
returns-in_err-open-clause-crash g c groups ready left may =
    c.open.ensures.crash groups (c.stage.ensures.kept c.args.self.now.end groups refl ready) left may

pub returns-clause-added : goal.returns-clause-added
returns-clause-added g c groups ready left may =
    let more = groups ++ c.args.group.now ∷ [] in
    subst (λ (gate : Gate). Ready left gate more) (sym c.after-next.ensures.next)
    (c.in_ok-open.ensures.opened groups (c.stage.ensures.kept c.args.self.now.end groups refl ready) left may)

pub returns-clause-crash : goal.returns-clause-crash
returns-clause-crash g c groups ready left may =
    c.open.ensures.crash groups (c.stage.ensures.kept c.args.self.now.end groups refl ready) left may
