use Rattle.std.proofs.Common.{rules, subst, ◌≡◌, ◌⊎◌}
use Rattle.operation.specs.declared.op.Op.{Op}
use Rattle.site_state.specs.Site.{IsClash}
use Rattle.site_hub.specs.History.{set_of}
use Rattle.site_hub.specs.declared.fault.HubFault.TheVariants.{Busy, Collision}
use Rattle.site_hub.proofs.Laters.{later_kept}
use Rattle.site_hub.proofs.keeper.Keeper.take_made.Goals as goal

-- The pass is as it was, but for the refusal.
pub returns-in_err-taken-clause-goes_on : goal.returns-in_err-taken-clause-goes_on
returns-in_err-taken-clause-goes_on g c = record {
  later = later_kept _ _ (search rules) (search rules) (search rules);
  counted = search rules;
}

-- What refuses the record of the correction refuses the correction.
pub returns-in_err-taken-clause-refuses : goal.returns-in_err-taken-clause-refuses
returns-in_err-taken-clause-refuses g c =
    let fault = c.in_err-taken.field-0.0 in
    let why = subst (λ (op : Op). (fault ≡ Busy) ⊎ ((fault ≡ Collision)
    × IsClash (set_of g.H.HubName.opening c.args.self.now.all) op)) c.in-Ok-of_correction.ensures
    c.in_err-taken.ensures.held in
    search (why, rules)
