use Rattle.std.proofs.Common.{◌≡◌, Err, ap, refl, sym, subst, ◌∙◌}
use Rattle.std.proofs.lemmas.Result.{err_from_is_err_and}
use Rattle.site_hub.specs.declared.fault.HubFault.TheVariants.{BadCorrection, StampsSpent}
use Rattle.shelved_site.specs.declared.fault.ShelvedFault.TheVariants.{Hidden, Hub}
use Rattle.shelved_site.specs.Readable.{Shown}
use Rattle.shelved_site.specs.Sites.{IsBeforeHub}
use Rattle.shelved_site.proofs.Sites.{before_hub, corrected_in, no_hub, not_hidden, site_since, spent_in, unmade_in}
use Rattle.shelved_site.proofs.correcting.correct_on.Goals as goal

-- The store refused, or its site did.
pub returns-in_err-site-clause-unmade : goal.returns-in_err-site-clause-unmade
returns-in_err-site-clause-unmade g c clean =
    let out = err_from_is_err_and c.from_residual.result c.from_residual.ensures.1 in
    rw out.1 (before_hub (Shown (g.S.Store.shows c.args.store.now)) c.args.number c.args.target c.args.tag c.args.value out.0
    (subst IsBeforeHub (sym out.2) c.in_err-site.ensures.fault))

-- That is no refusal of what can't be read.
pub returns-in_err-site-clause-hidden : goal.returns-in_err-site-clause-hidden
returns-in_err-site-clause-hidden g c clean hidden =
    let out = err_from_is_err_and c.from_residual.result c.from_residual.ensures.1 in
    let is : out.0 ≡ Hidden = (let both = sym out.1 ∙ hidden in cc) in
    absurd (not_hidden out.0 (subst IsBeforeHub (sym out.2) c.in_err-site.ensures.fault) is)

-- It is no bad correction.
pub returns-in_err-site-clause-bad_correction : goal.returns-in_err-site-clause-bad_correction
returns-in_err-site-clause-bad_correction g c bad =
    let out = err_from_is_err_and c.from_residual.result c.from_residual.ensures.1 in
    let is : out.0 ≡ Hub BadCorrection = (let both = sym out.1 ∙ bad in cc) in
    absurd (no_hub out.0 BadCorrection (subst IsBeforeHub (sym out.2) c.in_err-site.ensures.fault) is)

-- And no spent counter.
pub returns-in_err-site-clause-stamps_spent : goal.returns-in_err-site-clause-stamps_spent
returns-in_err-site-clause-stamps_spent g c clean spent =
    let out = err_from_is_err_and c.from_residual.result c.from_residual.ensures.1 in
    let is : out.0 ≡ Hub StampsSpent = (let both = sym out.1 ∙ spent in cc) in
    absurd (no_hub out.0 StampsSpent (subst IsBeforeHub (sym out.2) c.in_err-site.ensures.fault) is)
