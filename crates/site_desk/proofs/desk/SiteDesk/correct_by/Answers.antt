use Rattle.std.proofs.Common.{inl, inr}
use Rattle.std.proofs.lemmas.Result.{err_from_is_err_and}
use Rattle.site_desk.proofs.WhyLaws.{made_none, of_change}
use Rattle.site_desk.proofs.desk.SiteDesk.correct_by.Goals as goal

-- Where the words ask for no change the desk stays.
pub returns-in_err-change-clause-none : goal.returns-in_err-change-clause-none
returns-in_err-change-clause-none g c =
    let p = err_from_is_err_and c.from_residual.result c.from_residual.ensures.1 in
    rw p.1 (made_none g.H.HubName.opening c.args.self.now _ p.0 (rw p.2 c.in_err-change.ensures.fault))

-- The words ask for no change,
pub returns-in_err-change-clause-why : goal.returns-in_err-change-clause-why
returns-in_err-change-clause-why g c =
    let p = err_from_is_err_and c.from_residual.result c.from_residual.ensures.1 in
    rw p.1 (inl (rw p.2 c.in_err-change.ensures.none))

-- or a part of it may not be,
pub returns-in_err-allowed-clause-why : goal.returns-in_err-allowed-clause-why
returns-in_err-allowed-clause-why g c =
    let it = c.from_residual-in_err-allowed in let p = err_from_is_err_and it.result it.ensures.1 in
    rw p.1 (inr (c.in_ok-change.change, c.in_ok-change.ensures.ok, inl (rw p.2 c.in_err-allowed.ensures.refused)))

-- or it is not made.
pub returns-clause-why : goal.returns-clause-why
returns-clause-why g c = of_change g.H.HubName.opening c.args.self.now c.correct.new.self c.args.words.now c.in_ok-change.change c.correct.result
    c.in_ok-change.ensures.ok c.correct.ensures.why
