use Rattle.std.proofs.Common.{sym, subst, Some}
use Rattle.std.proofs.lemmas.Option.{same_Some}
use Rattle.std.proofs.lemmas.Result.{err_from_is_err_and}
use Rattle.hub_exchange.specs.Putting.{IsLent, HaveGoneOn, HasFound}
use Rattle.hub_exchange.proofs.PuttingLaws.{refused_by_those}
use Rattle.hub_exchange.proofs.Gains.{of_records, stands_loaded, load_refused_on_shelf}
use Rattle.hub_exchange.proofs.shelf_holder.ShelvedHolderHolder.load.Goals as goal

-- What is not held is not loaded.
pub returns-in_default : goal.returns-in_default
returns-in_default g c = let lawful = c.see_lawful.ensures in
    rw (← c.self.view_is) (of_records c.self.inside.site lawful.own lawful.lawful (sym c.in_default.ensures.found))

-- Why no operation of the record came is why nothing is loaded.
pub returns-in_err-op : goal.returns-in_err-op
returns-in_err-op g c =
    let p = err_from_is_err_and c.from_residual.result c.from_residual.ensures.1 in
    let lawful = c.see_lawful.ensures in
    let these = HaveGoneOn g.K.Keep.is_up g.K.Keep.lasts g.E.AtOpening.lasted g.E.AtOpening.opening c.self.inside.site in
    let named : (shelf : _) → IsLent (Some c.self.inside.shelf) shelf → these shelf =
    λ shelf is. subst these (same_Some _ _ is) c.self.invariant in
    let found = HasFound g.K.Keep.is_up g.K.Keep.holds in
    let why = load_refused_on_shelf these g.K.Keep.is_up g.K.Keep.holds g.K.Keep.refuses_load c.self.inside.site
    c.args.digest.now c.in-Some.held.now p.0 (sym c.in-Some.ensures.found)
    (refused_by_those (IsLent (Some c.self.inside.shelf)) these g.K.Keep.refuses_load found c.in-Some.held.now
    c.args.digest.now p.0 named (rw p.2 c.in_err-op.ensures.why)) in
    rw (← c.self.view_is) (of_records c.self.inside.site lawful.own lawful.lawful (rw p.1 why))

-- What is loaded is of the record that is held.
pub returns : goal.returns
returns g c =
    let lawful = c.see_lawful.ensures in
    let stands = c.in_ok-op.ensures.stands in
    rw (← c.self.view_is) (of_records c.self.inside.site lawful.own lawful.lawful
    (stands_loaded c.self.inside.site c.args.digest.now c.in-Some.held.now c.in_ok-op.op
    (sym c.in-Some.ensures.found) stands.0 stands.1))
