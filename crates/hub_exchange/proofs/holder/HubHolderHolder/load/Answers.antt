use Rattle.std.proofs.Common.{inl, sym, ap, ◌∙◌, Some}
use Rattle.std.proofs.lemmas.Result.{err_from_is_err_and}
use Rattle.operation.specs.declared.op.Op.{Op}
use Rattle.exchange.proofs.Holdings.{turned}
use Rattle.hub_exchange.specs.Putting.{IsLent}
use Rattle.hub_exchange.proofs.HolderLaws.{load_refused_at_hub}
use Rattle.hub_exchange.proofs.PuttingLaws.{refused_by_those}
use Rattle.hub_exchange.proofs.OnwardLaws.{onward_seen}
use Rattle.hub_exchange.proofs.holder.HubHolderHolder.load.Goals as goal

-- A look makes nothing the pass's own, where it was refused,
pub invariant_of-self : goal.invariant_of-self
invariant_of-self g c = record {
  onward = onward_seen _ _ _ _ c.self.invariant.onward c.look.ensures.looked;
  lent = c.self.invariant.lent;
}

-- where it found nothing,
pub invariant_of-self-in_default : goal.invariant_of-self-in_default
invariant_of-self-in_default g c = record {
  onward = onward_seen _ _ _ _ c.self.invariant.onward c.look.ensures.looked;
  lent = c.self.invariant.lent;
}

-- and where it found a record.
pub invariant_of-self-in-Ok : goal.invariant_of-self-in-Ok
invariant_of-self-in-Ok g c = record {
  onward = onward_seen _ _ _ _ c.self.invariant.onward c.look.ensures.looked;
  lent = c.self.invariant.lent;
}

pub invariant_of-self-2 : goal.invariant_of-self-2
invariant_of-self-2 g c = record {
  onward = onward_seen _ _ _ _ c.self.invariant.onward c.look.ensures.looked;
  lent = c.self.invariant.lent;
}

-- A look that was refused is why nothing is loaded.
pub returns-in_err-held : goal.returns-in_err-held
returns-in_err-held g c =
    let p = err_from_is_err_and c.from_residual.result c.from_residual.ensures.1 in
    rw (← c.self.view_is) (rw p.1 (turned c.in_err-held.ensures.looks (λ m why. inl (rw p.2 why))))

-- What is not held is not loaded.
pub returns-in_default : goal.returns-in_default
returns-in_default g c =
    rw (← c.self.view_is) (turned c.in_ok-held.ensures.looks (λ m is. sym is ∙ c.in_default.is))

-- What is loaded is of the record that is held.
pub returns-in-Ok : goal.returns-in-Ok
returns-in-Ok g c =
    let stands = c.in-Ok.ensures.stands in
    rw (← c.self.view_is) (turned c.in_ok-held.ensures.looks (λ m is.
    (sym is ∙ c.in-Some.is ∙ ap (λ (o : Op). Some o) (sym stands.0), stands.1)))

-- Why no operation of the record came is why nothing is loaded.
pub returns : goal.returns
returns g c =
    rw (← c.self.view_is) (load_refused_at_hub (IsLent g.E.AtLending.lent) g.P.Put.refuses_load g.P.Put.has_loaded
    g.H.HubName.opening c.self.inside.pass c.look.new.pass c.args.digest.now c.in-Some.held c.in-Err.fault
    (turned c.in_ok-held.ensures.looks (λ m is. sym c.in-Some.is ∙ is))
    (refused_by_those (IsLent (Some c.self.inside.shelf.now)) (IsLent g.E.AtLending.lent) g.P.Put.refuses_load
    g.P.Put.has_loaded c.in-Some.held c.args.digest.now c.in-Err.fault (λ way is. c.self.invariant.lent ∙ is)
    c.in-Err.ensures.why))
