use Rattle.std.proofs.Common.{inr, refl, ap, ◌∙◌}
use Rattle.std.proofs.lemmas.Result.{err_from_is_err_and}
use Rattle.site_hub.specs.declared.fault.HubFault.TheVariants as hub_faults
use Rattle.exchange.specs.Buckets.{bucket_list}
use Rattle.exchange.proofs.Holdings.{turned}
use Rattle.hub_exchange.proofs.OnwardLaws.{onward_seen}
use Rattle.hub_exchange.proofs.holder.HubHolderHolder.buckets.Goals as goal

-- A look makes nothing the pass's own, where it was refused,
pub invariant_of-self : goal.invariant_of-self
invariant_of-self g c = record {
  onward = onward_seen _ _ _ _ c.self.invariant.onward c.look.ensures.looked;
  lent = c.self.invariant.lent;
}

-- where memory was refused for the buckets,
pub invariant_of-self-in_err-buckets_of : goal.invariant_of-self-in_err-buckets_of
invariant_of-self-in_err-buckets_of g c = record {
  onward = onward_seen _ _ _ _ c.self.invariant.onward c.look.ensures.looked;
  lent = c.self.invariant.lent;
}

-- and where these are told.
pub invariant_of-self-2 : goal.invariant_of-self-2
invariant_of-self-2 g c = record {
  onward = onward_seen _ _ _ _ c.self.invariant.onward c.look.ensures.looked;
  lent = c.self.invariant.lent;
}

-- A look that was refused is why there are none.
pub returns-in_err-digests : goal.returns-in_err-digests
returns-in_err-digests g c =
    let p = err_from_is_err_and c.from_residual.result c.from_residual.ensures.1 in
    rw (← c.self.view_is) (rw p.1 (turned c.in_err-digests.ensures.looks (λ m why. rw p.2 why)))

-- So is want of memory for them.
pub returns-in_err-buckets_of : goal.returns-in_err-buckets_of
returns-in_err-buckets_of g c =
    let it = c.from_residual-in_err-buckets_of in let p = err_from_is_err_and it.result it.ensures.1 in
    rw (← c.self.view_is) (rw p.1 (turned c.in_ok-digests.ensures.looks (λ m is. record {
      cause = hub_faults.Memory;
      of_look = inr refl;
      counted = tt;
      told = p.2;
    })))

-- They are those of the digests that the look found.
pub returns : goal.returns
returns g c =
    rw (← c.self.view_is) (turned c.in_ok-digests.ensures.looks (λ m is. c.in_ok-buckets_of.ensures
    ∙ ap bucket_list is))
