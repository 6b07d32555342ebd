use Rattle.hub_exchange.proofs.OnwardLaws.{onward_seen}
use Rattle.hub_exchange.proofs.holder.HubHolderHolder.missing.Goals as goal

-- A look makes nothing the pass's own.
pub invariant_of-self : goal.invariant_of-self
invariant_of-self g c = record {
  onward = onward_seen _ _ _ _ c.self.invariant.onward c.look.ensures.looked;
  lent = c.self.invariant.lent;
}

-- What the pass answers the holder answers.
pub returns : goal.returns
returns g c = let look = c.look.ensures.looks in record {
  had = look.had;
  was_had = rw (← c.self.view_is) look.was_had;
  answers = rw (← c.self.view_is) look.answers;
  stays = λ none. elim none [ ];
}
