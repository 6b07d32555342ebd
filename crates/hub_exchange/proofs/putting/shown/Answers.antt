use Rattle.std.proofs.Common.{sym, subst, ◌∙◌, List, ℕ}
use Rattle.hub_exchange.specs.Putting.{IsKept, WasWritten}
use Rattle.hub_exchange.proofs.PuttingLaws.{kept_with, written_last}
use Rattle.hub_exchange.proofs.putting.shown.Goals as goal

-- The digest was just written.
pub invariant_of-result : goal.invariant_of-result
invariant_of-result g c = record {
  written =
      subst (WasWritten c.extract.result) (c.as_bytes.ensures ∙ (c.digest.ensures.own ∙ sym c.digest-2.ensures.own))
      (subst (λ (all : List (List ℕ)). WasWritten all c.as_bytes.result.now) (sym (c.extract.ensures ∙ c.write.ensures))
      (written_last c.args.ledger.now c.as_bytes.result.now));
}

-- So it is kept, as all before it.
pub returns : goal.returns
returns g c = record {
  kept = kept_with g.K.Keep.is_up g.K.Keep.holds g.K.Keep.lasts c.args._shelf.now c.args.ledger.now c.write.new.self
      c.as_bytes.result.now c.write.ensures
      (subst (IsKept g.K.Keep.is_up g.K.Keep.holds g.K.Keep.lasts c.args._shelf.now)
      (sym (c.as_bytes.ensures ∙ c.digest.ensures.hash)) c.requires.put) c.requires.kept;
  own = c.digest-2.ensures.own;
}
