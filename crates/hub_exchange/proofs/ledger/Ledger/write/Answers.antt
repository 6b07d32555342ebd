use Rattle.std.proofs.Common.{[], ◌∷◌, ◌++◌, refl, sym, ◌∙◌, ap}
use Rattle.hub_exchange.specs.Lines.{Written, digests_of}
use Rattle.hub_exchange.specs.Rules.{signed}
use Rattle.hub_exchange.proofs.Lines.{digest_more, pen_more}
use Rattle.hub_exchange.proofs.Steps.{writes_moves}
use Rattle.hub_exchange.proofs.ledger.Ledger.write.Goals as goal

-- Whatever the book is, the pen may write.
pub compare_exchange-requires : goal.compare_exchange-requires
compare_exchange-requires g c =
    let i = c.self.invariant in
    let offer = c.plain-offer.ensures in (
      ap (λ w. w.tracked) i.0,
      i.1 ∙ sym (ap (λ w. w.book) i.0),
      i.2 ∙ sym (ap (λ w. w.book) i.0),
      offer.0,
      rw (ap (λ w. w.key) i.0, offer.3) (writes_moves _ _ c.plain-offer.result.ask i.3),
    )

-- The next pen is the new one, which the line names.
pub invariant_of-self : goal.invariant_of-self
invariant_of-self g c =
    let i = c.self.invariant in let wrote = c.compare_exchange.ensures.7 in (
      i.0,
      c.compare_exchange.ensures.0 ∙ i.1,
      c.pen_for.ensures.book ∙ i.1,
      c.pen_for.ensures.right,
      sym (pen_more g.N.LedgerName.first c.self.inside.pen.nib.key c.self.inside.seen.log wrote.0
          c.compare_exchange.new.seen.log (signed c.self.inside.pen.nib.key c.plain-offer.result.ask) i.4 refl wrote.1
          wrote.2 wrote.3 ∙ ap (λ (w : Written). w.next) c.plain-offer.ensures.1),
    )

-- The line stands behind all that was there.
pub returns : goal.returns
returns g c =
    let first = g.N.LedgerName.first in let seen = c.self.inside.seen.log in
    let wrote = c.compare_exchange.ensures.7 in
    rw (← c.self.view_is) (digest_more first c.self.inside.pen.nib.key seen wrote.0 c.compare_exchange.new.seen.log
    (signed c.self.inside.pen.nib.key c.plain-offer.result.ask) c.self.invariant.4 refl wrote.1 wrote.2 wrote.3
    ∙ ap (λ (w : Written). digests_of first seen ++ w.digest ∷ []) c.plain-offer.ensures.1)
