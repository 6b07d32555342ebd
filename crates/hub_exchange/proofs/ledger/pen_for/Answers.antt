use Rattle.std.proofs.Common.{sym, ◌∙◌, ap}
use Rattle.hub_exchange.proofs.Steps.{makes_moves}
use Rattle.hub_exchange.proofs.ledger.pen_for.Goals as goal

-- Whatever the book is, a pen may be made.
pub compare_exchange-requires : goal.compare_exchange-requires
compare_exchange-requires c =
    let h = c.requires.head in
    let offer = c.plain-offer.ensures in
    let pen = c.no_pen-pen.ensures in (
      ap (λ w. w.tracked) h,
      ap (λ s. s.book) c.again-then.ensures ∙ sym (ap (λ w. w.book) h),
      pen.0 ∙ sym (ap (λ w. w.book) h),
      offer.0 ∙ sym (ap (λ s. s.names) c.again-then.ensures),
      rw (ap (λ w. w.key) h, pen.1, offer.3) (makes_moves _ _ c.plain-offer.result.ask),
    )
