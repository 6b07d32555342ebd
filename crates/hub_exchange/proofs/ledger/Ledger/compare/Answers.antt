use Rattle.std.proofs.Common.{ℕ, List, sym, subst, ◌∙◌, ap}
use mathlib.Core.List.{IsPrefix}
use Rattle.hub_exchange.specs.Lines.{Written, digests_of}
use Rattle.hub_exchange.proofs.Lines.{digests_begin, all_seen, prefix_trans}
use Rattle.hub_exchange.proofs.Steps.{looks_moves}
use Rattle.hub_exchange.proofs.ledger.Ledger.compare.Goals as goal

-- Whatever the book is, the pen may look.
pub compare_exchange-requires : goal.compare_exchange-requires
compare_exchange-requires g c =
    let i = c.self.invariant in
    let offer = c.plain-offer.ensures in (
      ap (λ w. w.tracked) i.0,
      c.learn.ensures.0 ∙ (ap (λ s. s.book) c.again-seen.ensures ∙ (i.1 ∙ sym (ap (λ w. w.book) i.0))),
      i.2 ∙ sym (ap (λ w. w.book) i.0),
      offer.0,
      rw (ap (λ w. w.key) i.0, offer.3) (looks_moves _ _ _ c.plain-offer.result.ask i.3),
    )

-- What was learned is in the book, where the pen has written nothing.
pub returns-clause-begins : goal.returns-clause-begins
returns-clause-begins g c =
    let first = g.N.LedgerName.first in
    let both = c.compare_exchange.new.seen.log in
    let step = c.compare_exchange.ensures in
    let mine : IsPrefix c.self.inside.seen.log both = prefix_trans _ _ _
    (subst (λ (l : List Written). IsPrefix l c.learn.new.self.log) (ap (λ s. s.log) c.again-seen.ensures)
    c.learn.ensures.2) step.6 in
    let theirs : IsPrefix c.extract.inside.seen.log both = prefix_trans _ _ _ c.learn.ensures.3 step.6 in
    rw (← c.extract.view_is) (subst (λ (t : List (List ℕ)). IsPrefix (digests_of first c.extract.inside.seen.log) t)
    (all_seen first c.self.inside.pen.nib.key c.self.inside.seen.log both c.self.invariant.4 mine step.7.1)
    (digests_begin first c.extract.inside.seen.log both theirs))
