use Rattle.std.proofs.Common.{◌<◌, length, get_or, ap, subst, sym, ◌∙◌, arith}
use Rattle.octets.specs.Members.{Has}
use Rattle.walk_frames.specs.Entries.{EntryParts}
use Rattle.exchange_walk.specs.Hearing.{IsChildOfSplit}
use Rattle.exchange_walk.proofs.Lists.{has_at}
use Rattle.exchange_walk.proofs.Children.{one_more}
use Rattle.exchange_walk.proofs.hearing.is_answer_to.Goals as goal

-- This one is not.
pub returns-then-not-is_child_of_split : goal.returns-then-not-is_child_of_split
returns-then-not-is_child_of_split c =
    let heard = c.entries-entry-items.result.now in
    let at = c.loop-entry.entry-index in
    let item = c.entry-item.result in
    let lt : at < length heard = omega (arith, c.loop-entry-test.true, c.loop-entry.auto.entry-index-end) in
    let same = ap (λ (e : EntryParts). e.node) (sym c.entry-item.is) ∙ sym c.node.ensures in (
      λ e. absurd cc,
      λ all.
          let h = subst (λ es. Has es (get_or heard at item)) c.entries-entry-items.ensures.value (has_at heard at item lt) in
          let is = c.is_child_of_split.ensures.1 (subst (λ s. IsChildOfSplit s c.node.result.now)
          (sym c.entries-said.ensures.value)
          (subst (IsChildOfSplit c.args.said.now) same (all (get_or heard at item) h))) in
          absurd (let clash = sym is ∙ c.if-not-is_child_of_split.true in cc),
    )

-- One more is.
pub loop-entry-preserved : goal.loop-entry-preserved
loop-entry-preserved c =
    one_more c.entries-said.result.now c.entries-entry-items.result.now c.loop-entry.entry-index c.entry-item.result
    (omega (arith, c.loop-entry-test.true, c.loop-entry.auto.entry-index-end)) c.loop-entry.invariant
    (subst (IsChildOfSplit c.entries-said.result.now)
    (c.node.ensures ∙ ap (λ (e : EntryParts). e.node) c.entry-item.is)
    (c.is_child_of_split.ensures.0 c.if-not-is_child_of_split.false))
