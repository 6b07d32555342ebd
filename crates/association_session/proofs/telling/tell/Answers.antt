use Rattle.std.proofs.Common.{List, subst}
use Rattle.association_session.specs.declared.deed.Deed.{Deed}
use Rattle.association_session.specs.inner.Telling.{TellsSome}
use Rattle.association_session.proofs.telling.tell.Goals as goal

-- The last rows are told, and their end.
pub returns-then-ended-clause-told : goal.returns-then-ended-clause-told
returns-then-ended-clause-told c = (
  c.put_rows.new.deeds,
  subst (λ (d : List Deed). TellsSome c.args.awaited.now c.args.kind c.args.rows.now c.put_rows.new.rows d
      c.put_rows.new.deeds) c.new-deeds.ensures c.in_ok-ended.ensures.told,
  c.in_ok-put_end.ensures.ends,
  c.in_ok-ended.ensures.ended c.if-ended.true,
)

-- Some rows are told, and the others are left.
pub returns-clause-told : goal.returns-clause-told
returns-clause-told c =
    subst (λ (d : List Deed). TellsSome c.args.awaited.now c.args.kind c.args.rows.now c.put_rows.new.rows d
    c.put_rows.new.deeds) c.new-deeds.ensures c.in_ok-ended.ensures.told
