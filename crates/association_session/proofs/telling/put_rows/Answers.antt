use Rattle.std.proofs.Common.{inr}
use Rattle.association_session.proofs.TellLaws.{tells_more, fewer_more}
use Rattle.association_session.proofs.telling.put_rows.Goals as goal

-- A row more is told.
pub loop-spelled-preserved : goal.loop-spelled-preserved
loop-spelled-preserved c = record {
  told = tells_more c.args.awaited.now c.args.kind c.args.rows.now c.loop-spelled.rows c.next.new.self c.in-Some.row
      c.in_ok-row.field-0 c.args.deeds.now c.loop-spelled.deeds c.put_row.new.deeds c.loop-spelled.invariant.told
      c.in_ok-row.ensures.parts c.in-Some.is c.in_ok-size.ensures.told;
  fewer = inr (fewer_more c.args.awaited.now c.args.kind c.args.rows.now c.loop-spelled.rows c.next.new.self
      c.in-Some.row c.in_ok-row.field-0 c.args.deeds.now c.loop-spelled.deeds c.loop-spelled.invariant.told
      c.in_ok-row.ensures.parts c.in-Some.is);
  writable = λ before. c.in_ok-size.ensures.writable (c.loop-spelled.invariant.writable before);
}
