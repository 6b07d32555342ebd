use Rattle.record_log.specs.Entries.{entries_text}
use Rattle.record_log.proofs.Keeping.{told_one_more, written_more}
use Rattle.record_log.proofs.adding.entries_of.Goals as goal

-- At first there is none.
pub loop-content-init : goal.loop-content-init
unfolding entries_text
loop-content-init c = record { text = c.new-out.ensures.items; told = tt }

-- One entry more, or none.
pub loop-content-preserved : goal.loop-content-preserved
loop-content-preserved c =
    let contents = c.args.contents.now in
    let i = c.loop-content.content-index in
    let it = c.content-item.result in
    record {
      text = written_more contents i it c.loop-content.out.items c.put_entry.new.out.items c.loop-content-test.true
          c.content-item.is c.loop-content.invariant.text c.in_ok-put_entry.ensures.text;
      told = told_one_more contents i it c.loop-content-test.true c.content-item.is c.loop-content.invariant.told
          c.in_ok-put_entry.ensures.told;
    }
