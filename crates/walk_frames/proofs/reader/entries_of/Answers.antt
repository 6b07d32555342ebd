use Rattle.std.proofs.lemmas.Result.{err_from_is_err_and}
use Rattle.walk_frames.specs.Reading.{entries_at}
use Rattle.walk_frames.proofs.EntryLoop.{goes_on, ends, is_done}
use Rattle.walk_frames.proofs.reader.entries_of.Goals as goal

-- An entry that can't be read is the fault of all.
pub returns-in_err-entry : goal.returns-in_err-entry
returns-in_err-entry c =
    let p = err_from_is_err_and c.from_residual.result c.from_residual.ensures.1 in
    rw (p.1, p.2) (ends c.in_err-entry.field-0.0 c.loop.entries.items c.args.count c.loop.counter c.loop.rest.now
    (entries_at c.args.count c.args.text.now) c.loop-test.true c.in_err-entry.ensures c.loop.invariant)

-- One more entry is in hand, and the text behind it is left.
pub loop-preserved : goal.loop-preserved
loop-preserved c =
    rw c.in_ok-push.ensures.items (goes_on c.loop.entries.items c.args.count c.loop.counter c.loop.rest.now
    c.in_ok-entry.entry c.in_ok-entry.after.now (entries_at c.args.count c.args.text.now) c.loop-test.true
    c.in_ok-entry.ensures c.loop.invariant)

-- No entry is left to be read.
pub returns : goal.returns
returns c = is_done c.loop.entries.items c.args.count c.loop.counter c.loop.rest.now
    (entries_at c.args.count c.args.text.now) c.loop-test.false c.loop.invariant
