use Rattle.std.proofs.Common.{IsTrue}
use Rattle.std.proofs.lemmas.Result.{IfOk-weaker}
use Rattle.body_log.specs.Log.{disk_of}
use Rattle.op_log.specs.Recorded.{Records}
use Rattle.op_log.proofs.Recordings.{all_read}
use Rattle.op_log.proofs.telling.all_records_with.Goals as goal

-- Where nothing is told, all is read.
pub returns-clause-all : goal.returns-clause-all
returns-clause-all g c =
    let file = g.B.Disk.seen (disk_of c.args.bodies.now) in
    let heads = c.args.places.now in
    IfOk-weaker c.all_told_with.result _
    (λ recorded. IsTrue (g.B.Disk.is_clean (disk_of c.all_told_with.new.bodies)) → Records file heads recorded.items)
    (λ recorded are clean. all_read file heads recorded.items (are clean)) c.all_told_with.ensures.all
