use Rattle.std.proofs.Common.{sym, ap, ◌∙◌}
use Rattle.operation.specs.Spelling.{digest_of}
use Rattle.hub_exchange.specs.Putting.{WasWritten}
use Rattle.hub_exchange.proofs.HolderLaws.{pass_takes, pass_onward, refused_sees, refused_for}
use Rattle.hub_exchange.proofs.holder.publish.Goals as goal

-- What the keeper takes of the record for the pass the holder takes of the operation, and its digest is the one that
-- was put; a refusal shows nothing.
pub returns : goal.returns
returns g c =
    let told = c.store-told.ensures in let op = c.args._op.now in let recorded = c.args.recorded in
    let before = c.args.pass.now in let later = c.store-told.new.pass in
    let is = c.requires.stands in let same = c.requires.same in
    record {
      takes = pass_takes g.H.HubName.opening before later op recorded c.store-told.result c.reply.result is same
          c.reply.ensures c.see_history.ensures told.goes_on.later told.takes;
      refused = refused_sees g.H.HubName.opening before later recorded c.store-told.result c.reply.result
          c.reply.ensures told.refuses;
      why = refused_for g.H.HubName.opening before later op recorded c.store-told.result c.reply.result is
          c.reply.ensures told.refuses told.goes_on.counted;
      onward = pass_onward g.H.HubName.opening (WasWritten c.args._shelved.now.extract) before later recorded
          c.store-told.result c.args._shelved.now.digest c.args._shelved.now.written
          (c.requires.shelved ∙ sym (ap digest_of is ∙ same)) told.goes_on.later told.takes told.refuses;
    }
