use Rattle.std.proofs.Common.{◌++◌, ◌∷◌, [], List, take, sym, subst, ap, ◌∙◌}
use Rattle.std.proofs.lemmas.List.{take_more}
use Rattle.operation.specs.Parts.{ContentParts}
use Rattle.op_log.specs.Readable.{IsTableOf}
use Rattle.op_log.proofs.told_contents.ToldContents.of.Goals as goal

-- One content more was taken.
pub contents-preserved : goal.contents-preserved
contents-preserved c =
    let told = c.args.told.now in
    let at = c.contents.content-index in
    let more = ap (λ (k : ContentParts). take at told ++ k ∷ []) c.content-item.is
    ∙ sym (take_more told at c.content-item.result c.contents-test.true) in
    subst (λ (ks : List ContentParts). IsTableOf ks c.add.new.self.table.entries) more
    (c.in_ok-add.ensures (take at told) c.contents.invariant)
