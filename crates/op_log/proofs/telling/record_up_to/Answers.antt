use Rattle.std.proofs.Common.{◌≡◌, ◌++◌, ◌∷◌, [], List, map, take, inr, refl, subst, sym, ap, ◌∙◌}
use Rattle.body_log.specs.Log.{disk_of}
use Rattle.operation.specs.declared.op.Op.{Op}
use Rattle.operation.specs.declared.op.Op.TheVariants.{Content as a_content}
use Rattle.operation.specs.Spelling.{digest_of}
use Rattle.op_log.specs.Heads.{Head}
use Rattle.op_log.specs.Recorded.{AreRecordedAs}
use Rattle.op_log.specs.Verified.{digests_of}
use Rattle.op_log.proofs.Lists.{told_more}
use Rattle.op_log.proofs.Recordings.{recorded_more}
use Rattle.op_log.proofs.TestedBodies.{take_more}
use Rattle.op_log.proofs.telling.record_up_to.Goals as goal

-- One digest more is told.
pub returns-clause-told : goal.returns-clause-told
returns-clause-told g c was =
    let heads = c.args.places.now in
    let before = c.record_between.new.recorded.items in
    let r = a_content c.args.content.now in
    let (h, at, named) = c.in-Some.ensures.found in
    let more = take_more heads c.in-Some.index h at in
    let items : c.push.new.self.items ≡ before ++ r ∷ [] = c.in_ok-push.ensures.items
    ∙ ap (λ (o : Op). before ++ o ∷ []) (c.of_content.ensures ∙ ap a_content c.in_ok-copy.ensures) in
    ap (λ (ops : List Op). map digest_of ops) items
    ∙ told_more (take c.in-Some.index heads) before h r (c.in_ok-record_between.ensures.told was) (sym c.digest.ensures ∙ sym named)
    ∙ ap digests_of (sym more)

-- One told content more is recorded.
pub returns-clause-all : goal.returns-clause-all
returns-clause-all g c clean told among was =
    let file = g.B.Disk.seen (disk_of c.args.bodies.now) in
    let heads = c.args.places.now in
    let before = c.record_between.new.recorded.items in
    let r = a_content c.args.content.now in
    let (h, at, named) = c.in-Some.ensures.found in
    let more = take_more heads c.in-Some.index h at in
    let items : c.push.new.self.items ≡ before ++ r ∷ [] = c.in_ok-push.ensures.items
    ∙ ap (λ (o : Op). before ++ o ∷ []) (c.of_content.ensures ∙ ap a_content c.in_ok-copy.ensures) in
    subst (λ (hs : List Head). AreRecordedAs file told hs c.push.new.self.items) (sym more)
    (subst (λ (ops : List Op). AreRecordedAs file told (take c.in-Some.index heads ++ h ∷ []) ops) (sym items)
    (recorded_more file told (take c.in-Some.index heads) before h r (c.in_ok-record_between.ensures.all clean told was)
    (inr (c.args.content.now, among, refl, sym c.digest.ensures ∙ sym named))))
