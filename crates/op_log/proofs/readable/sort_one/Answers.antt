use Rattle.std.proofs.Common.{◌≡◌, ◌+◌, ℕ, List, Ok, IsTrue, length, take, subst, ap, ◌∙◌, arith}
use Rattle.std.proofs.lemmas.List.{length-take-le}
use Rattle.std.proofs.lemmas.List.Elements.{All-contains}
use Rattle.body_log.specs.Log.{disk_of, end_of}
use Rattle.operation.specs.Parts.{ContentParts}
use Rattle.operation.specs.Spelling.{digest_of}
use Rattle.operation.specs.declared.op.Op.{Op}
use Rattle.op_log.specs.Kept.{IsBelow}
use Rattle.op_log.specs.Places.{head_by}
use Rattle.op_log.specs.Readable.{IsAmiss, IsNamed, IsTableOf, IsUntold}
use Rattle.op_log.specs.Recorded.{IsRecordedAs}
use Rattle.op_log.proofs.Growing.{reaches_less}
use Rattle.op_log.proofs.Lists.{at_among}
use Rattle.op_log.proofs.Parted.{listed_as, listed_next, more_listed, more_recorded, of_some, parted_as, recorded_next}
use Rattle.op_log.proofs.TestedBodies.{take_more}
use Rattle.op_log.proofs.readable.sort_one.Goals as goal

-- The record has the digest of the head.
pub returns-in_ok-push-in-Some-2-clause-told : goal.returns-in_ok-push-in-Some-2-clause-told
returns-in_ok-push-in-Some-2-clause-told g c told table before =
    let heads = c.args.places.now in
    let h = head_by c.in-Some.bytes.now c.in-Some.place.now in
    let more = take_more heads c.args.index h c.in-Some.ensures.found in
    let readable = c.args.readable.now in
    let r = c.in-Some-2.recorded in
    let named = of_some (λ (x : Op). (told : List ContentParts) → IsTableOf told c.args.contents.now.table.entries → digest_of x ≡ c.of.result)
    c.in_ok-recorded.field-0 r c.in-Some-2.is c.in_ok-recorded.ensures.named told table in
    parted_as IsNamed (IsUntold told) 0 more c.in_ok-push-in-Some-2.ensures.items readable.unreadable.items
    (recorded_next IsNamed (IsUntold told) 0 (take c.args.index heads) readable.recorded.items readable.unreadable.items h r before
    (named ∙ c.of.ensures))

-- No content is told under the digest of the head.
pub returns-in_ok-push-in-None-clause-told : goal.returns-in_ok-push-in-None-clause-told
returns-in_ok-push-in-None-clause-told g c told table before =
    let heads = c.args.places.now in
    let place = c.in-Some.place.now in
    let h = head_by c.in-Some.bytes.now place in
    let more = take_more heads c.args.index h c.in-Some.ensures.found in
    let readable = c.args.readable.now in
    let long : length (take c.args.index heads) ≡ c.args.index = length-take-le c.args.index heads (omega (arith, c.requires.within)) in
    let untold = subst (λ (d : List ℕ). IsUntold told (head_by d place)) c.of.ensures
    (c.in_ok-recorded.ensures.untold (ap Ok c.in-None.is) told table) in
    listed_as IsNamed (IsUntold told) 0 more readable.recorded.items c.in_ok-push-in-None.ensures.items
    (listed_next IsNamed (IsUntold told) 0 (take c.args.index heads) readable.recorded.items readable.unreadable.items h c.args.index
    (omega (arith, long)) before untold)

-- The file reaches to the data set of each head, and so of this one.
pub returns-in_ok-push-in-Some-2-clause-counts : goal.returns-in_ok-push-in-Some-2-clause-counts
returns-in_ok-push-in-Some-2-clause-counts g c reach =
    let heads = c.args.places.now in
    let h = head_by c.in-Some.bytes.now c.in-Some.place.now in
    let old = c.args.bodies.now in
    let low = All-contains (IsBelow (end_of old)) heads h reach.below (at_among heads c.args.index h c.in-Some.ensures.found) in
    c.in_ok-recorded.ensures.counts (reaches_less g.B.Disk old (h.at + h.size) low reach.reach)

pub returns-in_ok-push-in-None-clause-counts : goal.returns-in_ok-push-in-None-clause-counts
returns-in_ok-push-in-None-clause-counts g c reach =
    let heads = c.args.places.now in
    let h = head_by c.in-Some.bytes.now c.in-Some.place.now in
    let old = c.args.bodies.now in
    let low = All-contains (IsBelow (end_of old)) heads h reach.below (at_among heads c.args.index h c.in-Some.ensures.found) in
    c.in_ok-recorded.ensures.counts (reaches_less g.B.Disk old (h.at + h.size) low reach.reach)

-- What was told or read is recorded for the head.
pub returns-in_ok-push-in-Some-2-clause-all : goal.returns-in_ok-push-in-Some-2-clause-all
returns-in_ok-push-in-Some-2-clause-all g c told table clean reach first since before =
    let heads = c.args.places.now in
    let place = c.in-Some.place.now in
    let h = head_by c.in-Some.bytes.now place in
    let more = take_more heads c.args.index h c.in-Some.ensures.found in
    let old = c.args.bodies.now in
    let new = c.recorded_at.new.bodies in
    let file = g.B.Disk.seen (disk_of old) in
    let readable = c.args.readable.now in
    let r = c.in-Some-2.recorded in
    let low = All-contains (IsBelow (end_of old)) heads h reach.below (at_among heads c.args.index h c.in-Some.ensures.found) in
    let rises = c.in_ok-recorded.ensures.counts (reaches_less g.B.Disk old (h.at + h.size) low reach.reach) in
    let recorded = of_some (λ (x : Op). (told : List ContentParts) → IsTableOf told c.args.contents.now.table.entries
    → IsTrue (g.B.Disk.is_clean (disk_of new)) → IsRecordedAs file told (head_by c.of.result place) x)
    c.in_ok-recorded.field-0 r c.in-Some-2.is c.in_ok-recorded.ensures.recorded told table clean in
    parted_as (IsRecordedAs file told) (IsAmiss file first (g.B.Disk.faults (disk_of new))) 0 more c.in_ok-push-in-Some-2.ensures.items
    readable.unreadable.items
    (more_recorded file told first (g.B.Disk.faults (disk_of old)) (g.B.Disk.faults (disk_of new)) (take c.args.index heads)
    readable.recorded.items readable.unreadable.items h before rises r
    (subst (λ (d : List ℕ). IsRecordedAs file told (head_by d place) r) c.of.ensures recorded))

-- Or it is amiss.
pub returns-in_ok-push-in-None-clause-all : goal.returns-in_ok-push-in-None-clause-all
returns-in_ok-push-in-None-clause-all g c told table clean reach first since before =
    let heads = c.args.places.now in
    let place = c.in-Some.place.now in
    let h = head_by c.in-Some.bytes.now place in
    let more = take_more heads c.args.index h c.in-Some.ensures.found in
    let old = c.args.bodies.now in
    let new = c.recorded_at.new.bodies in
    let file = g.B.Disk.seen (disk_of old) in
    let failed = g.B.Disk.faults (disk_of old) in
    let fails = g.B.Disk.faults (disk_of new) in
    let readable = c.args.readable.now in
    let long : length (take c.args.index heads) ≡ c.args.index = length-take-le c.args.index heads (omega (arith, c.requires.within)) in
    let low = All-contains (IsBelow (end_of old)) heads h reach.below (at_among heads c.args.index h c.in-Some.ensures.found) in
    let reaches = reaches_less g.B.Disk old (h.at + h.size) low reach.reach in
    let amiss = subst (λ (d : List ℕ). IsAmiss file failed fails (head_by d place)) c.of.ensures
    (c.in_ok-recorded.ensures.amiss (ap Ok c.in-None.is) clean reaches) in
    listed_as (IsRecordedAs file told) (IsAmiss file first fails) 0 more readable.recorded.items c.in_ok-push-in-None.ensures.items
    (more_listed file told first failed fails (take c.args.index heads) readable.recorded.items readable.unreadable.items h before
    (c.in_ok-recorded.ensures.counts reaches) c.args.index (omega (arith, long)) since amiss)
