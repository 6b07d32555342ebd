use Rattle.std.proofs.Common.{ℕ, List, [], ap, subst, ◌∙◌}
use Rattle.operation.specs.Parts.{ContentParts}
use Rattle.op_log.specs.Heads.{Head}
use Rattle.op_log.specs.Loaded.{IsOf}
use Rattle.op_log.specs.Recorded.{IsRecordedAs}
use Rattle.op_log.proofs.Told.{told_stands}
use Rattle.site_state.specs.Laws.{after_taking}
use Rattle.shelved_site.specs.declared.unreadable.Unreadable.{Unreadable}
use Rattle.shelved_site.specs.Readable.{AreParts, IsAny}
use Rattle.shelved_site.proofs.Listings.{read_heads}
use Rattle.shelved_site.proofs.Parted.{all_listed, all_recorded}
use Rattle.shelved_site.proofs.log_records.site_on_log.Goals as goal

-- It took the records of what was told or read.
pub returns-clause-taken : goal.returns-clause-taken
returns-clause-taken g c up = record {
  records = c.in_ok-recorded.field-0.recorded.items;
  are = c.in_ok-recorded.ensures.read up;
  took = c.in_ok-site.ensures.site;
}

-- Where nothing is told, it took what stands for the operations of the log, which stays as it is.
pub returns-clause-site : goal.returns-clause-site
returns-clause-site g c up none =
    let old = c.args.log.now.log in
    let file = g.B.Disk.seen old.bodies in
    let unread = c.in_ok-recorded.field-0.unreadable.items in
    let recorded = c.in_ok-recorded.field-0.recorded.items in
    let read = subst (λ (told : List ContentParts). AreParts (IsRecordedAs file told) IsAny old.places unread recorded) none
    (c.in_ok-recorded.ensures.read up) in
    let it = read_heads file IsAny old.places unread recorded read in
    record {
      ops = it.ops;
      listed = (c.in_ok-recorded.ensures.same up).shows unread it.ops it.listed;
      took = c.in_ok-site.ensures.site ∙ ap after_taking it.stand;
    }

-- Where all can be read, and what is told of these is true, it took what stands for whatever operations the log shows.
pub returns-clause-told : goal.returns-clause-told
returns-clause-told g c up none ops shown true =
    let old = c.args.log.now.log in
    let new = c.readable_with.new.self.log in
    let file = g.B.Disk.seen old.bodies in
    let told = c.args.told.now in
    let recorded = c.in_ok-recorded.field-0.recorded.items in
    let read = subst (λ (unread : List Unreadable). AreParts (IsRecordedAs file told) IsAny old.places unread recorded) none
    (c.in_ok-recorded.ensures.read up) in
    let placed = subst (λ (heads : List Head). AreParts (IsOf (g.B.Disk.seen new.bodies)) IsAny heads [] ops)
    (c.in_ok-recorded.ensures.same up).looks.places shown in
    let here = subst (λ (bytes : List ℕ). AreParts (IsOf bytes) IsAny old.places [] ops) c.readable_with.ensures.seen placed in
    let stands = told_stands file told old.places recorded ops true (all_listed file IsAny old.places ops here)
    (all_recorded file told IsAny old.places recorded read) in
    c.in_ok-site.ensures.site ∙ ap after_taking stands
