use Rattle.std.proofs.Common.{◌≡◌, ◌<◌, ℕ, List, All, length, map, arith, sym, subst, ap, ◌∙◌}
use Rattle.operation.specs.declared.op.Op.{Op}
use Rattle.op_log.specs.Heads.{Head}
use Rattle.op_log.specs.Readable.{IsAmiss, IsNamed, IsUntold}
use Rattle.op_log.specs.Recorded.{IsRecordedAs}
use Rattle.shelved_site.specs.declared.unreadable.Unreadable.{Unreadable}
use Rattle.shelved_site.specs.Readable.{AreParts, unread_at}
use Rattle.shelved_site.proofs.Parted.{parts_of, within}
use Rattle.shelved_site.proofs.reading.read_log.Goals as goal

-- Each index is one of a head, of which the log has as many as it had.
pub told_at_each-requires : goal.told_at_each-requires
told_at_each-requires g c =
    let heads = c.args.log.now.places in
    let indexes = c.in_ok-found.found.unreadable.items in
    let low = within IsNamed (IsUntold c.args.told.now) heads 0 (length heads) c.in_ok-found.found.recorded.items indexes
    (omega arith) c.in_ok-found.ensures.told in
    let here = subst (λ (hs : List Head). All (λ (i : ℕ). i < length hs) indexes) (sym c.readable.ensures.looks.places) low in
    record {
      within = subst (λ (is : List ℕ). All (λ (i : ℕ). i < length c.readable.new.self.places) is)
          (sym c.as_slice.ensures.value) here;
    }

-- What is told of the heads at these indexes stands in their place.
pub returns-clause-read : goal.returns-clause-read
returns-clause-read g c clean =
    let gb = g.B.Disk in
    let old = c.args.log.now in
    let new = c.readable.new.self in
    let heads = old.places in
    let file = gb.seen old.bodies in
    let Is = IsRecordedAs file c.args.told.now in
    let Not = IsAmiss file (gb.faults old.bodies) (gb.faults new.bodies) in
    let recorded = c.in_ok-found.found.recorded.items in
    let indexes = c.in_ok-found.found.unreadable.items in
    let parts = parts_of Is Not heads recorded indexes (c.in_ok-found.ensures.all clean) in
    let told : c.in_ok-unreadable.unreadable.items ≡ map (unread_at heads) indexes =
    c.in_ok-unreadable.ensures ∙ ap (λ (is : List ℕ). map (unread_at new.places) is) c.as_slice.ensures.value
    ∙ ap (λ (hs : List Head). map (unread_at hs) indexes) c.readable.ensures.looks.places in
    subst (λ (rs : List Op). AreParts Is Not heads c.in_ok-unreadable.unreadable.items rs)
    (sym (ap (λ v. v.items) c.replace.ensures.value))
    (subst (λ (unread : List Unreadable). AreParts Is Not heads unread recorded) (sym told) parts)
