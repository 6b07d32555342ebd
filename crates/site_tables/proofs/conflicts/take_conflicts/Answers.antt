use Rattle.std.proofs.Common.{◌≡◌, ℕ, List, Bor, length, map, not, ap, sym, subst, ◌∙◌}
use Rattle.std.specs.Prelude.{◌==◌}
use Rattle.std.specs.List.{filter_map}
use Rattle.octets.specs.Members.{Has}
use Rattle.operation.specs.declared.op.Op.{Op}
use Rattle.records.specs.declared.recorded_op.RecordedOp.{RecordedOp}
use Rattle.archive_query.proofs.PutIn.{has_at}
use Rattle.site_tables.specs.declared.under.Under.{Under}
use Rattle.site_tables.specs.Conflicts.{instance_pair}
use Rattle.site_tables.specs.Under.{pairs, held_under, has_under, own_pair, Holds}
use Rattle.site_tables.proofs.ConflictLaws.{marked_of}
use Rattle.site_tables.proofs.conflicts.take_conflicts.Goals as goal

-- Each UID is one of those that are marked.
pub put_conflicts_of-requires-clause-marked : goal.put_conflicts_of-requires-clause-marked
put_conflicts_of-requires-clause-marked c =
    let items = c.as_slice-uid-items.result.now in
    let uids = c.in_ok-uids.uids.items in
    let uid = c.uid-item.result in
    let here : Has uids uid = subst (λ (xs : List (List ℕ)). Has xs uid) c.as_slice-uid-items.ensures.value
    (subst (Has items) (sym c.uid-item.is) (has_at items c.loop-uid.uid-index uid c.loop-uid-test.true))
    in
    ap (λ (u : List ℕ). has_under u (pairs c.deref-in-loop-uid.result.now)) c.as_slice.ensures
    ∙ ap (λ (ms : List (Under (List ℕ))). has_under uid (pairs ms)) c.deref-in-loop-uid.ensures.value
    ∙ ap (λ (ts : List (List ℕ)). not (length ts == 0))
    (c.in_ok-marks.ensures.each uid
    ∙ ap (λ (us : List (List ℕ)). held_under uid (map own_pair us)) c.deref.ensures.value)
    ∙ marked_of uids uid here

-- What is held is of those that are marked.
pub put_conflicts_of-requires-clause-held : goal.put_conflicts_of-requires-clause-held
put_conflicts_of-requires-clause-held c =
    let marks = c.deref-in-loop-uid.result.now in
    let entries = c.deref-in-loop-uid-2.result.now in
    let same : c.deref-2.result.now ≡ marks = c.deref-2.ensures.value ∙ sym c.deref-in-loop-uid.ensures.value in
    let all = ap (λ (os : List (Bor RecordedOp)). map (λ o. o.now) os) c.deref-3.ensures.value ∙ c.in_ok-ops.ensures in
    subst (λ (os : List Op). Holds (filter_map (instance_pair (pairs marks)) os) entries) all
    (subst (λ (ms : List (Under (List ℕ))). Holds (filter_map (instance_pair (pairs ms))
    (map (λ o. o.now) c.deref-3.result.now)) entries) same
    (subst (λ (es : List (Under Op)). Holds (filter_map (instance_pair (pairs c.deref-2.result.now))
    (map (λ o. o.now) c.deref-3.result.now)) es) (sym c.deref-in-loop-uid-2.ensures.value) c.in_ok-entries.ensures))
