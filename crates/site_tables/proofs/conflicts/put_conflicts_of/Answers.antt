use Rattle.std.proofs.Common.{◌≡◌, ◌++◌, OnOk, List, Bor, map, ap, subst, ◌∙◌}
use Rattle.records.specs.declared.recorded_op.RecordedOp.{RecordedOp}
use Rattle.site_state.specs.Site.{ops_of}
use Rattle.site_tables.specs.Conflicts.{conflicts_among}
use Rattle.site_tables.specs.Under.{pairs}
use Rattle.site_tables.proofs.ConflictLaws.{among_are, under_are}
use Rattle.site_tables.proofs.conflicts.put_conflicts_of.Goals as goal

-- What lies under the UID are its contents.
pub returns : goal.returns
returns c =
    let all = ops_of c.args.site.now in
    let uid = c.args.uid.now in
    subst (λ fs. OnOk c.put_conflicts.result (c.put_conflicts.new.found.items ≡ c.args.found.now.items ++ fs))
    (ap (λ (os : List (Bor RecordedOp)). conflicts_among all uid (map (λ o. o.now) os)) c.deref.ensures.value
    ∙ ap (conflicts_among all uid) (c.in_ok-ops.ensures ∙ c.requires.held.each uid)
    ∙ under_are all uid (pairs c.args.marks.now) c.requires.marked all ∙ among_are all uid all)
    c.put_conflicts.ensures
