use Rattle.std.proofs.Common.{◌≡◌, drop}
use Rattle.octets.specs.Texts.{text_cmp}
use Rattle.join_laws.specs.GrowSet.{union_of}
use Rattle.archive_query.proofs.selected_places.put_instances.Given as goal

-- with those that are left, all are in
abbrev pub invariant-loop-instance : goal.invariant-loop-instance
invariant-loop-instance l =
    union_of text_cmp l.uids.keys (drop l.instance-index l.instances) ≡ union_of text_cmp l.initial.uids.keys
    l.instances
