use Rattle.std.proofs.Common.{◌≡◌, ◌++◌, drop}
use Rattle.std.specs.List.{filter_map}
use Rattle.site_state.specs.Site.{ops_of}
use Rattle.archive_model.specs.Preparing.{change_for}
use Rattle.archive_query.proofs.changes.changes_under.Given as goal

-- with those of the attributes that are left, all are there
abbrev pub invariant-loop-tag : goal.invariant-loop-tag
invariant-loop-tag l =
    l.changes.items ++ filter_map (change_for (ops_of l.site) l.content) (drop l.tag-index l.tags)
    ≡ filter_map (change_for (ops_of l.site) l.content) l.tags
