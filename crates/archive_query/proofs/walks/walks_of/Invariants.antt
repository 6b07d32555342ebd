use Rattle.std.proofs.Common.{◌≡◌, ◌≤◌, [], length, take, false}
use Rattle.std.specs.List.{list_any}
use Rattle.archive_query.specs.Leads.{is_walkable, AreChosenWalks}
use Rattle.archive_query.proofs.walks.walks_of.Given as goal

-- each walk is one of a key, and where there is none, no key so far has one
abbrev pub invariant-loop-asked : goal.invariant-loop-asked
invariant-loop-asked l = (l.asked-index ≤ length l.asked-items) × AreChosenWalks l.query l.walks.items
    × (l.walks.items ≡ [] → list_any is_walkable (take l.asked-index l.asked-items) ≡ false)
