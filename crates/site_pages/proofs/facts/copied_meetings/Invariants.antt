use Rattle.std.proofs.Common.{◌≡◌, ◌++◌, drop}
use Rattle.site_pages.proofs.facts.copied_meetings.Given as goal

-- The copies so far, with the meetings that are left, are all.
abbrev pub invariant-loop-meeting : goal.invariant-loop-meeting
invariant-loop-meeting l = l.copies.items ++ drop l.meeting-index l.meetings ≡ l.meetings
