use Rattle.std.proofs.Common.{◌≡◌, ◌++◌, drop, map, take}
use Rattle.site_pages.specs.Facts.{noted}
use Rattle.site_pages.proofs.facts.note_meeting.Given as goal

-- The peers so far, with those that are left once it is noted of them, are all with it noted.
abbrev pub invariant-loop-meeting : goal.invariant-loop-meeting
invariant-loop-meeting l =
    take l.meeting-index l.meetings ++ map (noted l.address l.met) (drop l.meeting-index l.meetings)
    ≡ map (noted l.address l.met) l.fn.meetings
