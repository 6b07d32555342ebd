use Rattle.std.proofs.Common.{◌≡◌}
use Rattle.std.specs.List.{find}
use Rattle.form_urlencoded.specs.Form.{raw_pairs}
use Rattle.form_urlencoded.specs.Parse.{raw_pairs_left}
use Rattle.archive_page.specs.Searches.{is_named}
use Rattle.archive_page.proofs.search.first.Given as goal

-- The first of those that are left is the first of all.
abbrev pub invariant-loop-key : goal.invariant-loop-key
invariant-loop-key l =
    find (is_named l.name) (raw_pairs_left l.key-iterator) ≡ find (is_named l.name) (raw_pairs l.query)
