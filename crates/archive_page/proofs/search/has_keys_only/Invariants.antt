use Rattle.std.proofs.Common.{◌≡◌}
use Rattle.std.specs.List.{list_all}
use Rattle.form_urlencoded.specs.Form.{raw_pairs}
use Rattle.form_urlencoded.specs.Parse.{raw_pairs_left}
use Rattle.archive_page.specs.Searches.{is_known}
use Rattle.archive_page.proofs.search.has_keys_only.Given as goal

-- All are known where those that are left are.
abbrev pub invariant-loop-key : goal.invariant-loop-key
invariant-loop-key l =
    list_all (λ pair. is_known pair.0) (raw_pairs_left l.key-iterator)
    ≡ list_all (λ pair. is_known pair.0) (raw_pairs l.query)
