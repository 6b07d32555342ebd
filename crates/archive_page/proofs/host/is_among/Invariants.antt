use Rattle.std.proofs.Common.{◌≡◌, drop, map}
use Rattle.std.specs.List.{list_any}
use Rattle.std.specs.Str.{str_eq_ignore_ascii_case}
use Rattle.archive_page.proofs.host.is_among.Given as goal

-- The text is one of the names where it is one of those that are left.
abbrev pub invariant-loop-name : goal.invariant-loop-name
invariant-loop-name l =
    list_any (λ name. str_eq_ignore_ascii_case name l.text) (map (λ name. name.now) (drop l.name-index l.names))
    ≡ list_any (λ name. str_eq_ignore_ascii_case name l.text) (map (λ name. name.now) l.names)
