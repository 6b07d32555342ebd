use Rattle.std.proofs.Common.{◌∙◌, sym, ap, map, [], false, length, ◌≤◌}
use Rattle.std.proofs.lemmas.List.{get_or-map, length-map}
use Rattle.std.specs.Str.{chars}
use Rattle.std.specs.String.{string_bytes}
use Rattle.unicode_width.specs.Width.{str_width}
use Rattle.site_tables.specs.Aligned.{width}
use Rattle.site_tables.proofs.AlignedLaws.{no_width}
use Rattle.site_tables.proofs.aligned.width_in.Goals as goal

-- The cell's width.
pub returns-in-Some : goal.returns-in-Some
unfolding width
returns-in-Some c =
    let found = c.in-Some.ensures.lookup.3 in
    c.width.ensures.value ∙ ap (λ t. str_width false (chars t)) (c.as_str.ensures.value
    ∙ ap string_bytes (found.1 c.in-Some.cell.now)
    ∙ sym (get_or-map string_bytes c.args.row.now c.args.column c.in-Some.cell.now [] found.0))

-- There is no such cell.
pub returns-in-None : goal.returns-in-None
returns-in-None c =
    let past : length (map string_bytes c.args.row.now) ≤ c.args.column =
    rw (length-map c.args.row.now string_bytes) c.in-None.ensures.lookup.3 in
    sym (no_width (map string_bytes c.args.row.now) c.args.column past)
