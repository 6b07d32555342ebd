use Rattle.std.proofs.Common.{◌≡◌, ◌++◌, ◌∷◌, [], map, take}
use Rattle.json.specs.Token.{begin_array}
use Rattle.archive_page.specs.Values.{string_of}
use Rattle.archive_page.proofs.values.put_row.Given as goal

-- Those so far stand behind what was there, and what the writer began with stays.
abbrev pub invariant-loop-value : goal.invariant-loop-value
invariant-loop-value l =
    (l.writer.tokens ≡ (l.fn.writer.tokens ++ begin_array ∷ [])
    ++ map string_of (take l.value-index l.row))
    × (l.writer.before ≡ l.fn.writer.before)
