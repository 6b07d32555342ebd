use Rattle.std.proofs.Common.{◌≡◌, ◌++◌, ◌∷◌, [], map, take}
use Rattle.json.specs.Token.{begin_array}
use Rattle.archive_page.specs.Values.{string_of}
use Rattle.archive_page.proofs.values.put_columns.Given as goal

-- Those so far stand behind what was there, and what the writer began with stays.
abbrev pub invariant-loop-name : goal.invariant-loop-name
invariant-loop-name l =
    (l.writer.tokens ≡ (l.fn.writer.tokens ++ begin_array ∷ [])
    ++ map string_of (map (λ cell. cell.now) (take l.name-index l.heading)))
    × (l.writer.before ≡ l.fn.writer.before)
