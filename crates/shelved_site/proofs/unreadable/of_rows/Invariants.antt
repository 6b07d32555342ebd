use Rattle.std.proofs.Common.{◌≡◌, ◌++◌, List, length, map}
use Rattle.std.specs.Vec.Iter.{into_iter_items, into_iter_len}
use Rattle.op_shelf.specs.declared.damaged.Damaged.{Damaged}
use Rattle.shelved_site.specs.Readable.{unread_in}
use Rattle.shelved_site.proofs.unreadable.of_rows.Given as goal

-- Those that came so far are told, and the others follow them.
abbrev pub invariant-loop-one : goal.invariant-loop-one
invariant-loop-one l =
    (done : List Damaged) × (l.told.items ≡ map unread_in done) × (done ++ into_iter_items l.one-iterator ≡ l.fn.damaged.items)
    × (into_iter_len l.one-iterator ≡ length (into_iter_items l.one-iterator))
