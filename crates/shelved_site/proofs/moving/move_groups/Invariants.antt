use Rattle.std.proofs.Common.{◌≡◌, ◌++◌, List}
use Rattle.std.specs.Slice.Iter.{chunks_rest}
use Rattle.operation.specs.declared.op.Op.{Op}
use Rattle.shelved_site.specs.Moving.{AreBrought}
use Rattle.shelved_site.specs.Readable.{Shown}
use Rattle.shelved_site.proofs.moving.move_groups.Given as goal

-- The operations of the groups that came so far were brought, and the others follow them; the first store was only
-- read.
abbrev pub invariant-loop-group : goal.invariant-loop-group
invariant-loop-group g l =
    record {
      next : (goal.iterator-loop-group g).can_next l.group-iterator;
      finite : (goal.iterator-loop-group g).is_finite l.group-iterator;
      clean : g.F.Store.is_clean l.from → g.F.Store.is_clean l.fn.from;
      same : g.F.Store.is_clean l.from → (first : g.row.F.Denot) → g.F.Store.is_same first l.fn.from
          → g.F.Store.is_same first l.from;
      put : (done : List Op) × (done ++ chunks_rest l.group-iterator ≡ l.fn.recorded.items)
          × (g.F.Store.is_clean l.from → g.T.Keep.is_up l.to → (first : g.row.F.Denot) → g.F.Store.is_same first l.fn.from
          → AreBrought (Shown (g.F.Store.shows first)) (g.T.Keep.holds l.fn.to) (g.T.Keep.holds l.to) (g.T.Keep.lasts l.to) done l.new);
      up : g.T.Keep.is_up l.to → g.T.Keep.is_up l.fn.to;
      kept : g.T.Keep.is_up l.to → (op : Op) → g.T.Keep.lasts l.fn.to op → g.T.Keep.lasts l.to op;
    }
