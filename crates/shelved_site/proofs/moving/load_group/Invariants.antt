use Rattle.std.proofs.Common.{take}
use Rattle.shelved_site.specs.Readable.{Shown}
use Rattle.shelved_site.specs.Recorded.{AreLoaded}
use Rattle.shelved_site.proofs.moving.load_group.Given as goal

-- Those of the records that came so far were loaded, and the store was only read.
abbrev pub invariant-loop-one : goal.invariant-loop-one
invariant-loop-one g l =
    record {
      clean : g.F.Store.is_clean l.from → g.F.Store.is_clean l.fn.from;
      same : g.F.Store.is_clean l.from → (first : g.row.F.Denot) → g.F.Store.is_same first l.fn.from
          → g.F.Store.is_same first l.from;
      loaded : g.F.Store.is_clean l.from → (first : g.row.F.Denot) → g.F.Store.is_same first l.fn.from
          → AreLoaded (Shown (g.F.Store.shows first)) (take l.one-index l.recorded) l.ops.items;
    }
