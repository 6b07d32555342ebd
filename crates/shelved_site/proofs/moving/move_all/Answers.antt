use Rattle.std.proofs.Common.{inr, arith}
use Rattle.shelved_site.specs.Readable.{Shown}
use Rattle.shelved_site.proofs.Loaded.{all_have, any_records, found_of, same_long, shown_records, some_of}
use Rattle.shelved_site.proofs.Moves.{put_joins}
use Rattle.shelved_site.proofs.moving.move_all.Goals as goal

-- What was loaded are the operations that are shown.
pub returns-in-Ok-move_groups-clause-moved : goal.returns-in-Ok-move_groups-clause-moved
returns-in-Ok-move_groups-clause-moved g c clean up =
    let first = c.args.from.now in
    let mid = c.readable.new.self in
    let told = c.in-Ok.found.unreadable.items in
    let early = c.move_groups.ensures.clean clean in
    let recorded = c.in-Ok.found.recorded.items in
    let them = shown_records (g.F.Store.reads first mid) (g.F.Store.shows first) told recorded
    (g.met.F.Store.read_shows first mid told) (c.in-Ok.ensures.read early) in
    let lists = Shown (g.F.Store.shows first) in
    let old = g.T.Keep.holds c.args.to.now in
    let new = g.T.Keep.holds c.move_groups.new.to in
    let all = c.in-Ok-move_groups.ensures.moved clean up first (c.in-Ok.ensures.same early) in
    record {
      told = told;
      ops = all.ops;
      shown = g.met.F.Store.found_shows first told them.ops all.ops them.listed
          (found_of (g.F.Store.shows first) told recorded all.ops them all.loaded);
      joined = put_joins old new all.ops c.in-Ok-move_groups.new (g.met.T.Store.alike c.args.to.now) all.put;
      lasting = all.lasting;
      put = all.put;
      counted = omega (arith, same_long lists recorded all.ops all.loaded);
      left = omega arith;
    }

-- What came is some of them.
pub returns-clause-part : goal.returns-clause-part
returns-clause-part g c clean up =
    let first = c.args.from.now in
    let mid = c.readable.new.self in
    let told = c.in-Ok.found.unreadable.items in
    let early = c.move_groups.ensures.clean clean in
    let recorded = c.in-Ok.found.recorded.items in
    let them = shown_records (g.F.Store.reads first mid) (g.F.Store.shows first) told recorded
    (g.met.F.Store.read_shows first mid told) (c.in-Ok.ensures.read early) in
    some_of (Shown (g.F.Store.shows first)) (g.T.Keep.holds c.args.to.now) (g.T.Keep.holds c.move_groups.new.to) recorded
    (any_records (g.F.Store.shows first) told recorded them)
    (c.in-Err-move_groups.ensures.part clean up first (c.in-Ok.ensures.same early))

-- Each record has its operation, so a load had cause to be refused.
pub returns-clause-unread : goal.returns-clause-unread
returns-clause-unread g c clean told is =
    let first = c.args.from.now in
    let mid = c.readable.new.self in
    let unread = c.in-Ok.found.unreadable.items in
    let early = c.move_groups.ensures.clean clean in
    let recorded = c.in-Ok.found.recorded.items in
    let them = shown_records (g.F.Store.reads first mid) (g.F.Store.shows first) unread recorded
    (g.met.F.Store.read_shows first mid unread) (c.in-Ok.ensures.read early) in
    inr (c.in-Err-move_groups.ensures.unread clean first (c.in-Ok.ensures.same early)
    (all_have (Shown (g.F.Store.shows first)) recorded (any_records (g.F.Store.shows first) unread recorded them)) told is)
