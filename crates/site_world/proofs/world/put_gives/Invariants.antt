use Rattle.std.proofs.Common.{◌≡◌, ◌≤◌, ◌+◌, ◌++◌, length}
use Rattle.std.specs.Vec.{vec_len, vec_capacity}
use Rattle.std.specs.Vec.Iter.{into_iter_items, into_iter_len}
use Rattle.site_world.specs.Messages.{gives, numbers_behind}
use Rattle.site_world.proofs.world.put_gives.Given as goal

-- There is room for what is left; messages and numbers so far, with those left, are those of all operations.
abbrev pub invariant-loop-op : goal.invariant-loop-op
invariant-loop-op l =
    let rest = into_iter_items l.op-iterator in
    let all = into_iter_items l.initial.op-iterator in
    record {
      long : into_iter_len l.op-iterator ≡ length rest;
      room : vec_len l.sent + length rest ≤ vec_capacity l.sent;
      places : vec_len l.numbers + length rest ≤ vec_capacity l.numbers;
      sent : l.sent.items ++ gives l.from l.to rest ≡ l.fn.sent.items ++ gives l.from l.to all;
      numbers : l.numbers.items ++ numbers_behind l.sent.items (length rest)
          ≡ l.fn.numbers.items ++ numbers_behind l.fn.sent.items (length all);
    }
