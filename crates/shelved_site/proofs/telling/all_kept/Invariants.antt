use Rattle.std.proofs.Common.{◌≡◌, ◌≤◌, take, map, length}
use Rattle.std.specs.Vec.{vec_capacity}
use Rattle.shelved_site.specs.Telling.{kept_of}
use Rattle.shelved_site.proofs.telling.all_kept.Given as goal

-- So many are told, and there is room for the others.
abbrev pub invariant-loop-one : goal.invariant-loop-one
invariant-loop-one l =
    record {
      items : l.kepts.items ≡ map kept_of (take l.one-index l.told);
      room : length l.told ≤ vec_capacity l.kepts;
    }
