use Rattle.std.proofs.Common.{◌≡◌, ◌≤◌, take}
use Rattle.shelved_site.specs.Stores.{count_in}
use Rattle.shelved_site.proofs.log_store.count.Given as goal

-- So many of those that came so far have the kind.
abbrev pub invariant-loop-index : goal.invariant-loop-index
invariant-loop-index g l =
    record {
      counted : l.count ≡ count_in l.fn.kind (take l.index l.fn.log.places);
      few : l.count ≤ l.index;
    }
