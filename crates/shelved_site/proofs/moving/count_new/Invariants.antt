use Rattle.std.proofs.Common.{◌≡◌, ◌≤◌, take}
use Rattle.shelved_site.specs.Moving.{count_new as count_of_new}
use Rattle.shelved_site.proofs.moving.count_new.Given as goal

-- So many of those that came so far were new.
abbrev pub invariant-loop-kept : goal.invariant-loop-kept
invariant-loop-kept l =
    record {
      counted : l.new ≡ count_of_new (take l.kept-index l.kepts);
      few : l.new ≤ l.kept-index;
    }
