use Rattle.std.proofs.Common.{◌≡◌, ◌++◌, take, drop}
use Rattle.octets.specs.Texts.{put}
use Rattle.archive_model.proofs.texts.put.Given as goal

-- The text comes behind each text so far, so it belongs among those that are left.
abbrev pub invariant-loop-i : goal.invariant-loop-i
invariant-loop-i l = record {
  same : l.texts.items ≡ l.fn.texts.items;
  so_far : put l.text l.texts.items ≡ take l.i l.texts.items ++ put l.text (drop l.i l.texts.items);
}
