use Rattle.std.proofs.Common.{◌≡◌, ◌++◌, take, drop}
use Rattle.std.specs.Option.{option_map}
use Rattle.site_script.specs.Keys.{put_key}
use Rattle.site_script.proofs.key.put.Given as goal

-- Each key so far has a lesser tag, so the new one belongs among the keys left.
abbrev pub invariant-loop-i : goal.invariant-loop-i
invariant-loop-i l = record {
  same : l.keys.items ≡ l.fn.keys.items;
  so_far : put_key l.key l.keys.items ≡ option_map (λ more. take l.i l.keys.items ++ more)
      (put_key l.key (drop l.i l.keys.items));
}
