use Rattle.std.proofs.Common.{◌≡◌, ◌++◌, ◌-◌, ◌*◌, length}
use Rattle.exchange_frames.specs.Reading.{cut}
use Rattle.exchange_frames.proofs.reader.digests_of.Given as goal

-- The digests that were cut off, with those that are left in the text, are all of them.
abbrev pub invariant-loop : goal.invariant-loop
invariant-loop l = record {
  fits : length l.rest ≡ 32 * (l.count - l.counter);
  so_far : l.digests.items ++ cut (l.count - l.counter) l.rest ≡ cut l.count l.text;
}
