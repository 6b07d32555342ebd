use Rattle.std.proofs.Common.{◌≡◌, ◌≤◌, ◌+◌, ◌-◌, take, length}
use Rattle.std.specs.Io.KnownBytes.{Consumes}
use Rattle.exchange.proofs.hearing.fill.Given as goal

-- so many bytes were read, each by one read at most
abbrev pub invariant-loop-filled : goal.invariant-loop-filled
invariant-loop-filled g l = record {
  within : l.filled ≤ length l.buffer;
  long : length l.buffer ≡ length l.fn.buffer;
  so_far : Consumes (g.R.Source.remaining l.fn.reader) (g.R.Source.remaining l.reader) (take l.filled l.buffer);
  many : l.fn.reads ≤ l.reads + l.filled;
  none_failed : g.R.Source.failures l.reader ≡ g.R.Source.failures l.fn.reader;
}

-- Each read leaves less of the buffer to be filled.
abbrev pub decreases-loop-filled : goal.decreases-loop-filled
decreases-loop-filled g l = length l.fn.buffer - l.filled
