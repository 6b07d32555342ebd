use Rattle.std.proofs.Common.{◌≡◌, ◌≤◌, ◌-◌, take, length}
use Rattle.std.specs.Io.KnownBytes.{Appends}
use Rattle.devices.proofs.sink.put_all.Given as goal

-- With each write fewer bytes are left.
abbrev pub decreases-loop-done : goal.decreases-loop-done
decreases-loop-done g l = length l.bytes - l.done

-- The bytes so far stand behind what the sink held, and no write has failed.
abbrev pub invariant-loop-done : goal.invariant-loop-done
invariant-loop-done g l = record {
  within : l.done ≤ length l.bytes;
  so_far : Appends (g.W.Sink.contents l.fn.sink) (g.W.Sink.contents l.sink) (take l.done l.bytes);
  none_failed : g.W.Sink.failures l.sink ≡ g.W.Sink.failures l.fn.sink;
}
