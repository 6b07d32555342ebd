use Rattle.std.proofs.Common.{◌≡◌, ◌++◌, take}
use Rattle.std.specs.List.{flat_map}
use Rattle.pdu.specs.Spelling.{data_head, pdv_text}
use Rattle.association_run.specs.inner.Outbox.{Puts}
use Rattle.association_run.proofs.outbox.Outbox.put_data.Given as goal

-- The header was put, and the values so far.
abbrev pub invariant-loop-value : goal.invariant-loop-value
invariant-loop-value g l = record {
  puts : Puts (g.W.Sink.contents l.fn.writer) l.fn.self (g.W.Sink.contents l.writer)
      l.self (data_head l.fn.values ++ flat_map pdv_text (take l.value-index l.fn.values));
  write : g.W.Sink.failures l.writer ≡ g.W.Sink.failures l.fn.writer;
}
