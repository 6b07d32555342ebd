use Rattle.std.proofs.Common.{◌≡◌, drop}
use Rattle.exchange.specs.declared.side.Said.TheVariants as says
use Rattle.exchange.specs.Course.{Idles, HoldsGifts}
use Rattle.exchange.specs.Saying.{WasUnreadable}
use Rattle.exchange.proofs.Gifts.{GaveSome}
use Rattle.exchange.proofs.saying.say_gifts.Given as goal

-- the GIVEs so far are written but for what could not be read, and the holder has loaded no more
abbrev pub invariant-loop-bytes : goal.invariant-loop-bytes
invariant-loop-bytes g l = record {
  gave : HoldsGifts (g.H.Holder.holds l.fn.holder) (says.Gifts l.arrays)
      → GaveSome (WasUnreadable g.H.Holder.holds g.H.Holder.alone g.H.Holder.refuses_load l.fn.holder)
      (g.W.Sink.contents l.fn.writer) (g.W.Sink.contents l.writer) (g.H.Holder.holds l.fn.holder) l.arrays
      (drop l.bytes-index l.arrays) l.unread;
  write : g.W.Sink.failures l.writer ≡ g.W.Sink.failures l.fn.writer;
  idle : Idles g.H.Holder.holds g.H.Holder.alone l.fn.holder l.holder;
}
