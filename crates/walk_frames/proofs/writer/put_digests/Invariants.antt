use Rattle.std.proofs.Common.{◌≡◌, ◌++◌, take}
use Rattle.exchange_frames.specs.Spelling.{digests_text}
use Rattle.walk_frames.proofs.writer.put_digests.Given as goal

-- the digests so far are behind what was there
abbrev pub invariant-loop-digest : goal.invariant-loop-digest
invariant-loop-digest l = l.out.items ≡ l.initial.out.items ++ digests_text (take l.digest-index l.digests)
