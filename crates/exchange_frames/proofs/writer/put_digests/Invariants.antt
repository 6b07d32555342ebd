use Rattle.std.proofs.Common.{◌≡◌, ◌≤◌, ◌*◌, ◌++◌, length, take}
use Rattle.exchange_frames.specs.Spelling.{digests_text}
use Rattle.exchange_frames.proofs.writer.put_digests.Given as goal

-- the digests so far are behind what was there, 32 bytes each
abbrev pub invariant-loop-digest : goal.invariant-loop-digest
invariant-loop-digest l = (l.digest-index ≤ length l.digests)
    × (l.out.items ≡ l.initial.out.items ++ digests_text (take l.digest-index l.digests))
    × (length (digests_text (take l.digest-index l.digests)) ≡ 32 * l.digest-index)
