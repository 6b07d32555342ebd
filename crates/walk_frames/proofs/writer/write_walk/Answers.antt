use Rattle.std.proofs.Common.{List, ◌++◌, length, ap, ◌∙◌, arith}
use Rattle.std.specs.Int.{w16, to_be_bytes}
use Rattle.std.specs.List.{flat_map}
use Rattle.std.proofs.lemmas.List.{take_all}
use Rattle.walk_frames.specs.Entries.{EntryParts}
use Rattle.walk_frames.specs.Spelling.{entry_text, walk_text}
use Rattle.walk_frames.proofs.Lengths.{walk_length}
use Rattle.walk_frames.proofs.writer.write_walk.Goals as goal

-- All entries are written, and they are a walk's.
pub returns-clause-short : goal.returns-clause-short
unfolding walk_text
returns-clause-short c =
    let entries = c.entries-entries.result.now in
    let text = c.of.ensures ∙ c.loop-entry.invariant
    ∙ ap (λ (es : List EntryParts). to_be_bytes w16 (length entries) ++ flat_map entry_text es)
    (take_all c.loop-entry.entry-index entries c.loop-entry-test.false)
    ∙ ap walk_text c.entries-entries.ensures.value
    in
    omega (arith, ap length text, walk_length c.args.walk.now c.entries-entries.ensures.lawful)
