use Rattle.std.proofs.Common.{length, sym, ap, ◌∙◌, ◌*◌}
use Rattle.exchange_frames.specs.Spelling.{digests_text}
use Rattle.exchange_frames.proofs.Chunks.{text_in, long_in}
use Rattle.exchange_frames.proofs.digests.Digests.text.Goals as goal

-- The text is that of its digests.
pub returns-clause-text : goal.returns-clause-text
returns-clause-text c = sym (ap digests_text (sym c.self.view_is) ∙ text_in c.self.inside.text c.self.invariant)

-- It has 32 bytes for each.
pub returns-clause-long : goal.returns-clause-long
returns-clause-long c =
    long_in c.self.inside.text c.self.invariant ∙ ap (λ ds. 32 * length ds) c.self.view_is
