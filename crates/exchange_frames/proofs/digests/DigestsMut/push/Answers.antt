use Rattle.std.proofs.Common.{◌++◌, ◌∷◌, [], ap, ◌∙◌}
use Rattle.exchange_frames.specs.Digests.{digests_in}
use Rattle.exchange_frames.proofs.Chunks.{one_more}
use Rattle.exchange_frames.proofs.digests.DigestsMut.push.Goals as goal

-- The digest stands behind the others in the text.
pub returns : goal.returns
returns c =
    let text = c.self.inside.text.items in
    let bytes = c.as_bytes.result.now in
    ap digests_in c.in_ok-put_digest.ensures.text
    ∙ one_more text bytes c.self.invariant c.put_digest.ensures.long
    ∙ ap (λ ds. ds ++ bytes ∷ []) c.self.view_is
    ∙ ap (λ d. c.args.self.now ++ d ∷ []) c.as_bytes.ensures
