use Rattle.std.proofs.Common.{◌++◌, ap, subst, sym, ◌∙◌}
use Rattle.exchange_frames.specs.Digests.{IsWhole, digests_in}
use Rattle.exchange_frames.proofs.Chunks.{both_in}
use Rattle.exchange_frames.proofs.digests.DigestsMut.append.Goals as goal

-- Their text stands behind the others'.
pub returns : goal.returns
returns c =
    let text = c.self.inside.text.items in
    let more = c.as_slice.result.now in
    ap digests_in c.in_ok-extend_from_slice.ensures.items
    ∙ both_in text more c.self.invariant (subst IsWhole (sym c.as_slice.ensures) c.text.ensures.whole)
    ∙ ap (λ ds. ds ++ digests_in more) c.self.view_is
    ∙ ap (λ ds. c.args.self.now ++ ds) (ap digests_in c.as_slice.ensures ∙ c.text.ensures.digests)
