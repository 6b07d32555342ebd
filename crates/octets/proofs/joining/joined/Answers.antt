use Rattle.std.proofs.Common.{◌∙◌, sym, ap, ◌++◌, ◌∷◌, cond, ◌==◌}
use Rattle.octets.proofs.JoinedLaws.{join_more}
use Rattle.octets.proofs.joining.joined.Goals as goal

-- The next text stands behind the texts so far, behind the separator where it is not the first.
pub loop-i-preserved : goal.loop-i-preserved
loop-i-preserved c =
    let by = c.args.separator in
    c.in_ok-add.ensures
    ∙ ap (λ t. c.loop-i.bytes.items ++ cond (c.loop-i.i == 0) t (by ∷ t)) c.as_slice.ensures
    ∙ ap (λ b. b ++ cond (c.loop-i.i == 0) c.index-texts-i.result (by ∷ c.index-texts-i.result)) c.loop-i.invariant
    ∙ sym (join_more by c.args.texts.now c.loop-i.i c.index-texts-i.result c.loop-i-test.true c.index-texts-i.is)
