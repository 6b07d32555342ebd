use Rattle.std.proofs.Common.{sym, ◌∙◌}
use Rattle.std.specs.Cmp.Lexicographic.{pointwise_decides, bytes_decides}
use Rattle.rejection_note.proofs.note.same_uids.Goals as goal

-- Lists of texts that compare equal, text by text, are one list.
pub returns : goal.returns
returns c =
    let decides = pointwise_decides bytes_decides c.args.these.now c.args.those.now in
    (λ yes. decides.0 (sym c.eq.ensures ∙ yes), λ same. c.eq.ensures ∙ decides.1 same)
