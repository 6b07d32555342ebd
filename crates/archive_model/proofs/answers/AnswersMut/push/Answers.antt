use Rattle.std.proofs.Common.{◌≡◌, ◌++◌, ◌∷◌, [], List, subst, sym, ap, ◌∙◌}
use Rattle.std.proofs.lemmas.Result.{on_ok_weaker}
use Rattle.data_set.specs.declared.syntax.Syntax.{Syntax}
use Rattle.data_set.specs.Set.{Set}
use Rattle.data_set.specs.Texts.{Spells}
use Rattle.archive_model.specs.Answer.{set_in, IsWritten, sets_of_full}
use Rattle.archive_model.proofs.AnswerLaws.{written_again, set_again, behind_full}
use Rattle.archive_model.proofs.answers.AnswersMut.push.Goals as goal
use Rattle.archive_model.proofs.answers.AnswersMut.push.Goals.{then-not-has_room+in_ok-begin, else-not-has_room}

-- What was written is such a text.
pub put-requires : goal.put-requires
put-requires c = subst IsWritten (sym c.as_slice.ensures.value)
    (written_again c.in_ok-text.text.items c.args.set.now.elements c.in_ok-text.ensures.exact
    (subst (λ (s : Syntax). Spells s c.in_ok-text.text.items c.args.set.now.elements) c.requires
    c.in_ok-text.ensures.again))

-- A text spells one list of elements, so its row is the set; and another buffer holds the same rows.
pub returns-clause-pushed : goal.returns-clause-pushed
returns-clause-pushed c =
    let text = c.as_slice.result.now in
    let full = c.self-2.inside.full.items in
    let written : set_in text ≡ c.args.set.now = ap set_in c.as_slice.ensures.value
    ∙ set_again c.in_ok-text.text.items c.args.set.now c.requires
    (subst (λ (s : Syntax). Spells s c.in_ok-text.text.items c.args.set.now.elements) c.requires
    c.in_ok-text.ensures.again) in
    let kept : c.if-not-has_room.self ≡ c.args.self.now = elim c.if-not-has_room.branch [
      | then-not-has_room+in_ok-begin w ↦ w.self-is ∙ w.begin.ensures.same
      | else-not-has_room w ↦ w.self-is
    ] in
    on_ok_weaker c.put.result (λ put.
    ap (sets_of_full full) put
    ∙ behind_full full c.self-2.inside.last (set_in text)
    ∙ ap (λ (set : Set). sets_of_full full c.self-2.inside.last ++ set ∷ []) written
    ∙ ap (λ (sets : List Set). sets ++ c.args.set.now ∷ []) (c.self-2.view_is ∙ kept)) c.put.ensures.put
