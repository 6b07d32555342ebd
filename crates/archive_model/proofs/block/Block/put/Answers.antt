use Rattle.std.proofs.Common.{◌++◌, ◌∷◌, [], ℕ, List, length, subst, sym, ap, ◌∙◌}
use Rattle.archive_model.specs.Answer.{set_in, sets_in, IsCut}
use Rattle.archive_model.proofs.AnswerLaws.{cut_behind, sets_behind}
use Rattle.archive_model.proofs.block.Block.put.Goals as goal

-- The text behind the others is one more that was written,
pub invariant_of-self-in_default : goal.invariant_of-self-in_default
invariant_of-self-in_default c =
    let ns = c.self.inside.sizes.items in
    let text = c.self.inside.text.items in
    subst (λ (ms : List ℕ). IsCut ms c.extend_from_slice.new.self.items) (sym c.in_ok-push_back.ensures.items)
    (subst (IsCut (ns ++ length c.args.text.now ∷ [])) (sym c.in_default.ensures.ok)
    (cut_behind ns text c.args.text.now c.self.invariant c.requires))

-- and its row stands behind the others.
pub returns-clause-put : goal.returns-clause-put
returns-clause-put c =
    let ns = c.self.inside.sizes.items in
    let text = c.self.inside.text.items in
    ap (λ (ms : List ℕ). sets_in ms c.extend_from_slice.new.self.items) c.in_ok-push_back.ensures.items
    ∙ ap (sets_in (ns ++ length c.args.text.now ∷ [])) c.in_default.ensures.ok
    ∙ sets_behind ns text c.args.text.now c.self.invariant
    ∙ ap (λ sets. sets ++ set_in c.args.text.now ∷ []) c.self.view_is
