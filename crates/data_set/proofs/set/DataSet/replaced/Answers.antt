use Rattle.std.proofs.Common.{◌≡◌, ℕ, List, [], ◌∷◌, ◌++◌, Some, sym, ap, subst, ◌∙◌, append_assoc, refl}
use Rattle.data_set.specs.declared.syntax.Syntax.{Syntax}
use Rattle.data_set.specs.Tree.{Tree, leaf}
use Rattle.data_set.specs.Values.{padded}
use Rattle.data_set.specs.Written.{IsSet}
use Rattle.data_set.specs.Converted.{vr_in, converted, below, above}
use Rattle.data_set.proofs.ReplacedLaws.{replaced_set}
use Rattle.data_set.proofs.set.DataSet.replaced.Goals as goal

-- what was put, part by part
put_together : (s : Syntax) (new given : Tree) (tag : ℕ) (ts us vs start lesser pushed out : List Tree) → start ≡ []
    → lesser ≡ start ++ converted s (below tag us) → us ≡ ts → pushed ≡ lesser ++ (given ∷ []) → given ≡ new
    → out ≡ pushed ++ converted s (above tag vs) → vs ≡ ts
    → out ≡ converted s (below tag ts) ++ (new ∷ converted s (above tag ts))
put_together s new given tag ts us vs start lesser pushed out a b c d e f g =
    let low : lesser ≡ converted s (below tag ts) = b ∙ ap (λ (x : List Tree). x ++ converted s (below tag us)) a
    ∙ ap (λ (x : List Tree). converted s (below tag x)) c in
    let with_new : pushed ≡ converted s (below tag ts) ++ (new ∷ []) = d ∙ ap (λ (x : List Tree). x ++ (given ∷ [])) low
    ∙ ap (λ (x : Tree). converted s (below tag ts) ++ (x ∷ [])) e in
    f ∙ ap (λ (x : List Tree). x ++ converted s (above tag vs)) with_new ∙ append_assoc (converted s (below tag ts))
    (new ∷ []) (converted s (above tag vs)) ∙ ap (λ (x : List Tree). converted s (below tag ts)
    ++ (new ∷ converted s (above tag x))) g

-- With the value in its place the tags ascend, and its length fits its header.
pub of-requires : goal.of-requires
of-requires c =
    let s = c.syntax-syntax.result in
    let new = leaf c.args.tag (vr_in s (Some c.args.vr)) (padded c.args.vr c.args.value.now) in
    let given : c.leaf.result ≡ new = rw (c.leaf.ensures, c.vr_for.ensures, c.in_ok-new.ensures) refl in
    let made = put_together s new c.leaf.result c.args.tag c.args.self.now.elements c.elements.result.now
    c.elements-2.result.now c.new-elements.result.items c.put_below.new.out.items c.push.new.self.items
    c.put_above.new.out.items c.new-elements.ensures.items c.in_ok-put_below.ensures c.elements.ensures.elements
    c.in_ok-push.ensures.items given c.in_ok-put_above.ensures c.elements-2.ensures.elements in
    let is = subst (λ (x : Syntax). IsSet x c.args.self.now.elements) (sym c.syntax-syntax.ensures)
    c.elements.ensures.set in
    subst (IsSet s) (sym made) (replaced_set s c.args.self.now.elements c.args.tag c.args.vr c.args.value.now is
    c.requires.corrected c.requires.short)
