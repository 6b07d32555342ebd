use Rattle.std.proofs.Common.{◌≡◌, List, [], ℕ, sym, subst, ap, ◌∙◌, ◌++◌}
use Rattle.data_set.specs.Tree.{Tree, trees_of}
use Rattle.data_set.specs.Texts.{Spells}
use Rattle.data_set.specs.Written.{text_of, text_trees}
use Rattle.data_set.proofs.WrittenLaws.{written}
use Rattle.data_set.proofs.Fitting.{set_fits}
use Rattle.data_set.proofs.writer.write.Goals as goal

-- what was put behind nothing is all
all_put : (out before : List ℕ) (ts us : List Tree) → out ≡ before ++ text_trees (trees_of us) → before ≡ [] → us ≡ ts
    → out ≡ text_of ts
unfolding text_of
all_put out before ts us put empty same = put ∙ ap (λ (b : List ℕ). b ++ text_trees (trees_of us)) empty
    ∙ ap (λ (vs : List Tree). text_trees (trees_of vs)) same

-- The lengths of a set's elements fit their headers.
pub put_elements-requires : goal.put_elements-requires
put_elements-requires c = rw c.elements.ensures.elements (set_fits c.args.set.now.syntax c.args.set.now.elements
    c.elements.ensures.set)

-- All was put behind nothing.
pub returns-clause-exact : goal.returns-clause-exact
returns-clause-exact c = all_put c.put_elements.new.out.items c.new-out.result.items c.args.set.now.elements
    c.elements.result.now c.in_ok-put_elements.ensures c.new-out.ensures.items c.elements.ensures.elements

-- What is written of a set spells it.
pub returns-clause-again : goal.returns-clause-again
returns-clause-again c =
    let is = all_put c.put_elements.new.out.items c.new-out.result.items c.args.set.now.elements c.elements.result.now
    c.in_ok-put_elements.ensures c.new-out.ensures.items c.elements.ensures.elements in
    subst (λ (text : List ℕ). Spells c.args.set.now.syntax text c.args.set.now.elements) (sym is)
    (written c.args.set.now.syntax c.args.set.now.elements c.elements.ensures.set)
