use Rattle.std.proofs.Common.{List, sym, ap, subst, ◌∙◌, ◌++◌}
use Rattle.data_set.specs.declared.syntax.Syntax.TheVariants.{Implicit}
use Rattle.data_set.specs.Tree.{Tree}
use Rattle.data_set.specs.Written.{IsSet}
use Rattle.data_set.specs.Converted.{converted}
use Rattle.data_set.proofs.ConvertedLaws.{implicit_set}
use Rattle.data_set.proofs.set.DataSet.to_implicit.Goals as goal

-- A conversion leaves the tags as they were, so they ascend.
pub of-requires : goal.of-requires
of-requires c =
    let made = c.in_ok-put_converted.ensures ∙ ap (λ (ts : List Tree). ts ++ converted Implicit c.elements-2.result.now)
    c.in_ok-elements.ensures.items ∙ ap (converted Implicit) c.elements-2.ensures.elements in
    subst (IsSet Implicit) (sym made) (implicit_set c.args.self.now.syntax c.args.self.now.elements
    c.elements.ensures.set)
