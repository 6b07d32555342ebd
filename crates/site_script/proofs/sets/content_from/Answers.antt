use Rattle.std.proofs.Common.{◌∙◌, subst, sym, ap}
use Rattle.data_set.specs.declared.syntax.Syntax.TheVariants.{Implicit}
use Rattle.data_set.specs.Texts.{Spells}
use Rattle.data_set.specs.Written.{text_of}
use Rattle.site_script.proofs.Made.{content_given}
use Rattle.site_script.proofs.sets.content_from.Goals as goal

-- The text that is written spells the elements, so the content or the fault is the one that they make.
pub returns : goal.returns
returns c =
    let elements = c.args.elements.items in
    let text = c.in_ok-text.text.items in
    let same = c.of-set.ensures.elements in
    let spelled : Spells Implicit text elements = subst (λ s. Spells s text elements) c.of-set.ensures.syntax
    (subst (λ es. Spells c.of-set.result.syntax text es) same c.in_ok-text.ensures.again) in
    content_given c.args.class.now c.args.instance.now elements c.in_ok-class.class c.in_ok-instance.instance
    c.in_ok-body.body c.content_of.result
    c.in_ok-class.ensures c.in_ok-instance.ensures (c.in_ok-body.ensures.ok ∙ c.in_ok-text.ensures.exact
    ∙ ap text_of same)
    (subst (λ t. Spells Implicit t elements) (sym c.in_ok-body.ensures.ok) spelled) c.content_of.ensures.only
    c.content_of.ensures.faulty
