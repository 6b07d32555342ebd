use Rattle.std.proofs.Common.{◌≡◌, arith, ap, length, ◌∙◌, ◌++◌}
use Rattle.dimse.specs.Command.{fields_text}
use Rattle.dimse.proofs.WrittenLaws.{text_fits}
use Rattle.dimse.proofs.writer.spell.Goals as goal

-- The fields have at most two UIDs and ten numbers.
pub overflow_cast-counted : goal.overflow_cast-counted
overflow_cast-counted c =
    let is : c.as_slice-counted.result.now ≡ fields_text c.args.command.now = c.as_slice-counted.ensures.value
    ∙ c.in_ok-put_fields.ensures.ok ∙ ap (λ t. t ++ fields_text c.args.command.now) c.new-fields.ensures.items in
    omega (arith, text_fits c.args.command.now c.requires, ap length is)
