use Rattle.std.proofs.Common.{◌≡◌, ◌-◌, refl, ap, ◌∙◌, arith}
use Rattle.dimse.specs.Cut.{cut_left}
use Rattle.dimse.proofs.FragmentsLaws.{cut_first}
use Rattle.dimse.proofs.fragment.take_fragment.Goals as goal

-- The text is longer than a fragment: its first PDU is made, and the rest is left.
pub returns-clause-parts : goal.returns-clause-parts
returns-clause-parts c =
    let whole : c.args.size - 0 ≡ c.args.size = omega arith in
    ap (cut_left c.args.size c.args.context c.args.command) c.in-Some.is
    ∙ cut_first c.args.size c.args.context c.args.command c.in-Some.text
    c.requires (omega (arith, c.len.ensures.value, c.if-len-size.false))
    ∙ rw (c.in_ok-pdu-2.ensures, c.in_ok-slice.ensures.ok, c.advance.ensures, whole) refl
