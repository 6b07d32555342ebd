use Rattle.std.proofs.Common.{◌≡◌, ◌∙◌}
use Rattle.dimse.specs.Command.{fields_of}
use Rattle.dimse.proofs.WrittenLaws.{appended, fields_appended}
use Rattle.dimse.proofs.writer.put_fields.Goals as goal

-- The fields go out one behind the other.
pub returns-clause-ok : goal.returns-clause-ok
returns-clause-ok c =
    let e : c.put_number-10.new.out.items ≡ appended c.args.out.now.items (fields_of c.args.command.now) =
    cc (
      c.in_ok-put_uid.ensures,
      c.in_ok-put_number.ensures.ok,
      c.in_ok-put_number-2.ensures.ok,
      c.in_ok-put_number-3.ensures.ok,
      c.in_ok-put_number-4.ensures.ok,
      c.in_ok-put_number-5.ensures.ok,
      c.in_ok-put_number-6.ensures.ok,
      c.in_ok-put_uid-2.ensures,
      c.in_ok-put_number-7.ensures.ok,
      c.in_ok-put_number-8.ensures.ok,
      c.in_ok-put_number-9.ensures.ok,
      c.in_ok-put_number-10.ensures.ok,
    ) in
    e ∙ fields_appended c.args.out.now.items c.args.command.now
