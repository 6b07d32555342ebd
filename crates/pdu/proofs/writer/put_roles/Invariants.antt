use Rattle.std.proofs.Common.{◌≡◌, ◌++◌, take, map}
use Rattle.pdu.specs.Spelling.{items_text, role_item}
use Rattle.pdu.proofs.writer.put_roles.Given as goal

-- The items of the roles so far stand behind what was there.
abbrev pub invariant-loop-role : goal.invariant-loop-role
invariant-loop-role l = l.out.items ≡ l.fn.out.items ++ items_text (map role_item (take l.role-index l.roles))
