use Rattle.pdu.specs.Spelling.{HasLength, role_item}
use Rattle.pdu.proofs.Lists.{all_map_at}
use Rattle.pdu.proofs.writer.put_roles.Goals as goal

-- Each item has a length of two bytes.
pub put_role-requires : goal.put_role-requires
put_role-requires c = all_map_at HasLength role_item c.args.roles.now c.loop-role.role-index c.role-item.result
    c.requires c.loop-role-test.true c.role-item.is
