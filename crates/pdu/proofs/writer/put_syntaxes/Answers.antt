use Rattle.pdu.specs.Spelling.{HasLength, syntax_item}
use Rattle.pdu.proofs.Lists.{all_map_at}
use Rattle.pdu.proofs.writer.put_syntaxes.Goals as goal

-- Each item has a length of two bytes.
pub put_item-requires : goal.put_item-requires
put_item-requires c = rw c.as_slice.ensures (all_map_at HasLength syntax_item c.args.syntaxes.now
    c.loop-syntax.syntax-index c.syntax-item.result c.requires c.loop-syntax-test.true c.syntax-item.is)
