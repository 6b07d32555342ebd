use Rattle.std.proofs.Common.{◌≡◌, ◌++◌, take, map}
use Rattle.pdu.specs.Spelling.{items_text, syntax_item}
use Rattle.pdu.proofs.writer.put_syntaxes.Given as goal

-- The items of the syntaxes so far stand behind what was there.
abbrev pub invariant-loop-syntax : goal.invariant-loop-syntax
invariant-loop-syntax l = l.out.items ≡ l.fn.out.items ++ items_text (map syntax_item (take l.syntax-index l.syntaxes))
