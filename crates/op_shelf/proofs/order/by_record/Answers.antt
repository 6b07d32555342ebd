use Rattle.std.proofs.Common.{◌≡◌, sym, ◌∙◌, rules}
use Rattle.std.specs.Ordering.{nat_cmp}
use Rattle.std.specs.Cmp.Lexicographic.{slice_cmp}
use Rattle.hex.specs.Hex.{encode_lower}
use Rattle.sqlite_value.proofs.OrderLemmas.{value_cmp-Text}
use Rattle.operation.specs.Spelling.{digest_of}
use Rattle.op_shelf.proofs.order.by_record.Goals as goal

-- The first columns are the texts.
pub returns : goal.returns
returns c =
    let told : c.by_text.result
    ≡ slice_cmp nat_cmp (encode_lower (digest_of c.args.a.now)) (encode_lower (digest_of c.args.b.now)) =
    search rules in
    told ∙ sym (value_cmp-Text (encode_lower (digest_of c.args.a.now)) (encode_lower (digest_of c.args.b.now)))
