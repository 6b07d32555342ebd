use Rattle.std.proofs.Common.{inl}
use Rattle.association_run.proofs.PieceLaws.{finds, if_ok}
use Rattle.association_run.proofs.inbox.header_piece.Goals as goal

-- What a header alone says is what the grammar says of it.
pub returns : goal.returns
returns c =
    let text = c.args.header.now in
    let e = c.read_pdu.ensures in
    if_ok c.piece_of.result _ _ (λ piece is. finds text c.read_pdu.result piece (inl c.requires) e.done e.lawful
    e.need.0
    e.unknown_type.0 e.bad_length.0 e.bad_item e.too_long.0 is) c.piece_of.ensures
