use Rattle.std.proofs.Common.{◌≡◌, inr, ◌∙◌, length, ℕ, subst}
use Rattle.association_run.specs.inner.Inbox.{IsPieceIn}
use Rattle.association_run.proofs.PieceLaws.{finds, if_ok}
use Rattle.association_run.proofs.inbox.whole_piece.Goals as goal

-- What a whole PDU says is what the grammar says of it.
pub returns : goal.returns
returns c =
    let text = c.args.bytes.items in
    let is : c.in_ok-bytes.bytes ≡ text = c.in_ok-bytes.ensures.ok in
    let e = rw is at c.read_shared.ensures in
    let size : c.len-size.result ≡ length text = c.len-size.ensures ∙ c.args.bytes.ok.0 in
    if_ok c.piece_of.result _ _ (λ piece found. finds text c.read_shared.result piece
    (inr (c.requires.lawful, c.requires.whole)) e.done e.lawful e.need.0 e.unknown_type.0 e.bad_length.0 e.bad_item
    e.too_long.0 (subst (λ (n : ℕ). IsPieceIn c.read_shared.result n piece) size found)) c.piece_of.ensures
