-- Pieces of a text: one piece more, and more bytes behind.
use Rattle.std.proofs.Common.{◌≡◌, ℕ, true, List, [], ◌∷◌, ◌++◌, length, drop, refl, sym, ap, subst, ◌∙◌}
use Rattle.std.proofs.Common.{arith, length-append}
use Rattle.std.proofs.lemmas.List.{take_all, drop_all, take-append-le, drop-append-le}
use Rattle.association_run.specs.declared.piece.Piece.{Piece}
use Rattle.association_run.specs.declared.piece.Piece.TheVariants.{Whole, Faulty}
use Rattle.association_run.specs.Pieces.{IsPiece, Precedes, Cuts, is_cut, size_of_piece}
use Rattle.association_run.specs.inner.Turns.{is_whole}

precedes_more : (piece last : Piece) (pieces : List Piece) → is_cut (piece ∷ pieces) ≡ true → Precedes piece pieces
    → Precedes piece (pieces ++ last ∷ [])
precedes_more (Whole p n) last pieces cut precedes = tt
precedes_more (Faulty f n) last pieces cut precedes = absurd cc

cut_behind : (piece : Piece) (pieces : List Piece) → is_cut (piece ∷ pieces) ≡ true → is_cut pieces ≡ true
cut_behind (Whole p n) pieces cut = cut
cut_behind (Faulty f n) pieces cut = absurd cc

precedes_none : (piece : Piece) → Precedes piece []
precedes_none (Whole p n) = tt
precedes_none (Faulty f n) = refl

pub long_of : (piece : Piece) (text : List ℕ) → IsPiece piece text → length text ≡ size_of_piece piece
long_of (Whole p n) text is = is.1
long_of (Faulty f n) text is = is.1

-- the whole rest is one piece more
pub cuts_push : (text : List ℕ) (pieces : List Piece) (rest : List ℕ) (piece : Piece) → Cuts text pieces rest
    → is_cut pieces ≡ true → IsPiece piece rest → Cuts text (pieces ++ piece ∷ []) []
cuts_push text [] rest piece cuts cut is =
    let same = ap (λ (t : List ℕ). length t) cuts in
    let long = long_of piece rest is in (
      omega (arith, same, long),
      subst (λ (t : List ℕ). IsPiece piece t) (cuts
          ∙ sym (take_all (size_of_piece piece) text (omega (arith, same, long)))) is,
      precedes_none piece,
      sym (drop_all (size_of_piece piece) text (omega (arith, same, long))),
    )
cuts_push text (p ∷ pieces) rest piece cuts cut is = (
  cuts.0,
  cuts.1,
  precedes_more p piece pieces cut cuts.2,
  cuts_push (drop (size_of_piece p) text) pieces rest piece
      cuts.3 (cut_behind p pieces cut) is,
)

-- more bytes behind
pub cuts_more : (text : List ℕ) (pieces : List Piece) (rest more : List ℕ) → Cuts text pieces rest → Cuts (text ++ more)
    pieces (rest ++ more)
cuts_more text [] rest more cuts = ap (λ (t : List ℕ). t ++ more) cuts
cuts_more text (p ∷ pieces) rest more cuts = (
  omega (arith, cuts.0, length-append text more),
  subst (λ (t : List ℕ). IsPiece p t) (sym (take-append-le (size_of_piece p) text more cuts.0)) cuts.1,
  cuts.2,
  subst (λ (t : List ℕ). Cuts t pieces (rest ++ more)) (sym (drop-append-le (size_of_piece p) text more cuts.0))
      (cuts_more (drop (size_of_piece p) text) pieces rest more cuts.3),
)

pub is_cut-push : (pieces : List Piece) (piece : Piece) → is_cut pieces ≡ true
    → is_cut (pieces ++ piece ∷ []) ≡ is_whole piece
is_cut-push [] (Whole p n) cut = refl
is_cut-push [] (Faulty f n) cut = refl
is_cut-push (Whole p n ∷ pieces) piece cut = is_cut-push pieces piece cut
is_cut-push (Faulty f n ∷ pieces) piece cut = absurd cc
