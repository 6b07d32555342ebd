use Rattle.std.proofs.Common.{Bool, List, [], ◌∷◌, ℕ, ap, ◌∙◌}
use Rattle.std.specs.Prelude.{◌&&◌}
use Rattle.std.proofs.lemmas.Result.{err_from_is_err_and}
use Rattle.exchange_frames.specs.declared.frame.Frame.TheVariants.{Have}
use Rattle.exchange_frames.specs.declared.reader.TheConstants.{MOST_DIGESTS}
use Rattle.exchange.specs.Parts.{fitting, do_fit}
use Rattle.exchange.specs.declared.task.Awaited.TheVariants as awaits
use Rattle.exchange.proofs.Holders.{idles_of, refused_is}
use Rattle.exchange.proofs.side.Side.offer.Goals as goal

-- A refusal leaves what the holder has.
pub returns-in_err-held-clause-did : goal.returns-in_err-held-clause-did
returns-in_err-held-clause-did g c = let p = err_from_is_err_and c.from_residual.result c.from_residual.ensures.1 in
    rw p.1 (idles_of c.in_err-held.ensures)

-- So it does where there is no room for a part.
pub returns-in_err-have-clause-did : goal.returns-in_err-have-clause-did
returns-in_err-have-clause-did g c =
    let p = err_from_is_err_and c.from_residual-in_err-have.result c.from_residual-in_err-have.ensures.1 in
    rw p.1 (idles_of c.in_ok-held.ensures)

-- Its places were looked at, and what fits of what was held of them is said.
pub returns-clause-did : goal.returns-clause-did
returns-clause-did g c = let looks = c.in_ok-held.ensures in (
  ap (λ (b : Bool). record c.args.self.now { awaited = awaits.Want; agreed = b; whole = c.whole_with-whole.result })
      c.agreed_with-self.ensures,
  record {
    had = looks.had;
    was_had = looks.was_had;
    answers = (
      ap (λ (x : List (List ℕ)). Have x ∷ []) (c.in_ok-have.ensures ∙ ap (fitting MOST_DIGESTS) looks.answers),
      c.whole_with-whole.ensures ∙ ap (λ (ds : List (List ℕ)). c.args.self.now.whole && do_fit ds) looks.answers,
    );
    stays = looks.stays;
  },
)

-- What the holder refused is told as that.
pub returns-in_err-held-clause-refused : goal.returns-in_err-held-clause-refused
returns-in_err-held-clause-refused g c = let p = err_from_is_err_and c.from_residual.result c.from_residual.ensures.1 in
    rw (p.1, p.2) (refused_is _ (g.H.Holder.refuses_look _ _) _ c.in_err-held.ensures.answers)
