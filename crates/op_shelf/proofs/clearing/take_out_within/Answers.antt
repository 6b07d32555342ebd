use Rattle.std.proofs.Common.{◌≡◌, ◌∷◌, [], inl, inr, true, Ok, arith, rules}
use Rattle.sqlite.specs.Held.{state}
use Rattle.sqlite.specs.State.{HasCleanDisk}
use Rattle.sqlite.specs.declared.types.Value.TheVariants.{Int, Text}
use Rattle.op_shelf.specs.Group.{IsNotDoneWithin}
use Rattle.op_shelf.specs.States.{IsNotShown, rows_of}
use Rattle.op_shelf.specs.Texts.{delete_text, rowid_text}
use Rattle.op_shelf.proofs.Groups.{filling_same, sole_of, sole_same}
use Rattle.op_shelf.proofs.clearing.take_out_within.Goals as goal

-- The transaction goes on, and the row alone has its rowid.
pub delete_within-requires : goal.delete_within-requires
delete_within-requires g c = record {
  filling = λ clean.
      let old = state g.S.Store c.args.part.now.conn.now in
      let mid = state g.S.Store c.is_alone_within.new.part.conn.now in
      let early : HasCleanDisk old = omega (arith, c.is_alone_within.ensures.crash.clean, clean) in
      filling_same old mid (c.requires.filling early) (c.in_ok-is_alone_within.ensures.same clean);
  sole = λ clean.
      let old = state g.S.Store c.args.part.now.conn.now in
      let mid = state g.S.Store c.is_alone_within.new.part.conn.now in
      let early : HasCleanDisk old = omega (arith, c.is_alone_within.ensures.crash.clean, clean) in
      let n = c.requires.whole.0 in
      let alone : c.is_alone_within.result ≡ Ok true = search rules in
      let one = c.is_alone_within.ensures.alone clean alone n c.requires.whole.1 in (
        n,
        sole_same old mid c.args.digest.now n (c.in_ok-is_alone_within.ensures.same clean)
            (sole_of c.args.digest.now n (rows_of old) (rw c.requires.whole.1 at (c.requires.shown early)) one),
      );
}

-- The look was refused.
pub returns-in_err-is_alone_within-clause-store : goal.returns-in_err-is_alone_within-clause-store
returns-in_err-is_alone_within-clause-store g c clean why bad =
    let old = c.args.part.now.conn.now in
    let mid = c.is_alone_within.new.part.conn.now in
    let early : HasCleanDisk (state g.S.Store old) = omega (arith, c.is_alone_within.ensures.crash.clean, clean) in
    let n = c.requires.whole.0 in
    let refused : IsNotShown why rowid_text (Int n ∷ []) (state g.S.Store old) (state g.S.Store mid)
    = search (c.in_err-is_alone_within.ensures.cause clean n c.requires.whole.1, bad, rules) in
    (old, c.requires.filling early, inr (inl (n, refused)))

-- Then the DELETE was.
pub returns-in_err-delete_within-clause-store : goal.returns-in_err-delete_within-clause-store
returns-in_err-delete_within-clause-store g c clean why bad =
    let old = state g.S.Store c.args.part.now.conn.now in
    let mid = state g.S.Store c.is_alone_within.new.part.conn.now in
    let new = state g.S.Store c.delete_within.new.part.conn.now in
    let between : HasCleanDisk mid = omega (arith, c.delete_within.ensures.crash.clean, clean) in
    let early : HasCleanDisk old = omega (arith, c.is_alone_within.ensures.crash.clean, between) in
    let refused : IsNotDoneWithin why delete_text (Text c.args.digest.now ∷ []) mid new
    = search (c.in_err-delete_within.ensures.cause clean, bad, rules) in (
      c.is_alone_within.new.part.conn.now,
      filling_same old mid (c.requires.filling early) (c.in_ok-is_alone_within.ensures.same between),
      inr (inr refused),
    )
