use Rattle.std.proofs.Common.{◌≡◌, inl, inr, arith, rules}
use Rattle.sqlite.specs.Held.{state}
use Rattle.sqlite.specs.State.{HasCleanDisk}
use Rattle.op_shelf.specs.declared.fault.ShelfFault.TheVariants.{Store}
use Rattle.op_shelf.specs.Entries.{entry_by}
use Rattle.op_shelf.specs.Group.{IsNotClearedAt, IsNotDoneWithin}
use Rattle.op_shelf.specs.Texts.{insert_text}
use Rattle.op_shelf.proofs.Groups.{cleared_filling}
use Rattle.op_shelf.proofs.group.replace_within.Goals as goal

-- The transaction goes on.
pub insert_within-requires : goal.insert_within-requires
insert_within-requires g c = record {
  filling = λ clean.
      let old = state g.S.Store c.args.part.now.conn.now in
      let mid = state g.S.Store c.clear_within.new.part.conn.now in
      let early : HasCleanDisk old = omega (arith, c.clear_within.ensures.crash.clean, clean) in
      cleared_filling old mid c.args.digest.now (c.requires.filling early) (c.in_ok-clear_within.ensures.cleared clean);
}

-- What was to be taken out was not.
pub returns-in_err-clear_within-clause-store : goal.returns-in_err-clear_within-clause-store
returns-in_err-clear_within-clause-store g c clean why bad =
    let end = c.clear_within.new.part.conn.now in
    let is : c.in_err-clear_within.field-0.0 ≡ Store why = search (bad, rules) in
    let refused : IsNotClearedAt g.S.Store why end c.args.digest.now = c.in_err-clear_within.ensures.store clean why (rw is)
    in
    (refused.0, refused.1, inr (inl refused.2))

-- Then the INSERT was.
pub returns-in_err-insert_within-clause-store : goal.returns-in_err-insert_within-clause-store
returns-in_err-insert_within-clause-store g c clean why bad =
    let old = state g.S.Store c.args.part.now.conn.now in
    let mid = state g.S.Store c.clear_within.new.part.conn.now in
    let new = state g.S.Store c.insert_within.new.part.conn.now in
    let between : HasCleanDisk mid = omega (arith, c.insert_within.ensures.crash.clean, clean) in
    let early : HasCleanDisk old = omega (arith, c.clear_within.ensures.crash.clean, between) in
    let refused : IsNotDoneWithin why insert_text (entry_by c.args.digest.now c.args.body.now) mid new
    = search (c.in_err-insert_within.ensures.cause clean, bad, rules) in (
      c.clear_within.new.part.conn.now,
      cleared_filling old mid c.args.digest.now (c.requires.filling early)
          (c.in_ok-clear_within.ensures.cleared between),
      inr (inr refused),
    )
