use Rattle.std.proofs.Common.{◌≡◌, ◌∷◌, [], false, inl, arith, rules, Ok}
use Rattle.sqlite.specs.Held.{state}
use Rattle.sqlite.specs.State.{HasCleanDisk}
use Rattle.sqlite.specs.declared.types.Value.TheVariants.{Text}
use Rattle.op_shelf.specs.declared.fault.ShelfFault.TheVariants.{Store}
use Rattle.op_shelf.specs.Entries.{entry_by}
use Rattle.op_shelf.specs.States.{IsNotShown}
use Rattle.op_shelf.specs.Texts.{held_text}
use Rattle.op_shelf.proofs.Groups.{mended_within}
use Rattle.op_shelf.proofs.group.put_entry_within.Goals as goal

-- The look was refused.
pub returns-in_err-find_within-clause-store : goal.returns-in_err-find_within-clause-store
returns-in_err-find_within-clause-store g c clean why bad =
    let old = c.args.part.now.conn.now in
    let mid = c.find_within.new.part.conn.now in
    let early : HasCleanDisk (state g.S.Store old) = omega (arith, c.find_within.ensures.crash.clean, clean) in
    let refused : IsNotShown why held_text (Text c.args.digest.now ∷ []) (state g.S.Store old) (state g.S.Store mid)
    = search (c.in_err-find_within.ensures.store clean why, bad, rules) in
    (old, c.requires.filling early, inl refused)

-- The look changed nothing, and then the put was refused.
pub returns-in_err-replace_within-clause-store : goal.returns-in_err-replace_within-clause-store
returns-in_err-replace_within-clause-store g c clean why bad =
    let is : c.in_err-replace_within.field-0.0 ≡ Store why = search (bad, rules) in
    c.in_err-replace_within.ensures.store clean why (rw is)

-- What stood there had not its bytes.
pub returns-clause-new : goal.returns-clause-new
returns-clause-new g c clean new =
    let old = state g.S.Store c.args.part.now.conn.now in
    let mid = state g.S.Store c.find_within.new.part.conn.now in
    let end = state g.S.Store c.replace_within.new.part.conn.now in
    let between : HasCleanDisk mid = omega (arith, c.replace_within.ensures.crash.clean, clean) in
    let none : c.find_within.result ≡ Ok false = search rules in
    mended_within old mid end c.args.digest.now (entry_by c.args.digest.now c.args.body.now)
    (c.in_ok-find_within.ensures.same between) (c.find_within.ensures.spoiled between none)
    (c.in_ok-replace_within.ensures.replaced clean)
