use Rattle.std.proofs.Common.{◌≡◌, ◌∷◌, [], inl, length, arith, rules}
use Rattle.std.proofs.lemmas.List.{nil_from_length}
use Rattle.sqlite.specs.Held.{state}
use Rattle.sqlite.specs.State.{HasCleanDisk}
use Rattle.sqlite.specs.declared.types.Value.TheVariants.{Text}
use Rattle.op_shelf.specs.States.{IsNotShown}
use Rattle.op_shelf.specs.Texts.{ids_text}
use Rattle.op_shelf.proofs.Groups.{none_cleared}
use Rattle.op_shelf.proofs.Ops.{none_in}
use Rattle.op_shelf.proofs.clearing.clear_within.Goals as goal

-- The look was refused.
pub returns-in_err-ids-clause-store : goal.returns-in_err-ids-clause-store
returns-in_err-ids-clause-store g c clean why bad =
    let old = c.args.part.now.conn.now in
    let mid = c.ids_within.new.part.conn.now in
    let early : HasCleanDisk (state g.S.Store old) = omega (arith, c.ids_within.ensures.crash.clean, clean) in
    let refused : IsNotShown why ids_text (Text c.args.digest.now ∷ []) (state g.S.Store old) (state g.S.Store mid)
    = search (c.in_err-ids.ensures.cause clean, bad, rules) in
    (old, c.requires.filling early, inl refused)

-- Nothing is under the digest.
pub returns-then-is_empty-clause-cleared : goal.returns-then-is_empty-clause-cleared
returns-then-is_empty-clause-cleared g c clean =
    let old = state g.S.Store c.args.part.now.conn.now in
    let new = state g.S.Store c.ids_within.new.part.conn.now in
    let early : HasCleanDisk old = omega (arith, c.ids_within.ensures.crash.clean, clean) in
    let zero : length c.in_ok-ids.ids.items ≡ 0 = grind (arith, c.is_empty.ensures, c.if-is_empty.true) in
    let none : c.in_ok-ids.ids.items ≡ [] = nil_from_length c.in_ok-ids.ids.items zero in
    none_cleared old new c.args.digest.now (c.requires.filling early) (c.in_ok-ids.ensures.same clean)
    (none_in _ c.in_ok-ids.ids.items (c.in_ok-ids.ensures.rows clean) none)
