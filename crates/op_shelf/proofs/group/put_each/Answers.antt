use Rattle.std.proofs.Common.{◌≡◌, ◌++◌, ◌+◌, ◌∷◌, [], take, sym, subst, ◌∙◌, arith, rules}
use Rattle.sqlite.specs.Held.{state}
use Rattle.sqlite.specs.State.{HasCleanDisk}
use Rattle.sqlite.proofs.InsideLemmas.{keeps_then}
use Rattle.sqlite.proofs.StateLemmas.{survives_then}
use Rattle.op_shelf.specs.Entries.{entry_of, digest_text}
use Rattle.op_shelf.specs.Group.{HasPut}
use Rattle.op_shelf.specs.States.{HasOther, rows_of}
use Rattle.op_shelf.proofs.Groups.{filling_then, one_more, other_at}
use Rattle.op_shelf.proofs.group.put_each.Goals as goal

-- The table stands as it did.
pub put_within-requires : goal.put_within-requires
put_within-requires g c = record {
  filling = λ clean.
      let was = c.loop-op.invariant.1 clean in
      let first : HasCleanDisk (state g.S.Store c.args.part.now.conn.now) =
      omega (arith, c.loop-op.invariant.2.clean, clean) in
      filling_then (state g.S.Store c.args.part.now.conn.now) (state g.S.Store c.loop-op.part.conn.now) _ _
      (c.requires.filling first) was.0;
}

-- This one is put too.
pub loop-op-preserved : goal.loop-op-preserved
loop-op-preserved g c =
    let first = state g.S.Store c.args.part.now.conn.now in
    let old = state g.S.Store c.loop-op.part.conn.now in
    let new = state g.S.Store c.put_within.new.part.conn.now in
    let step = c.put_within.ensures.crash in
    let pushed : c.push.new.self.items ≡ c.loop-op.kepts.items ++ c.in_ok-kept.kept ∷ [] = search rules in (
      c.put_within.ensures.same_reference ∙ c.loop-op.invariant.0,
      λ clean.
          let was = c.loop-op.invariant.1 (omega (arith, step.clean, clean)) in (
            subst (λ ks. HasPut first new (take (c.loop-op.op-index + 1) c.args.ops.now) ks) (sym pushed)
                (one_more first old new c.args.ops.now c.loop-op.op-index _ c.loop-op.kepts.items c.in_ok-kept.kept
                c.loop-op-test.true c.op-item.is was.0 (c.in_ok-kept.ensures.put clean)),
            keeps_then first old new was.1 (c.put_within.ensures.kept clean),
          ),
      survives_then first old new _ _ _ (λ _ db none. none) (λ _ db none. none) c.loop-op.invariant.2 step,
    )

-- This one found another entry, behind those so far.
pub returns-in_err-kept-clause-bad_row : goal.returns-in_err-kept-clause-bad_row
returns-in_err-kept-clause-bad_row g c clean bad =
    let first = state g.S.Store c.args.part.now.conn.now in
    let old = state g.S.Store c.loop-op.part.conn.now in
    let was = c.loop-op.invariant.1 (omega (arith, c.put_within.ensures.crash.clean, clean)) in
    let other : HasOther (rows_of old) (digest_text c.op-item.result) (entry_of c.op-item.result)
    = search (c.in_err-kept.ensures.bad_row clean, bad, rules) in
    other_at first old c.args.ops.now c.loop-op.op-index c.op-item.result c.loop-op.kepts.items c.loop-op-test.true
    c.op-item.is was.0 other
