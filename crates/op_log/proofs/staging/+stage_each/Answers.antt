use Rattle.std.proofs.Common.{arith, ◌++◌, ◌∷◌, [], ◌-◌, List, Err, inl, inr, ap, take, drop, length, subst, ◌∙◌}
use Rattle.std.proofs.lemmas.Result.{on_ok_weaker}
use Rattle.body_log.specs.Log.{disk_of, end_of}
use Rattle.operation.specs.declared.op.Op.{Op}
use Rattle.op_log.specs.declared.fault.LogFault.TheVariants.{Collision}
use Rattle.op_log.specs.declared.kept.Kept.{Kept}
use Rattle.op_log.specs.Heads.{bodies_long, heads_long}
use Rattle.op_log.specs.Puts.{ComesToClash}
use Rattle.op_log.specs.Staged.{AreStaged}
use Rattle.op_log.proofs.Faults.{told_is}
use Rattle.op_log.proofs.Growing.{grows_twice, places_twice, puts_on, rises_both}
use Rattle.op_log.proofs.Growing.{split_first, staged_more}
use Rattle.op_log.proofs.staging.+stage_each.Goals as goal

-- The first was put before the others, which leave its data set alone.
pub returns-in_ok-push-in-len1-up-clause-staged : goal.returns-in_ok-push-in-len1-up-clause-staged
returns-in_ok-push-in-len1-up-clause-staged g t c =
    let first = c.in_ok-kept-in-len1-up in
    let ops = c.args.ops.now in
    on_ok_weaker c.stage_each.result (λ rest.
    subst (λ (os : List Op). AreStaged g.B.Disk c.stage_each.new.bodies c.args.places.now c.stage_each.new.places c.args.group.now c.stage_each.new.group os)
    (split_first c.op-item.result ops c.in-len1-up.len_at_least c.op-item.is)
    (staged_more g.B.Disk c.stage_one.new.bodies c.stage_each.new.bodies c.stage_each.ensures.grows c.op-item.result first.kept (take (length ops - 1) (drop 1 ops))
    c.args.places.now c.stage_one.new.places c.stage_each.new.places c.args.group.now _ c.stage_each.new.group first.ensures.put first.ensures.text
    (c.in_ok-push-in-len1-up.ensures.items ∙ ap (λ (ks : List Kept). ks ++ first.kept ∷ []) c.stage_one.ensures.kepts)
    rest)) c.stage_each.ensures.staged

-- The places of both are behind those from before.
pub returns-in_ok-push-in-len1-up-clause-places : goal.returns-in_ok-push-in-len1-up-clause-places
returns-in_ok-push-in-len1-up-clause-places g t c =
    places_twice c.args.bodies.now c.stage_one.new.bodies c.stage_each.new.bodies c.args.places.now c.stage_one.new.places
    c.stage_each.new.places _ _ _ c.stage_one.ensures.places c.stage_each.ensures.places

-- The first was put, and then one of the others clashes.
pub returns-in_ok-push-in-len1-up-clause-collision : goal.returns-in_ok-push-in-len1-up-clause-collision
returns-in_ok-push-in-len1-up-clause-collision g t c told =
    let first = c.in_ok-kept-in-len1-up in
    let ops = c.args.ops.now in
    let old = c.args.places.now in
    let mid = c.stage_one.new.places in
    let new = c.stage_each.new.bodies in
    let put = puts_on g.B.Disk c.stage_one.new.bodies new c.stage_each.ensures.grows c.op-item.result first.kept old mid first.ensures.put in
    subst (λ (os : List Op). ComesToClash g.B.Disk (disk_of new) (end_of new) old os)
    (split_first c.op-item.result ops c.in-len1-up.len_at_least c.op-item.is)
    (inr (first.kept, mid, put, c.stage_each.ensures.collision told))

-- The file reaches as far as it did.
pub returns-in_ok-push-in-len1-up-clause-rises : goal.returns-in_ok-push-in-len1-up-clause-rises
returns-in_ok-push-in-len1-up-clause-rises g t c =
    rises_both g.B.Disk c.args.bodies.now c.stage_one.new.bodies c.stage_each.new.bodies c.stage_each.result
    c.in_ok-kept-in-len1-up.ensures.rises c.stage_each.ensures.rises

-- Heads and data sets of both are as long as those of all.
pub returns-in_ok-push-in-len1-up-clause-long : goal.returns-in_ok-push-in-len1-up-clause-long
returns-in_ok-push-in-len1-up-clause-long g t c =
    let ops = c.args.ops.now in
    let all = ap heads_long (split_first c.op-item.result ops c.in-len1-up.len_at_least c.op-item.is) in
    on_ok_weaker c.stage_each.result (λ rest. omega (arith, rest, c.in_ok-kept-in-len1-up.ensures.long, all)) c.stage_each.ensures.long

-- Both are as long as their data sets at most.
pub returns-in_ok-push-in-len1-up-clause-within : goal.returns-in_ok-push-in-len1-up-clause-within
returns-in_ok-push-in-len1-up-clause-within g t c =
    let ops = c.args.ops.now in
    let all = ap bodies_long (split_first c.op-item.result ops c.in-len1-up.len_at_least c.op-item.is) in
    let first = c.stage_one.ensures.within in
    let rest = c.stage_each.ensures.within in
    record {
      within = omega (arith, first.within, rest.within, all);
      too_long = λ told. omega (arith, rest.too_long told, first.within, all);
    }

-- The file grew twice.
pub returns-in_ok-push-in-len1-up-clause-grows : goal.returns-in_ok-push-in-len1-up-clause-grows
returns-in_ok-push-in-len1-up-clause-grows g t c =
    grows_twice g.B.Disk c.args.bodies.now c.stage_one.new.bodies c.stage_each.new.bodies c.stage_one.ensures.grows c.stage_each.ensures.grows

-- The first clashes.
pub returns-in_err-kept-in-len1-up-clause-collision : goal.returns-in_err-kept-in-len1-up-clause-collision
returns-in_err-kept-in-len1-up-clause-collision g t c told =
    let ops = c.args.ops.now in
    let new = c.stage_one.new.bodies in
    let is = told_is c.from_residual.result c.in_err-kept-in-len1-up.field-0.0 Collision c.from_residual.ensures.1 told in
    subst (λ (os : List Op). ComesToClash g.B.Disk (disk_of new) (end_of new) c.args.places.now os)
    (split_first c.op-item.result ops c.in-len1-up.len_at_least c.op-item.is)
    (inl (c.in_err-kept-in-len1-up.ensures.collision (ap Err is)))
