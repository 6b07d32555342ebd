use Rattle.std.proofs.Common.{[], List, ℕ, sym, subst}
use Rattle.head_log.specs.Log.{disk_of as heads_of}
use Rattle.op_log.specs.Staged.{HasHeads}
use Rattle.op_log.proofs.Growing.{left_all}
use Rattle.op_log.proofs.putting.put_group.Goals as goal

-- The heads are there or are not, and the data sets last.
pub returns-in_err-add_heads-clause-crash : goal.returns-in_err-add_heads-clause-crash
returns-in_err-add_heads-clause-crash g c kept =
    let it = c.in_ok-stage.ensures.settled in
    let old = c.args.places.now in
    let new = c.stage.new.places in
    let bodies = c.stage.new.bodies in
    let heads = subst (λ (text : List ℕ). HasHeads old new [] text) (sym c.deref.ensures.value) it.heads in
    left_all g.H.Disk g.B.Disk (heads_of c.add_heads.new.heads) bodies old new c.stage.new.group c.args.ops.now it (c.add_heads.ensures.crash old new heads kept)

-- The heads are there, behind those from before.
pub returns-clause-kept : goal.returns-clause-kept
returns-clause-kept g c kept =
    let it = c.in_ok-stage.ensures.settled in
    let old = c.args.places.now in
    let new = c.stage.new.places in
    let bodies = c.stage.new.bodies in
    let heads = subst (λ (text : List ℕ). HasHeads old new [] text) (sym c.deref.ensures.value) it.heads in
    c.in_ok-add_heads.ensures.kept old new heads kept

-- A crash leaves all of them or none.
pub returns-clause-crash : goal.returns-clause-crash
returns-clause-crash g c kept =
    let it = c.in_ok-stage.ensures.settled in
    let old = c.args.places.now in
    let new = c.stage.new.places in
    let bodies = c.stage.new.bodies in
    let heads = subst (λ (text : List ℕ). HasHeads old new [] text) (sym c.deref.ensures.value) it.heads in
    left_all g.H.Disk g.B.Disk (heads_of c.add_heads.new.heads) bodies old new c.stage.new.group c.args.ops.now it (c.add_heads.ensures.crash old new heads kept)
