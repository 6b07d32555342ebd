use Rattle.std.proofs.Common.{rules, ◌≡◌, length}
use Rattle.head_log.specs.Log.{disk_of as heads_of, gate_of as heads_end}
use Rattle.op_log.proofs.Keeping.{kept_more, kept_on, kept_same, on_err, leaves_either, same_heads}
use Rattle.op_log.proofs.putting.add_heads.Goals as goal

-- No byte is no head.
pub returns-then-is_empty-clause-kept : goal.returns-then-is_empty-clause-kept
returns-then-is_empty-clause-kept g c old new it kept =
    let heads = c.args.heads.now in
    let none : length c.args.text.now ≡ 0 = search rules in
    kept_same g.H.Disk (heads_of heads) (heads_end heads) old new (same_heads old new c.args.text.now it none) kept

-- The gate may be open or not.
pub returns-in_err-add-clause-crash : goal.returns-in_err-add-clause-crash
returns-in_err-add-clause-crash g c old new it kept left may =
    let heads = c.args.heads.now in
    leaves_either g.H.Disk (heads_of heads) (heads_of c.add.new.self) (heads_end heads) old new c.args.text.now it c.add.ensures.crash kept left may

-- A refusal leaves the heads from before.
pub returns-in_err-add-clause-refused : goal.returns-in_err-add-clause-refused
returns-in_err-add-clause-refused g c =
    let heads = c.args.heads.now in
    on_err c.from_residual.result λ up old kept.
    kept_on g.H.Disk (heads_of heads) (heads_of c.add.new.self) (heads_end heads) (heads_end c.add.new.self) old (c.in_err-add.ensures.refused up).1 kept

-- The heads are there, whatever a crash leaves.
pub returns-clause-kept : goal.returns-clause-kept
returns-clause-kept g c old new it kept =
    let heads = c.args.heads.now in
    kept_more g.H.Disk (heads_of heads) (heads_of c.add.new.self) (heads_end heads) (heads_end c.add.new.self) old new c.args.text.now it c.in_ok-add.ensures.added kept

-- So may it be where all went well.
pub returns-clause-crash : goal.returns-clause-crash
returns-clause-crash g c old new it kept left may =
    let heads = c.args.heads.now in
    leaves_either g.H.Disk (heads_of heads) (heads_of c.add.new.self) (heads_end heads) old new c.args.text.now it c.add.ensures.crash kept left may
