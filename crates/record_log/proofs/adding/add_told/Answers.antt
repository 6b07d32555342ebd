use Rattle.std.proofs.Common.{inl, rules, ◌≡◌, ◌∙◌, length}
use Rattle.std.proofs.lemmas.Result.{on_err_weaker, on_ok_weaker}
use Rattle.head_log.specs.Log.{disk_of, gate_of}
use Rattle.record_log.specs.Entries.{without_notes}
use Rattle.record_log.proofs.Keeping.{kept_more, kept_on, kept_same, leaves_either, stands}
use Rattle.record_log.proofs.adding.add_told.Goals as goal

-- No entry is no content.
pub returns-then-is_empty-clause-added : goal.returns-then-is_empty-clause-added
returns-then-is_empty-clause-added g c cs kept =
    let log = c.args.log.now in
    let none : length c.in_ok-text.text.items ≡ 0 = search rules in
    kept_same g.D.Disk (disk_of log) (gate_of log) cs (without_notes c.args.contents.now) c.in_ok-text.text.items
    c.in_ok-text.ensures.text none kept

-- The group that was added has the entries of the others.
pub returns-clause-added : goal.returns-clause-added
returns-clause-added g c =
    let log = c.args.log.now in
    let next = c.add.new.self in
    let more = without_notes c.args.contents.now in
    on_ok_weaker c.add.result (λ added cs kept.
    kept_more g.D.Disk (disk_of log) (disk_of next) (gate_of log) (gate_of next) cs more c.deref.result.now
    (c.deref.ensures.value ∙ c.in_ok-text.ensures.text) c.in_ok-text.ensures.told added kept) c.add.ensures.added

-- Nothing was written.
pub returns-in_err-text-clause-crash : goal.returns-in_err-text-clause-crash
returns-in_err-text-clause-crash g c cs kept file may =
    inl (stands g.D.Disk (disk_of c.args.log.now) (gate_of c.args.log.now) cs file kept may)

pub returns-then-is_empty-clause-crash : goal.returns-then-is_empty-clause-crash
returns-then-is_empty-clause-crash g c cs kept file may =
    inl (stands g.D.Disk (disk_of c.args.log.now) (gate_of c.args.log.now) cs file kept may)

-- The gate may be open or not.
pub returns-clause-crash : goal.returns-clause-crash
returns-clause-crash g c cs kept file may =
    let log = c.args.log.now in
    let more = without_notes c.args.contents.now in
    leaves_either g.D.Disk (disk_of log) (disk_of c.add.new.self) (gate_of log) cs more c.deref.result.now
    (c.deref.ensures.value ∙ c.in_ok-text.ensures.text) c.in_ok-text.ensures.told c.add.ensures.crash kept file may

-- A refusal leaves the groups, or closes the file.
pub returns-clause-refused : goal.returns-clause-refused
returns-clause-refused g c =
    let log = c.args.log.now in
    let next = c.add.new.self in
    on_err_weaker c.add.result (λ refused up cs kept.
    kept_on g.D.Disk (disk_of log) (disk_of next) (gate_of log) (gate_of next) cs (refused up).1 kept)
    c.add.ensures.refused
