use Rattle.std.proofs.Common.{List, ℕ, [], length, ap, ◌∙◌, arith, subst, sym}
use Rattle.std.proofs.lemmas.Result.{on_ok_weaker}
use Rattle.sqlite_disk.specs.Disk.{Holds}
use Rattle.head_log.specs.Groups.{Ready, first_gate, is_shut_at}
use Rattle.head_log.proofs.Laying.{begun}
use Rattle.head_log.proofs.adding.begin.Goals as goal

-- A synced file that begins with a shut gate has no group.
pub returns-clause-ready : goal.returns-clause-ready
returns-clause-ready g c =
    on_ok_weaker c.sync.result (λ only left may.
    let file = g.D.Disk.seen c.write_at.new.self in
    let gate = subst (λ (bytes : List ℕ). Holds file 0 bytes) c.to_le_bytes.ensures
    (c.in_ok-write_at.ensures.written (omega arith)) in
    subst (λ (f : List ℕ). Ready f first_gate []) (sym (only left may)) (begun file gate)) c.sync.ensures.durable

-- It ends there.
pub returns-clause-ended : goal.returns-clause-ended
returns-clause-ended g c =
    on_ok_weaker c.sync.result (λ only.
    let file = g.D.Disk.seen c.write_at.new.self in
    let gate = subst (λ (bytes : List ℕ). Holds file 0 bytes) c.to_le_bytes.ensures
    (c.in_ok-write_at.ensures.written (omega arith)) in
    let ready = begun file gate in
    let same = c.sync.ensures.seen in
    record {
      settled = λ left may. only left may ∙ sym same;
      within = omega (arith, ap (λ (f : List ℕ). length f) same, ready.within);
      shut = ap (λ (f : List ℕ). is_shut_at f 0) same ∙ ready.shut;
    }) c.sync.ensures.durable
