use Rattle.std.proofs.Common.{ap, sym, ◌∙◌, rules, arith, length, ◌≡◌}
use Rattle.head_log.specs.Groups.{is_shut}
use Rattle.head_log.proofs.Shutting.{gate_is}
use Rattle.head_log.proofs.walk.is_shut_at.Goals as goal

-- The bytes that were read are those of the gate.
pub returns-clause-gate : goal.returns-clause-gate
returns-clause-gate g c clean =
    let file = g.D.Disk.seen c.args.disk.now in
    let gate = c.read_at.new.buf in
    let size : length gate ≡ 8 = search rules in
    let holds = c.in_ok-read_at.ensures.read clean (omega arith) in
    c.is_shut.ensures ∙ ap is_shut (sym (gate_is file c.args.at gate size holds))
