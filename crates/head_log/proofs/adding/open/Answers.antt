use Rattle.std.proofs.Common.{◌≡◌, ◌++◌, ◌∷◌, [], List, ℕ, length, subst, sym, ap, arith}
use Rattle.std.proofs.lemmas.Result.{on_ok_weaker}
use Rattle.sqlite_disk.specs.Disk.{Holds, Torn}
use Rattle.head_log.specs.Groups.{Ready, gate_after}
use Rattle.head_log.proofs.Laying.{either, gained}
use Rattle.head_log.proofs.Shutting.{open_at}
use Rattle.head_log.proofs.adding.open.Goals as goal

-- The gate is torn over the one file that a crash could leave.
pub returns-in_err-write_at-clause-crash : goal.returns-in_err-write_at-clause-crash
returns-in_err-write_at-clause-crash g c groups ready left may =
    let gate = c.args.gate.now in
    let (before, was, torn) = c.write_at.ensures.crash left may in
    let size : length c.to_le_bytes.result ≡ 8 = ap length c.to_le_bytes.ensures in
    let of_gate = subst (λ (n : ℕ). Torn gate.at n before left) size torn in
    let it = subst (λ (file : List ℕ). Torn gate.at 8 file left) (c.requires.staged.settled before was) of_gate in
    either _ left gate groups _ c.requires.some c.requires.short it
    (ready _ (g.met.D.Disk.seen_may_stay _)) c.requires.staged.there

-- The gate that was written is not shut, and the sync left it alone.
pub returns-clause-opened : goal.returns-clause-opened
returns-clause-opened g c =
    let gate = c.args.gate.now in
    let group = c.args.group.now in
    let old = g.D.Disk.seen c.args.disk.now in
    let file = g.D.Disk.seen c.write_at.new.self in
    let size : length c.to_le_bytes.result ≡ 8 = ap length c.to_le_bytes.ensures in
    let torn = subst (λ (n : ℕ). Torn gate.at n old file) size c.write_at.ensures.others in
    let written = subst (λ (bytes : List ℕ). Holds file gate.at bytes) c.to_le_bytes.ensures
    (c.in_ok-write_at.ensures.written (omega (arith, size))) in
    on_ok_weaker c.sync.result (λ only groups ready left may.
    let seen = gained old file gate groups group c.requires.some c.requires.short torn (open_at file gate.at written)
    (ready _ (g.met.D.Disk.seen_may_stay _)) c.requires.staged.there in
    subst (λ (f : List ℕ). Ready f (gate_after gate group) (groups ++ group ∷ [])) (sym (only left may)) seen)
    c.sync.ensures.durable

pub returns-clause-crash : goal.returns-clause-crash
returns-clause-crash g c groups ready left may =
    let gate = c.args.gate.now in
    let (before, was, torn) = c.write_at.ensures.crash left (c.sync.ensures.crash left may) in
    let size : length c.to_le_bytes.result ≡ 8 = ap length c.to_le_bytes.ensures in
    let of_gate = subst (λ (n : ℕ). Torn gate.at n before left) size torn in
    let it = subst (λ (file : List ℕ). Torn gate.at 8 file left) (c.requires.staged.settled before was) of_gate in
    either _ left gate groups _ c.requires.some c.requires.short it
    (ready _ (g.met.D.Disk.seen_may_stay _)) c.requires.staged.there
