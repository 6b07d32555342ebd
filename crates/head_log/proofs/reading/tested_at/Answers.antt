use Rattle.std.proofs.Common.{◌≡◌, ◌+◌, List, ℕ, length, true, subst, sym, ◌∙◌, ap, rules, arith}
use Rattle.sqlite_disk.specs.Disk.{Holds}
use Rattle.head_log.specs.Groups.{gate_after, sum_of}
use Rattle.head_log.proofs.Laying.{same_gate}
use Rattle.head_log.proofs.Texts.{no_other, tested}
use Rattle.head_log.proofs.reading.tested_at.Goals as goal

-- The bytes of a group would have the sum.
pub returns-then-not-has_sum-clause-other : goal.returns-then-not-has_sum-clause-other
returns-then-not-has_sum-clause-other g c told clean group many there =
    let file = g.D.Disk.seen c.args.disk.now in
    let gate = c.args.gate.now in
    let sum = c.in_ok-sum.sum in
    let read = c.in_ok-group.group.items in
    let width : length sum ≡ 32 = search rules in
    let h : Holds file (gate.at + 16) sum = c.in_ok-sum.ensures.read (c.bytes_at.ensures.same.clean clean) in
    let k : Holds file (gate.at + 48) read =
    subst (λ (f : List ℕ). Holds f (gate.at + 48) read) c.sum_at.ensures.same.seen (c.in_ok-group.ensures.read clean) in
    let place : gate.at + 48 ≡ gate.at + 16 + 32 = omega arith in
    let is = no_other file (gate.at + 16) sum read gate.prior group width (many ∙ sym c.in_ok-group.ensures.size) h
    (subst (λ (n : ℕ). Holds file n read) place k) there in
    let yes : c.has_sum.result ≡ true = c.has_sum.ensures.1 (ap (sum_of gate.prior) c.deref.ensures.value ∙ is) in
    let no = c.if-not-has_sum.true in
    absurd cc

-- The sum was compared.
pub returns-clause-held : goal.returns-clause-held
returns-clause-held g c clean =
    let file = g.D.Disk.seen c.args.disk.now in
    let gate = c.args.gate.now in
    let sum = c.in_ok-sum.sum in
    let read = c.in_ok-group.group.items in
    let h : Holds file (gate.at + 16) sum = c.in_ok-sum.ensures.read (c.bytes_at.ensures.same.clean clean) in
    let k : Holds file (gate.at + 48) read =
    subst (λ (f : List ℕ). Holds f (gate.at + 48) read) c.sum_at.ensures.same.seen (c.in_ok-group.ensures.read clean) in
    let place : gate.at + 48 ≡ gate.at + 16 + 32 = omega arith in
    let is : sum_of gate.prior read ≡ sum =
    ap (sum_of gate.prior) (sym c.deref.ensures.value) ∙ c.has_sum.ensures.0 c.if-not-has_sum.false in
    tested file (gate.at + 16) sum gate.prior read is h (subst (λ (n : ℕ). Holds file n read) place k)

-- And the next gate has it.
pub returns-clause-next : goal.returns-clause-next
returns-clause-next g c =
    let gate = c.args.gate.now in
    let read = c.in_ok-group.group.items in
    let is : sum_of gate.prior read ≡ c.in_ok-sum.sum =
    ap (sum_of gate.prior) (sym c.deref.ensures.value) ∙ c.has_sum.ensures.0 c.if-not-has_sum.false in
    same_gate _ (gate_after gate read) (omega (arith, c.in_ok-group.ensures.size)) (sym is)
