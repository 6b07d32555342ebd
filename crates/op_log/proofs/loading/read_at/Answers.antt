use Rattle.std.proofs.Common.{rules, ◌≡◌, ◌-◌, ℕ, true, length, sym, subst, ap, ◌∙◌, arith, refl}
use Rattle.body_log.specs.Log.{disk_of}
use Rattle.operation.specs.declared.op.Op.{Op}
use Rattle.operation.specs.Spelling.{hash_of, spelling}
use Rattle.op_log.specs.Fault.{IsOfRead}
use Rattle.op_log.specs.declared.fault.LogFault.TheVariants.{DamagedBody}
use Rattle.op_log.specs.Heads.{Head, body_of, size_of}
use Rattle.op_log.proofs.Faults.{told_is}
use Rattle.op_log.proofs.Lists.{front_long, is_of}
use Rattle.op_log.proofs.Spellings.{same_op, spelled}
use Rattle.op_log.proofs.loading.read_at.Goals as goal

-- A read tells no damage.
pub returns-in_err-text-clause-damaged : goal.returns-in_err-text-clause-damaged
returns-in_err-text-clause-damaged g c clean op lawful head has n told =
    let is = told_is c.from_residual.result c.in_err-text.field-0.0 (DamagedBody n) c.from_residual.ensures.1 told in
    subst IsOfRead is c.in_err-text.ensures.only

-- What is read is front and data set of the operation, so its spelling.
pub returns-in_err-op-clause-damaged : goal.returns-in_err-op-clause-damaged
returns-in_err-op-clause-damaged g c clean op lawful head has n told =
    let size = ap (λ (h : Head). h.size) head in
    let front = ap (λ (h : Head). h.front) head in
    let read = c.in_ok-text.ensures.read clean (body_of op) (sym size) (λ some. has (omega (arith, some, size))) in
    c.decoded.ensures.damaged n (search rules) op lawful (spelled op c.in_ok-text.text.items c.args.place.now.front read front)

-- The data set stands behind the front.
pub returns-then-not-is_behind-clause-damaged : goal.returns-then-not-is_behind-clause-damaged
returns-then-not-is_behind-clause-damaged g c clean op lawful head has n told =
    let size = ap (λ (h : Head). h.size) head in
    let front = ap (λ (h : Head). h.front) head in
    let read = c.in_ok-text.ensures.read clean (body_of op) (sym size) (λ some. has (omega (arith, some, size))) in
    let text = spelled op c.in_ok-text.text.items c.args.place.now.front read front in
    let same = same_op c.in_ok-op.op op c.in_ok-text.text.items c.in_ok-op.ensures.lawful lawful c.in_ok-op.ensures.found text in
    let many : c.len-long.result ≡ length c.in_ok-text.text.items = omega (arith, c.len-long.ensures, c.in_ok-text.text.ok) in
    let long = ap (λ (n : ℕ). n - size_of c.in_ok-op.op) (many ∙ ap length text)
    ∙ ap (λ (o : Op). length (spelling op) - size_of o) same ∙ sym (front_long op) ∙ ap length (sym front) ∙ sym c.len.ensures in
    let yes : c.is_behind.result ≡ true = c.is_behind.ensures.1 long in
    let no = c.if-not-is_behind.true in
    absurd cc

-- What was read and stands behind the front is the operation of a head with its digest.
pub returns-clause-found : goal.returns-clause-found
returns-clause-found g c clean =
    let behind : c.is_behind.result ≡ true = cc in
    let many : length c.in_ok-text.text.items ≡ c.len-long.result = omega (arith, c.len-long.ensures, c.in_ok-text.text.ok) in
    let cut = ap (λ (n : ℕ). n - size_of c.in_ok-op.op) many ∙ c.is_behind.ensures.0 behind ∙ c.len.ensures in
    is_of (g.B.Disk.seen (disk_of c.args.bodies.now)) c.args.place.now (hash_of c.in_ok-op.op) c.in_ok-text.text.items
    c.in_ok-op.op c.in_ok-op.ensures.lawful refl c.in_ok-op.ensures.found cut (c.in_ok-text.ensures.held clean)

-- Both are spelled with what was read.
pub returns-clause-exact : goal.returns-clause-exact
returns-clause-exact g c clean op lawful head has =
    let size = ap (λ (h : Head). h.size) head in
    let front = ap (λ (h : Head). h.front) head in
    let read = c.in_ok-text.ensures.read clean (body_of op) (sym size) (λ some. has (omega (arith, some, size))) in
    let text = spelled op c.in_ok-text.text.items c.args.place.now.front read front in
    same_op c.in_ok-op.op op c.in_ok-text.text.items c.in_ok-op.ensures.lawful lawful c.in_ok-op.ensures.found text

-- And so whatever operation the head is of, one that is not lawful too.
pub returns-clause-alike : goal.returns-clause-alike
returns-clause-alike g c clean op head has =
    let size = ap (λ (h : Head). h.size) head in
    let front = ap (λ (h : Head). h.front) head in
    let read = c.in_ok-text.ensures.read clean (body_of op) (sym size) (λ some. has (omega (arith, some, size))) in
    sym c.in_ok-op.ensures.found ∙ spelled op c.in_ok-text.text.items c.args.place.now.front read front
