use Rattle.std.proofs.Common.{◌≡◌, ◌≤◌, List, ℕ, length, IsTrue, sym, subst, ap, ◌∙◌, arith}
use Rattle.std.proofs.lemmas.Result.{IfOk-weaker}
use Rattle.head_log.specs.declared.gate.Gate.{Gate}
use Rattle.head_log.specs.Gates.{EndsAt}
use Rattle.head_log.specs.Groups.{IsReady, Ready, StandsFor, first_gate}
use Rattle.head_log.proofs.Laying.{none_yet}
use Rattle.head_log.proofs.Opening.{kept_if_begun, ready_at}
use Rattle.head_log.proofs.log.start.Goals as goal

-- The groups end where the gates do, and what a crash leaves is what was synced.
pub returns-then-len-gt8-clause-found : goal.returns-then-len-gt8-clause-found
returns-then-len-gt8-clause-found g c =
    let file = g.D.Disk.seen c.args.disk.now in
    let seen = c.len.ensures.seen ∙ c.sync.ensures.seen in
    IfOk-weaker c.end_at.result _
    (λ end. IsTrue (g.D.Disk.is_clean c.end_at.new.disk) → (groups : List (List ℕ)) → StandsFor file groups
    → IsReady g.D.Disk c.end_at.new.disk end groups)
    (λ end ends clean groups stands left may.
    let was = c.end_at.ensures.same.clean clean in
    let many : c.in_ok-len.len ≡ length file =
    c.in_ok-len.ensures.len was ∙ ap (λ (f : List ℕ). length f) c.sync.ensures.seen in
    let here = subst (λ (f : List ℕ). EndsAt f end) seen (ends clean) in
    let ready = ready_at file end groups (omega (arith, many, c.if-len-gt8.true)) here stands in
    let only = c.in_ok-sync.ensures.durable left (c.len.ensures.crash left (c.end_at.ensures.same.crash left may)) in
    subst (λ (f : List ℕ). Ready f end groups) (sym only) ready)
    c.end_at.ensures.ended

-- A file of eight bytes at most stood for no group.
pub returns-clause-found : goal.returns-clause-found
returns-clause-found g c clean groups stands left may =
    let file = g.D.Disk.seen c.args.disk.now in
    let many : c.in_ok-len.len ≡ length file =
    c.in_ok-len.ensures.len (c.begin.ensures.clean clean) ∙ ap (λ (f : List ℕ). length f) c.sync.ensures.seen in
    let none = none_yet file groups (omega (arith, many, c.if-len-gt8.false)) stands in
    let begun = subst (λ (gs : List (List ℕ)). Ready left first_gate gs) (sym none)
    (c.in_ok-begin.ensures.ready left may) in
    subst (λ (gate : Gate). Ready left gate groups) (sym c.first.ensures) begun

-- It is begun, and stands for none.
pub returns-in_err-begin-clause-kept : goal.returns-in_err-begin-clause-kept
returns-in_err-begin-clause-kept g c clean =
    let file = g.D.Disk.seen c.args.disk.now in
    let many : c.in_ok-len.len ≡ length file =
    c.in_ok-len.ensures.len (c.begin.ensures.clean clean) ∙ ap (λ (f : List ℕ). length f) c.sync.ensures.seen in
    let short : length file ≤ 8 = omega (arith, many, c.if-len-gt8.false) in
    kept_if_begun g.D.Disk c.args.disk.now c.begin.new.disk (λ f. g.met.D.Disk.seen_may_stay f) short
    (c.begin.ensures.crash λ left may. subst (λ (f : List ℕ). length f ≤ 8)
    (sym (c.in_ok-sync.ensures.durable left (c.len.ensures.crash left may))) short)

-- So it does after the sync.
pub returns-clause-kept : goal.returns-clause-kept
returns-clause-kept g c clean =
    let file = g.D.Disk.seen c.args.disk.now in
    let many : c.in_ok-len.len ≡ length file =
    c.in_ok-len.ensures.len (c.begin.ensures.clean clean) ∙ ap (λ (f : List ℕ). length f) c.sync.ensures.seen in
    let short : length file ≤ 8 = omega (arith, many, c.if-len-gt8.false) in
    kept_if_begun g.D.Disk c.args.disk.now c.begin.new.disk (λ f. g.met.D.Disk.seen_may_stay f) short
    (c.begin.ensures.crash λ left may. subst (λ (f : List ℕ). length f ≤ 8)
    (sym (c.in_ok-sync.ensures.durable left (c.len.ensures.crash left may))) short)
