use Rattle.std.proofs.Common.{◌≤◌, List, ℕ, length, IsTrue, refl, subst, sym, ap, arith}
use Rattle.std.proofs.lemmas.Result.{IfOk-weaker}
use Rattle.older_heads.specs.Gates.{EndsAt}
use Rattle.older_heads.specs.Groups.{Laid, StandsFor}
use Rattle.older_heads.proofs.Gates.{laid_at}
use Rattle.older_heads.proofs.Walking.{none_short}
use Rattle.older_heads.proofs.log.end_in.Goals as goal

-- The groups end where the gates do.
pub returns-then-len-gt1-clause-found : goal.returns-then-len-gt1-clause-found
returns-then-len-gt1-clause-found g c =
    let file = g.D.Disk.seen c.args.disk.now in
    IfOk-weaker c.end_at.result _
    (λ end. IsTrue (g.D.Disk.is_clean c.end_at.new.disk) → (groups : List (List ℕ)) → StandsFor file groups
    → Laid file 0 groups end)
    (λ end ends clean groups stands.
    let was = c.end_at.ensures.same.clean clean in
    let many = c.in_ok-len.ensures.len was in
    laid_at file end groups (omega (arith, many, c.if-len-gt1.true))
    (subst (λ (f : List ℕ). EndsAt f end) c.len.ensures.seen (ends clean)) stands)
    c.end_at.ensures.ended

-- They end within the file.
pub returns-then-len-gt1-clause-reach : goal.returns-then-len-gt1-clause-reach
returns-then-len-gt1-clause-reach g c =
    let file = g.D.Disk.seen c.args.disk.now in
    IfOk-weaker c.end_at.result _ (λ end. IsTrue (g.D.Disk.is_clean c.end_at.new.disk) → end ≤ length file)
    (λ end ends clean. omega (arith, (ends clean).within, ap (λ (f : List ℕ). length f) c.len.ensures.seen))
    c.end_at.ensures.ended

-- A file of a byte at most has none.
pub returns-clause-found : goal.returns-clause-found
returns-clause-found g c clean groups stands =
    let file = g.D.Disk.seen c.args.disk.now in
    let many = c.in_ok-len.ensures.len clean in
    let none = none_short file groups stands (omega (arith, many, c.if-len-gt1.false)) in
    subst (λ (gs : List (List ℕ)). Laid file 0 gs 0) (sym none) refl
