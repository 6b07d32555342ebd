use Rattle.std.proofs.Common.{rules, inl, ◌<◌, ℕ, List, length, refl, subst, ap, ◌∙◌, arith}
use Rattle.std.proofs.Common.{slice_get, take}
use Rattle.std.proofs.lemmas.Result.{err_from_is_err_and}
use Rattle.sqlite_disk.specs.Disk.{MoreFaults}
use Rattle.op_log.specs.Heads.{Head}
use Rattle.shelved_site.specs.Keeping.{Holds}
use Rattle.shelved_site.specs.Verifying.{IsTestedOf}
use Rattle.shelved_site.proofs.Logs.{same_of, was_up}
use Rattle.shelved_site.proofs.Stays.{has_twice, looked, looks_twice, same_self, same_twice}
use Rattle.shelved_site.proofs.Tests.{head_at, rises_twice, rose_first, rose_then, tested_later, told_later, told_next}
use Rattle.shelved_site.proofs.verifying.test_all.Goals as goal

-- None was tested.
pub loop-index-init : goal.loop-index-init
loop-index-init g c = record {
  looks = (same_self g.B.Disk c.args.log.now).looks;
  seen = refl;
  usable = refl;
  rises = inl refl;
  up = λ up. up;
  same = λ up. same_self g.B.Disk c.args.log.now;
  told = λ up. search rules;
}

-- One more was tested, by a look at the log.
pub loop-index-preserved : goal.loop-index-preserved
loop-index-preserved g c =
    let gh = g.H.Disk in
    let gb = g.B.Disk in
    let old = c.args.log.now in
    let mid = c.loop-index.log in
    let new = c.test_at.new.log in
    let was = c.loop-index.invariant in
    let step = c.test_at.ensures in
    let low : c.loop-index.index < length old.places = search (arith, rules) in
    let (h, at) = head_at old.places c.loop-index.index low in
    let first = gb.faults old.bodies in
    let then = gb.faults mid.bodies in
    let last = gb.faults new.bodies in
    record {
      looks = looks_twice old mid new was.looks step.looks;
      seen = step.seen ∙ was.seen;
      usable = step.usable ∙ was.usable;
      rises = rises_twice first then last was.rises c.in_ok-test_at.ensures.rises;
      up = λ up. was.up (was_up gh gb mid new step.goes_on up);
      same = λ up. same_twice gb old mid new (was.same (was_up gh gb mid new step.goes_on up))
          (looked gh gb mid new step.goes_on up step.looks);
      told = λ up.
          let file = gb.seen old.bodies in
          let before = was.told (was_up gh gb mid new step.goes_on up) in
          let here = ap (λ (hs : List Head). slice_get hs c.loop-index.index) was.looks.places ∙ at in
          let tested = subst (λ (bytes : List ℕ). IsTestedOf bytes (MoreFaults then last) h c.loop-index.damaged.items
          c.test_at.new.damaged.items) was.seen (c.in_ok-test_at.ensures.tested up.bodies h here) in
          let told = told_later file (MoreFaults first then) (MoreFaults first last) (take c.loop-index.index old.places)
          c.loop-index.damaged.items (rose_first first then last c.in_ok-test_at.ensures.rises) before in
          told_next file (MoreFaults first last) old.places c.loop-index.index h c.loop-index.damaged.items
          c.test_at.new.damaged.items at told
          (tested_later file (MoreFaults then last) (MoreFaults first last) h c.loop-index.damaged.items
          c.test_at.new.damaged.items (rose_then first then last was.rises) tested);
    }

-- A look that is refused leaves all heads in memory.
pub returns-in_err-test_at-clause-refused : goal.returns-in_err-test_at-clause-refused
returns-in_err-test_at-clause-refused g c up =
    let gh = g.H.Disk in
    let gb = g.B.Disk in
    let old = c.args.log.now in
    let mid = c.loop-index.log in
    let new = c.test_at.new.log in
    let goes = c.test_at.ensures.goes_on in
    let out = err_from_is_err_and c.from_residual.result c.from_residual.ensures.1 in
    rw out.1 (has_twice (Holds gb old) (Holds gb mid) (Holds gb new) (c.loop-index.invariant.same (was_up gh gb mid new goes up)).holds
    (same_of gh gb mid new goes up c.test_at.ensures.looks.places))

-- What is up was up.
pub returns-in_err-test_at-clause-up : goal.returns-in_err-test_at-clause-up
returns-in_err-test_at-clause-up g c up =
    c.loop-index.invariant.up (was_up g.H.Disk g.B.Disk c.loop-index.log c.test_at.new.log c.test_at.ensures.goes_on up)
