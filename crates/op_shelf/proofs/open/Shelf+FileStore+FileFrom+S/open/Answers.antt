use Rattle.std.proofs.Common.{arith, inl, inr, rules}
use Rattle.sqlite.specs.State.{HasCleanDisk}
use Rattle.sqlite.specs.Files.{file_state}
use Rattle.op_shelf.proofs.Back.{ok_both, err_one, some_one}
use Rattle.op_shelf.proofs.open.Shelf+FileStore+FileFrom+S.open.Goals as goal

-- The shelf stands for what the open found; and what was found and is refused is as it was.
pub returns-in-Ok : goal.returns-in-Ok
returns-in-Ok g c =
    let was = c.in-Ok.connection in
    record {
      found = ok_both c.adopt.result _ _ _ (λ shelf stands crash clean.
          let early : HasCleanDisk (file_state was) = omega (arith, crash.clean, clean) in
          record {
            was = was;
            opened = c.in-Ok.ensures.opened early;
            found = c.in-Ok.ensures.found early;
            stands =
                stands clean;
          })
          c.adopt.ensures.stands c.adopt.ensures.crash;
      refused = err_one c.adopt.result _ _ (λ e given. inr (record {
        was = was;
        last = given.0;
        opened = λ clean. let early : HasCleanDisk (file_state was) = omega (arith, given.1.crash.clean, clean) in
            c.in-Ok.ensures.opened early;
        found = λ clean. let early : HasCleanDisk (file_state was) = omega (arith, given.1.crash.clean, clean) in
            c.in-Ok.ensures.found early;
        given_up = given.1;
      }))
          c.adopt.ensures.given_up;
    }

-- No database was opened, for what the open says.
pub returns-in-Err-clause-refused : goal.returns-in-Err-clause-refused
returns-in-Err-clause-refused g c = inl (record {
  error = c.in-Err.error;
  left = c.in-Err._left;
  told = search rules;
  named = c.in-Err.ensures.named;
  none = c.in-Err.ensures.unopened;
  cause = some_one c.in-Err._left _ _ (λ left cause. (cause.0, cause.3)) c.in-Err.ensures.cause;
})
