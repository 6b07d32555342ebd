use Rattle.std.proofs.Common.{◌≡◌, List, ℕ, [], length, map, subst, sym}
use Rattle.head_log.specs.Groups.{joined}
use Rattle.head_log.specs.Groups.{StandsFor as HasGroups}
use Rattle.op_log.specs.declared.fault.LogFault.TheVariants.{DamagedHeads}
use Rattle.op_log.specs.Kept.{StandsFor}
use Rattle.op_log.specs.Filling.{AreFit}
use Rattle.op_log.specs.Heads.{group_text}
use Rattle.op_log.proofs.Fresh.{fresh_left, fresh_seen}
use Rattle.op_log.proofs.folder.log_in.Goals as goal

-- A file that nothing has been done to yet has what is supposed of it.
pub returns-in-Ok-open-clause-found : goal.returns-in-Ok-open-clause-found
returns-in-Ok-open-clause-found g c clean them stands =
    let seen = fresh_seen g.H.Start c.in-Ok.files.0 c.in-Ok.ensures.fresh.0 in
    c.in-Ok-open.ensures.found clean them (subst (λ (f : List ℕ). StandsFor f them) (sym seen) stands)

-- What a crash leaves of it stands for what it stood for.
pub returns-in-Err-open-clause-kept : goal.returns-in-Err-open-clause-kept
returns-in-Err-open-clause-kept g c clean them stands left may =
    let (d, before, keeps) = (c.in-Err-open.ensures.kept clean).left left may in
    let was = fresh_left g.H.Start c.in-Ok.files.0 c.in-Ok.ensures.fresh.0 d before in
    keeps them (subst (λ (f : List ℕ). StandsFor f them) (sym was) stands)

-- Two files of a log would not be told as damaged.
pub returns-in-Err-open-clause-damaged : goal.returns-in-Err-open-clause-damaged
returns-in-Err-open-clause-damaged g c n told clean whole them are =
    let heads = fresh_seen g.H.Start c.in-Ok.files.0 c.in-Ok.ensures.fresh.0 in
    let bodies = fresh_seen g.B.Start c.in-Ok.files.1 c.in-Ok.ensures.fresh.1 in
    let is : c.in-Err-open.field-0.fault ≡ DamagedHeads n = cc in
    c.in-Err-open.ensures.damaged n is clean whole them (record {
      stands = record {
        groups = are.stands.groups;
        are = are.stands.are;
        laid = subst (λ (f : List ℕ). HasGroups f (map group_text are.stands.groups)) (sym heads) are.stands.laid;
        spelled = are.stands.spelled;
      };
      fit = subst (λ (f : List ℕ). AreFit (length f) [] (joined are.stands.groups)) (sym bodies) are.fit;
    })
