-- What a site answers to an operation.
use Rattle.std.proofs.Common.{◌≡◌, ◌≢◌, Option, Some, None, Result, Ok, Err, cond, sym, ap, ◌∙◌}
use Rattle.operation.specs.declared.op.Op.{Op}
use Rattle.operation.specs.Spelling.{digest_of}
use Rattle.site_state.specs.Site.{Map, held_at, Takes}
use Rattle.operation.specs.declared.taken.Taken.{Taken}
use Rattle.operation.specs.declared.taken.Taken.TheVariants.{New, Known}
use Rattle.site_state.specs.declared.fault.SiteFault.{SiteFault}
use Rattle.site_state.specs.declared.fault.SiteFault.TheVariants.{Collision, Memory as site_memory}
use Rattle.site_world.specs.declared.fault.WorldFault.{WorldFault}
use Rattle.site_world.specs.declared.fault.WorldFault.TheVariants.{Site}
use Rattle.site_world.specs.Steps.{fault_of_site, answer_to, taken_by, IsTaken}
use Rattle.site_world.proofs.Codes.{same_op-itself, same_op-other}
use Rattle.site_world.proofs.Known.{known_again}

-- the answer of a site, as that of a world
abbrev pub told_on : Result Taken SiteFault → Result Taken WorldFault
told_on (Ok taken) = Ok taken
told_on (Err fault) = Err (fault_of_site fault)

new_answer : (r : Option Op) (op : Op) → r ≡ None → answer_to r op ≡ Ok New
new_answer r op e = ap (λ s. answer_to s op) e

known_answer : (r : Option Op) (op : Op) → r ≡ Some op → answer_to r op ≡ Ok Known
known_answer r op e = ap (λ s. answer_to s op) e ∙ ap (λ b. cond b (Ok Known) (Err (Site Collision))) (same_op-itself
    op)

clash_answer : (r : Option Op) (op other : Op) → r ≡ Some other → other ≢ op → answer_to r op ≡ Err (Site Collision)
clash_answer r op other e apart = ap (λ s. answer_to s op) e ∙ ap
    (λ b. cond b (Ok Known) (Err (Site Collision))) (same_op-other other op apart)

pub taken_at : (m n : Map) (op : Op) (r : Result Taken SiteFault) → Takes m op r n
    → IsTaken m op (taken_by m op) (told_on r) n
taken_at m n op (Ok New) takes = (sym (new_answer (held_at m (digest_of op)) op takes.0), takes.1)
taken_at m n op (Ok Known) takes = (
  sym (known_answer (held_at m (digest_of op)) op takes.0),
  takes.1
      ∙ sym (known_again m op takes.0),
)
taken_at m n op (Err Collision) (clash, same) = (
  sym (clash_answer (held_at m (digest_of op)) op clash.0 clash.1
      clash.2),
  same,
)
taken_at m n op (Err site_memory) takes = takes.1
