use Rattle.std.proofs.Common.{◌≡◌, ◌++◌, drop}
use Rattle.std.specs.Prelude.{filter}
use Rattle.ul_state.specs.Answer.{is_storage}
use Rattle.ul_state.proofs.answer.returned_roles.Given as goal

-- The roles so far, with those of storage classes among the roles left, are all that are returned.
abbrev pub invariant-loop-role : goal.invariant-loop-role
invariant-loop-role l = l.list ++ filter (λ r. is_storage r.class) (drop l.role-index l.roles) ≡ filter
    (λ r. is_storage r.class) l.roles
