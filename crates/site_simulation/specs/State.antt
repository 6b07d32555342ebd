-- What a script has made so far.
use Rattle.std.specs.Prelude.{ℕ, List, refl}
use Rattle.std.specs.Coded.{Coded, code_by, coded×, coded_ℕ, coded_list}
use Rattle.site_world.specs.Messages.{WorldState, world_code}

-- the names of the sites, that of site 1 first, and the sites with their messages
pub record State : Type 0 where
  pub names : List (List ℕ)
  pub world : WorldState

abbrev pub state_code : Coded State
state_code =
    code_by (List (List ℕ) × WorldState) (coded× (coded_list (coded_list coded_ℕ)) world_code) (λ s. (s.names, s.world))
    (λ p. record { names = p.0; world = p.1 }) (λ _. refl)
