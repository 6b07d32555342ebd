-- What holds of all runs of new worlds, from their steps and answers alone.
use Rattle.std.specs.Prelude.{◌≡◌, ℕ, List, ◌∷◌, ◌++◌, Some, Result, replicate}
use Rattle.std.specs.FinMap as finmap
use Rattle.operation.specs.declared.op.Op.{Op}
use Rattle.archive_model.specs.Members.{SameMembers}
use Rattle.site_state.specs.Site.{Map}
use Rattle.site_state.specs.Laws.{Apart}
use Rattle.site_world.specs.declared.fault.WorldFault.{WorldFault}
use Rattle.site_world.specs.declared.step.Step.{Step}
use Rattle.site_world.specs.declared.step.Seen.{Seen}
use Rattle.site_world.specs.Messages.{WorldState, new_world}
use Rattle.site_world.specs.Steps.{site_at}
use Rattle.site_world.specs.Runs.{Run, taken_at, AnswerAlike}

-- a run of a new world that ends with a site of this number which holds this, and the operations that were taken at it
pub record SiteOf (held : Map) (ops : List Op) : Type 0 where
  pub count : ℕ
  pub steps : List Step
  pub answers : List (Result Seen WorldFault)
  pub world : WorldState
  pub number : ℕ
  pub run : Run (new_world (replicate count finmap.empty)) steps answers world
  pub here : site_at world.sites number ≡ Some held
  pub taken : taken_at world.sent number steps answers ≡ ops

-- Sites of new worlds, of one run or of two, at which the same operations were taken hold equal maps.
abbrev pub SameTakenSameMaps : Type 0
SameTakenSameMaps = (a b : Map) (xs ys : List Op) → SiteOf a xs → SiteOf b ys → SameMembers xs ys → a ≡ b

-- And they answer every query in every view alike, send the same of every selection, and have equal indexes.
abbrev pub SameTakenSameAnswers : Type 0
SameTakenSameAnswers = (a b : Map) (xs ys : List Op) → SiteOf a xs → SiteOf b ys → SameMembers xs ys → AnswerAlike a b

-- The time of an operation does not matter: it may be taken before, between or after the others.
abbrev pub TimeIsFree : Type 0
TimeIsFree =
    (a b : Map) (op : Op) (xs ys zs ws : List Op)
    → SiteOf a (xs ++ (op ∷ ys)) → SiteOf b (zs ++ (op ∷ ws)) → xs ++ ys ≡ zs ++ ws → AnswerAlike a b

-- Of unequal operations of one digest a site takes one alone.
abbrev pub TakenAreApart : Type 0
TakenAreApart = (a : Map) (ops : List Op) → SiteOf a ops → Apart ops
