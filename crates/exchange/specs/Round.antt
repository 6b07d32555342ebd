-- What one side of a round asked for, and which of it was given.
use Rattle.std.specs.Prelude.{◌≡◌, ◌≢◌, ◌⊎◌, ℕ, Bool, true, false, List, Option, Some, None, Result, Ok, Err, is_some}
use Rattle.std.specs.Prelude.{if◌then◌else◌}
use Rattle.std.specs.List.{list_any}
use Rattle.std.specs.Map.{lookup, set_value}
use Rattle.std.specs.BTreeMap.{is_at}
use Rattle.operation.specs.declared.op.Op.{Op}
use Rattle.operation.specs.declared.taken.Taken.{Taken}
use Rattle.operation.specs.Spelling.{digest_of}
use Rattle.site_state.specs.Site.{Map, digest_cmp}
use Rattle.exchange.specs.declared.version.Version.{Version}
use Rattle.exchange.specs.declared.fault.HolderFault.{HolderFault}
use Rattle.exchange.specs.declared.fault.HolderFault.TheVariants.{Memory}
use Rattle.exchange.specs.declared.fault.ExchangeFault.{ExchangeFault}
use Rattle.exchange.specs.declared.fault.ExchangeFault.TheVariants.{BadFrame, Stranger}
use Rattle.exchange.specs.Fault.{of_holder}
use Rattle.exchange.specs.Held.{is_spoken, TakesIn}

-- what the answer of a holder is to an exchange
abbrev pub by_holder : Result Taken HolderFault → Result Taken ExchangeFault
by_holder (Ok taken) = Ok taken
by_holder (Err fault) = Err (of_holder fault)

-- the version that is spoken, and the digests that were asked for, each with whether its operation was given
pub record RoundState : Type 0 where
  pub version : Version
  pub asked : List (List ℕ × Bool)

-- what asked digests have under one
abbrev pub asked_in : List ℕ → List (List ℕ × Bool) → Option Bool
asked_in digest asked = lookup (is_at (digest_cmp digest)) asked

-- whether the operation of a digest was given, if it was asked for
abbrev pub asked_at : List ℕ → RoundState → Option Bool
asked_at digest round = asked_in digest round.asked

-- whether a digest is one of some
abbrev pub is_among : List ℕ → List (List ℕ) → Bool
is_among digest digests = list_any (λ d. is_at (digest_cmp d) digest) digests

-- every operation that was asked for was given
abbrev pub IsFinished : RoundState → Type 0
IsFinished round = (digest : List ℕ) → asked_at digest round ≢ Some false

-- why an operation that was given is not taken: it is of another version, or was not asked for
abbrev pub refusal_of : RoundState → Op → Option ExchangeFault
refusal_of round op =
    if is_spoken round.version op then (if is_some (asked_at (digest_of op) round) then None else Some Stranger)
    else Some BadFrame

-- a round in which the operation of a digest was given, if it was asked for
abbrev pub with_given : List ℕ → RoundState → RoundState
with_given digest round = record round { asked = set_value (is_at (digest_cmp digest)) round.asked true }

-- memory was refused, or a holder refused
abbrev pub MemoryOr : (HolderFault → Type 0) → HolderFault → Type 0
MemoryOr refuses fault = (fault ≡ Memory) ⊎ refuses fault

-- how a round answers to an operation that the holder takes: as the holder did
pub record TakesAsked {H : Type 0} (holds : H → Map) (alone : H → Type 0) (before : H) (op : Op)
    (answer : Result Taken ExchangeFault) (after : H) : Type 0 where
  pub reply : Result Taken HolderFault
  pub takes : TakesIn holds alone before op reply after
  pub answered : answer ≡ by_holder reply
