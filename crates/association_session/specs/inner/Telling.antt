-- The deeds that respond to a request, put together part by part (PS3.7, 9.3).
use Rattle.std.specs.Prelude.{◌≡◌, Bool, true, false, List, [], ◌∷◌, ◌++◌}
use Rattle.std.specs.Prelude.{map, length}
use Rattle.pdu.specs.declared.value.Pdu.{Pdu}
use Rattle.data_set.specs.Set.{Set}
use Rattle.dimse.specs.declared.status.Status.{Status}
use Rattle.association_session.specs.declared.deed.Deed.{Deed}
use Rattle.association_session.specs.declared.deed.Deed.TheVariants.{Send, Reach}
use Rattle.association_session.specs.declared.deed.Moment.TheVariants.{FindAnswered}
use Rattle.association_services.specs.declared.service.RowKind.{RowKind}
use Rattle.association_services.specs.Find.{AreRows}
use Rattle.association_services.specs.Response.{Awaited, Responds}

-- Of some rows these are left, and the others were told, by deeds behind those before.
pub record TellsSome (awaited : Awaited) (kind : RowKind) (rows left : List Set) (old new : List Deed) : Type 0 where
  pub told : List Set
  pub responses : List Pdu
  pub parts : rows ≡ told ++ left
  pub are : AreRows awaited kind told responses
  pub deeds : new ≡ old ++ map Send responses

-- the deeds that end rows: the last response, and the gate is reached
abbrev pub IsEnd : Awaited → Status → List Deed → List Deed → Type 0
IsEnd awaited status old new = (response : List Pdu) × Responds awaited status response
    × (new ≡ old ++ (map Send response ++ Reach FindAnswered ∷ []))

-- Some rows are told, and where that is said the last one and behind it their end.
abbrev pub TellsTurn : Awaited → RowKind → Status → List Set → List Set → Bool → List Deed → Type 0
TellsTurn awaited kind status rows left true deeds =
    (mid : List Deed) × TellsSome awaited kind rows left [] mid × IsEnd awaited status mid deeds × (length left ≡ 0)
TellsTurn awaited kind status rows left false deeds = TellsSome awaited kind rows left [] deeds

-- the deeds that respond to a request
abbrev pub IsTold : Awaited → Status → List Deed → Type 0
IsTold awaited status deeds = (response : List Pdu) × Responds awaited status response × (deeds ≡ map Send response)
