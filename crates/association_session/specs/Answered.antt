-- What stands behind a query's call (PS3.4, C.4.1.1.4).
use Rattle.std.specs.Prelude.{◌≡◌, ◌⊎◌, List, [], ◌∷◌, ◌++◌, map, ⊤}
use Rattle.data_set.specs.Set.{Set}
use Rattle.pdu.specs.declared.value.Pdu.{Pdu}
use Rattle.dimse.specs.declared.status.Status.{Status}
use Rattle.association_services.specs.declared.call.Call.TheVariants.{Store, Find, Get, Load}
use Rattle.association_session.specs.declared.deed.Deed.{Deed}
use Rattle.association_session.specs.declared.deed.Deed.TheVariants.{Send, Reach, Ask, Close}
use Rattle.association_services.specs.declared.call.Finding.{Finding}
use Rattle.association_session.specs.declared.deed.Moment.TheVariants.{FindAnswered}
use Rattle.association_services.specs.declared.service.RowKind.{RowKind}
use Rattle.association_services.specs.Find.{AreRows, row_status}
use Rattle.association_services.specs.Response.{Awaited, Responds}

-- the responses with its rows, each with FF01H where a key of the query is not supported and else with FF00H; then the
-- last response, and then the gate is reached
pub record Answers (finding : Finding) (deeds : List Deed) : Type 0 where
  pub awaited : Awaited
  pub kind : RowKind
  pub rows : List Set
  pub of_rows : List Pdu
  pub response : List Pdu
  pub status : Status
  pub behind : List Deed
  pub parts : deeds ≡ map Send of_rows ++ (map Send response ++ Reach FindAnswered ∷ behind)
  pub told : AreRows awaited kind rows of_rows
  pub ended : Responds awaited status response
  pub partial : kind.status ≡ row_status finding.query.partial

-- Behind each call for a query stand the answers to it, or nothing, where it has no reply yet.
abbrev pub AreAnswered : List Deed → Type 0
AreAnswered [] = ⊤
AreAnswered (Ask (Find finding) ∷ ds) = ((ds ≡ []) ⊎ Answers finding ds) × AreAnswered ds
AreAnswered (Ask (Store content) ∷ ds) = AreAnswered ds
AreAnswered (Ask (Get getting) ∷ ds) = AreAnswered ds
AreAnswered (Ask (Load asked) ∷ ds) = AreAnswered ds
AreAnswered (Send pdu ∷ ds) = AreAnswered ds
AreAnswered (Reach moment ∷ ds) = AreAnswered ds
AreAnswered (Close ∷ ds) = AreAnswered ds
