-- Of a message that is served, which statuses are pending, and which are final.
use Rattle.std.proofs.Common.{◌≡◌, true, false, ap, ◌∙◌}
use Rattle.data_set.specs.declared.syntax.Syntax.{Syntax}
use Rattle.dictionary.specs.declared.commands.TheConstants.{C_GET_RQ}
use Rattle.dimse.specs.declared.message.Message.{Message}
use Rattle.dimse.specs.declared.status.Status.{Status}
use Rattle.association_services.specs.declared.call.Finding.{Finding}
use Rattle.association_services.specs.declared.call.Getting.{Getting}
use Rattle.association_services.specs.declared.service.RowKind.{RowKind}
use Rattle.association_services.specs.declared.service.Service.TheVariants.{Responded, Queried, Fetched}
use Rattle.association_services.specs.Context.{context_in}
use Rattle.association_services.specs.Find.{row_status}
use Rattle.association_services.specs.Response.{is_pending}
use Rattle.association_services.proofs.StatusLaws.{on_final, on_kind, on_is_get, row_pending}
use Rattle.association_session.specs.Row.{Within}
use Rattle.association_session.specs.Talks.{Serves}

-- what a message is responded at once is final
pub served_final : (w : Within) (m : Message) (status : Status) → Serves w m (Responded status)
    → is_pending status ≡ false
served_final w m status p = on_final w.settled (context_in w.link.contexts m.context) m.command m.body status p

-- The status of a query's rows says whether it is partial.
pub served_kind : (w : Within) (m : Message) (finding : Finding) (kind : RowKind) → Serves w m (Queried finding kind)
    → kind.status ≡ row_status finding.query.partial
served_kind w m finding kind p = on_kind w.settled (context_in w.link.contexts m.context) m.command m.body finding
    kind p

-- The rows of a query are no final responses.
pub served_pending : (w : Within) (m : Message) (finding : Finding) (kind : RowKind) → Serves w m (Queried finding kind)
    → is_pending kind.status ≡ true
served_pending w m finding kind p = ap is_pending (served_kind w m finding kind p) ∙ row_pending finding.query.partial

-- What the port is asked to get is asked by a C-GET.
pub served_get : (w : Within) (m : Message) (getting : Getting) (of : Syntax) → Serves w m (Fetched getting of)
    → m.command.field ≡ C_GET_RQ
served_get w m getting of p = on_is_get w.settled (context_in w.link.contexts m.context) m.command m.body getting of p
