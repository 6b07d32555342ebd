-- A connection from its beginning.
use Rattle.std.proofs.Common.{◌≡◌, ℕ, List, [], subst}
use Rattle.http.specs.declared.request.Request.{Request}
use Rattle.http_server.specs.declared.response.Response.{Response}
use Rattle.http_server.specs.Exchange.{Call, Calls}

-- where no call was made before, the calls are those from the beginning
pub from_none : {S : Type 0} (answers : S → Request (List ℕ) → Response → S → Type 0) (old new : S)
    (before after : List Call) → before ≡ [] → Calls answers old new before after → Calls answers old new [] after
from_none answers old new before after none calls =
    subst (λ (first : List Call). Calls answers old new first after) none calls
