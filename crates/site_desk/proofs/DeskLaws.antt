-- A desk that goes on, from one request to the next.
use Rattle.std.proofs.Common.{◌≡◌, ◌∙◌, ℕ, List, [], ◌∷◌, refl, sym, subst, arith}
use Rattle.http.specs.declared.request.Request.{Request}
use Rattle.http_server.specs.declared.response.Response.{Response}
use Rattle.http_server.specs.Exchange.{Call, Calls, Chain}
use Rattle.site_hub.specs.Hub.{Seat, HasLooked}
use Rattle.site_hub.proofs.Fronts.{prefix_self, prefix_trans}
use Rattle.hub_exchange.specs.Putting.{WasWritten}
use Rattle.hub_exchange.specs.Onward.{IsOnward}
use Rattle.hub_exchange.proofs.OnwardLaws.{onward_self, onward_seen, onward_learned}
use Rattle.site_state.specs.Site.{Map}
use Rattle.site_desk.specs.Desks.{AtDesk, GoesOn, AnswersAt}

pub goes_self : (d : AtDesk) → GoesOn d d
goes_self d = record {
  onward = onward_self (WasWritten d.known) d.pass;
  known = prefix_self d.known;
  names = refl;
  site = refl;
  last = omega arith;
}

pub goes_trans : (a b c : AtDesk) → GoesOn a b → GoesOn b c → GoesOn a c
goes_trans a b c p q = record {
  onward = onward_learned b.known c.known c.known a.pass b.pass c.pass q.known (prefix_self c.known) p.onward q.onward;
  known = prefix_trans a.known b.known c.known p.known q.known;
  names = q.names ∙ p.names;
  site = q.site ∙ p.site;
  last = omega (arith, p.last, q.last);
}

-- a pass that has looked, and then has stored what was written
pub looked_onward : (known : List (List ℕ)) (s t u : Seat) → HasLooked s t → IsOnward (WasWritten known) t u
    → IsOnward (WasWritten known) s u
looked_onward known s t u looked onward = onward_learned known known known s t u (prefix_self known) (prefix_self known)
    (onward_seen (WasWritten known) s s t (onward_self (WasWritten known) s) looked) onward

-- answers to requests, one after another, are steps of one desk
pub chain_goes : (opening : Map) (calls : List Call) (old new : AtDesk)
    → Chain (λ o request response n. AnswersAt opening o request response n) old calls new → GoesOn old new
chain_goes opening [] old new e = subst (GoesOn old) (sym e) (goes_self old)
chain_goes opening (c ∷ calls) old new h =
    goes_trans old h.0 new h.1.goes_on (chain_goes opening calls h.0 new h.2)

-- where no call was made before, the calls are those from the beginning
pub from_none : {S : Type 0} (answers : S → Request (List ℕ) → Response → S → Type 0) (old new : S)
    (before after : List Call) → before ≡ [] → Calls answers old new before after → Calls answers old new [] after
from_none answers old new before after none calls =
    subst (λ (first : List Call). Calls answers old new first after) none calls
