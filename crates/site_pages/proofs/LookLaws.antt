-- Answers to requests for pages, one after another, are looks.
use Rattle.std.proofs.Common.{◌≡◌, ◌∙◌, ℕ, List, [], ◌∷◌, Option, refl, sym, ap, subst}
use Rattle.http.specs.declared.request.Request.{Request}
use Rattle.http_server.specs.declared.response.Response.{Response}
use Rattle.http_server.specs.Exchange.{Call, Chain}
use Rattle.site_hub.specs.Hub.{Seat, HasLooked}
use Rattle.site_hub.proofs.Fronts.{prefix_self, prefix_trans}
use Rattle.archive_page.specs.declared.answer.Answer.{Answer}
use Rattle.archive_page.specs.declared.asked.Asked.{Asked}
use Rattle.archive_page.specs.declared.asked.Asked.TheVariants.{Page, Style, Health, Metrics, Nothing, Change}
use Rattle.archive_page.specs.declared.asked.Asked.TheVariants.{Elsewhere}
use Rattle.archive_page.specs.declared.subject.Form.{Form}
use Rattle.archive_page.specs.declared.subject.Subject.{Subject}
use Rattle.site_pages.specs.Telling.{Says, Told, IsAnswered, asked_by, words_by}

pub looked_self : (seat : Seat) → HasLooked seat seat
looked_self seat = record { number = refl; seen = prefix_self seat.seen; mine = refl }

looked_trans : (x y z : Seat) → HasLooked x y → HasLooked y z → HasLooked x z
looked_trans x y z p q = record {
  number = q.number ∙ p.number;
  seen = prefix_trans x.seen y.seen z.seen p.seen q.seen;
  mine = q.mine ∙ p.mine;
}

-- where each page is a look, each answer is one, or leaves the pass as it was
pub answered_looked : {S : Type 0} (seat : S → Seat) (says : Says S)
    → ((old : S) (subject : Subject) (form : Form) (query : List ℕ) (told : Option Answer) (new : S)
    → says.tells old subject form query told new → HasLooked (seat old) (seat new))
    → (old : S) (request : Request (List ℕ)) (response : Response) (new : S)
    → IsAnswered says old request response new → HasLooked (seat old) (seat new)
answered_looked {S} seat says each old request response new answered =
    by_asked (asked_by (says.names_of old) request) answered.0 answered.1
  where
    stays : new ≡ old → HasLooked (seat old) (seat new)
    stays e = subst (λ (s : S). HasLooked (seat old) (seat s)) (sym e) (looked_self (seat old))

    by_asked : (asked : Asked) (told : Option Answer)
        → Told says old asked (words_by (says.names_of old) request) told new → HasLooked (seat old) (seat new)
    by_asked (Page subject form) told t =
        each old subject form (words_by (says.names_of old) request) told new t
    by_asked Style told t = stays t.0
    by_asked Health told t = stays t.0
    by_asked Metrics told t = stays t.0
    by_asked Nothing told t = stays t.0
    by_asked Change told t = stays t.0
    by_asked Elsewhere told t = stays t.0

-- so are several, one after another
pub chain_looked : {S : Type 0} (seat : S → Seat) (answers : S → Request (List ℕ) → Response → S → Type 0)
    → ((old : S) (request : Request (List ℕ)) (response : Response) (new : S)
    → answers old request response new → HasLooked (seat old) (seat new))
    → (calls : List Call) (old new : S) → Chain answers old calls new → HasLooked (seat old) (seat new)
chain_looked {S} seat answers each [] old new e =
    subst (λ (s : S). HasLooked (seat old) (seat s)) (sym e) (looked_self (seat old))
chain_looked seat answers each (c ∷ calls) old new h =
    looked_trans (seat old) (seat h.0) (seat new) (each old c.0 c.1 h.0 h.1)
    (chain_looked seat answers each calls h.0 new h.2)

-- calls of a service that hands each to its source are calls of the source
pub chain_of : {S T : Type 0} (of : S → T) (answers : T → Request (List ℕ) → Response → T → Type 0)
    → (calls : List Call) (old new : S)
    → Chain (λ old request response new. answers (of old) request response (of new)) old calls new
    → Chain answers (of old) calls (of new)
chain_of {S} {T} of answers [] old new e = ap of e
chain_of of answers (c ∷ calls) old new h = (of h.0, h.1, chain_of of answers calls h.0 new h.2)
