-- What an acceptance agrees, and where an event leads.
use Rattle.std.proofs.Common.{◌≡◌, Bool, true, cond, List, Option, sym, ap, subst, ◌∙◌}
use Rattle.std.specs.Prelude.{IsTrue, IsSome}
use Rattle.ul_state.specs.declared.table.State.{State}
use Rattle.ul_state.specs.declared.acceptor.Settled.{Settled}
use Rattle.ul_state.specs.declared.event.Event.{Event}
use Rattle.ul_state.specs.declared.titles.Title.{Title}
use Rattle.ul_state.specs.Table.{next_of, opens}
use Rattle.ul_state.specs.Acceptor.{kind_for, settled_for, settled_by}
use Rattle.ul_state.proofs.Openings.{settles_where_it_opens}
use Rattle.association_services.specs.Response.{FitsLimit}
use Rattle.pdu.specs.declared.pdv.Pdv.{Pdv}
use Rattle.association_session.specs.declared.pending_response.PendingResponse.{PendingResponse}
use Rattle.association_services.specs.SubOperation.{SubOperation}
use Rattle.association_session.specs.Row.{limit_in, agreed_by, handed_on}
use Rattle.association_session.specs.Session.{AssociationState, stage_by, entered}
use Rattle.association_session.specs.inner.Association.{Linked}
use Rattle.association_session.proofs.LimitLaws.{settled_fits}
use Rattle.archive_model.specs.declared.view.View.{View}

-- What is agreed then takes a fragment.
pub agreed_fits : (titles : List (Title View)) (state next : State) (event : Event)
    (old settled : Option (Settled View)) → next ≡ next_of state (kind_for titles event) → settled ≡ settled_by state
    titles event old
    → IsTrue (opens state next) → IsSome settled → FitsLimit (limit_in event)
agreed_fits titles state next event old settled is settles opened some =
    let kind = kind_for titles event in
    let opens_so : opens state (next_of state kind) ≡ true = ap (opens state) (sym is) ∙ opened in
    settled_fits titles event (subst (λ (o : Option (Settled View)). IsSome o) (settles ∙ settles_where_it_opens state
    kind (settled_for titles event) old ∙ ap (λ (b : Bool). cond b (settled_for titles event) old) opens_so) some)

pub some_same : {A : Type 0} (a b : Option A) → a ≡ b → IsSome a → IsSome b
some_same {A = B} a b same some = subst (λ (o : Option B). IsSome o) same some

-- where an event leads, part by part
pub entered_is : (titles : List (Title View)) (now : AssociationState) (event : Event) (before : State)
    (agreed : Option (Settled View)) (old : Linked) (sub : Option SubOperation) (awaited : Option PendingResponse)
    (queue : List Pdv)
    (state : State) (settled : Option (Settled View)) (l : Linked) (left : List Pdv)
    → record {
      within = record { state = before; settled = agreed; link = old.link };
      sub = sub;
      stage = old.stage;
      awaited =
          awaited;
      queue = queue;
    } ≡ now
    → state ≡ next_of before (kind_for titles event) → settled ≡ settled_by before titles event agreed
    → l.link ≡ agreed_by (opens before state) (limit_in event) settled old.link
    → l.stage ≡ stage_by (opens before state) old.stage → left ≡ handed_on titles before event
    → record {
      within = record { state = state; settled = settled; link = l.link };
      sub = sub;
      stage = l.stage;
      awaited =
          awaited;
      queue = left;
    } ≡ entered titles now event
entered_is titles now event before agreed old sub awaited queue state settled l left stood a b c d e =
    let s : AssociationState = record {
      within = record { state = before; settled = agreed; link = old.link };
      sub = sub;
      stage =
          old.stage;
      awaited = awaited;
      queue = queue;
    } in
    let t : AssociationState = record {
      within = record { state = state; settled = settled; link = l.link };
      sub = sub;
      stage =
          l.stage;
      awaited = awaited;
      queue = left;
    } in
    let here : t ≡ entered titles s event = cc in
    here ∙ ap (λ (k : AssociationState). entered titles k event) stood
