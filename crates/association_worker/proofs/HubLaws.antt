-- What a pass of a running site is as a port.
use Rattle.std.proofs.Common.{◌≡◌, ◌⊎◌, ◌++◌, ◌∷◌, [], ℕ, List, Result, Ok, Err, MatchResult, IfOk, IfErr}
use Rattle.std.proofs.Common.{OnErr, inl, inr, refl, sym, ap, subst, ◌∙◌}
use mathlib.Core.List.{IsPrefix}
use Rattle.data_set.specs.Set.{Set}
use Rattle.operation.specs.declared.op.Op.{Op}
use Rattle.operation.specs.Spelling.{digest_of}
use Rattle.operation.specs.declared.taken.Taken.{Taken}
use Rattle.operation.specs.declared.taken.Taken.TheVariants.{New, Known}
use Rattle.archive_model.specs.Rows.{rows_of}
use Rattle.archive_model.specs.declared.listed.Listed.{Listed}
use Rattle.archive_model.specs.Listed.{list_of}
use Rattle.site_state.specs.Site.{Map, ops_of, with_op, Takes}
use Rattle.site_state.proofs.Indexed.{ops_held}
use Rattle.site_state.proofs.Same.{of_ops, taking_adds}
use Rattle.site_hub.specs.declared.entry.Entry.{Entry}
use Rattle.site_hub.specs.declared.fault.HubFault.{HubFault}
use Rattle.site_hub.specs.declared.fault.HubFault.TheVariants as hub
use Rattle.site_hub.specs.Fault.{IsLookFault}
use Rattle.site_hub.specs.History.{set_of, entry_of, IsHistory}
use Rattle.site_hub.specs.Hub.{Seat, News, WasHeld, IsTaken, IsClashed, IsLater, HasKept, HasLooked}
use Rattle.site_hub.specs.Refused.{TellsFault, Tells}
use Rattle.site_hub.specs.Taking.{Takes as PassTakes, Refuses}
use Rattle.site_hub.proofs.Histories.{set_of_more, stays, history_is_site}
use Rattle.association_services.specs.declared.call.Finding.{Finding}
use Rattle.association_services.specs.declared.call.Getting.{Getting}
use Rattle.association_services.specs.declared.reply.PortFault.{PortFault}
use Rattle.association_services.specs.declared.reply.PortFault.TheVariants.{Busy, Shelf}
use Rattle.devices.specs.Failures.{Rose}
use Rattle.association_run.specs.Port as port
use Rattle.association_worker.specs.Port.{fault_of_hub, reply_to}
use Rattle.association_worker.proofs.PortLaws.{leaves, holds_now, other_at_own, taken_at_turn}

-- what a beginning of a history holds is held after it
held_on : (opening : Map) (xs ys : List Entry) → IsHistory opening ys → IsPrefix xs ys
    → port.AreHeld (ops_of (set_of opening xs)) (ops_of (set_of opening ys))
held_on opening xs ys history pre op has =
    let there = ops_held (set_of opening xs) op has in
    of_ops (set_of opening ys) there.0 op (stays opening xs ys history pre there.0 op there.1)

taken_so : (m : Map) (op : Op) (taken : Taken) → WasHeld m op taken → Takes m op (Ok taken) (with_op m op)
taken_so m op New was = (was, refl)
taken_so m op Known was = (was, sym (taking_adds m m op Known (was, refl)))

-- the site at the turn takes the operation
at_turn : (opening : Map) (before later : Seat) (op : Op) (taken : Taken)
    → (t : IsTaken opening before op taken later)
    → Takes (set_of opening t.turn) op (Ok taken) (set_of opening later.seen)
at_turn opening before later op taken t =
    let after = ap (set_of opening) t.seen ∙ set_of_more opening t.turn (entry_of before.number op) in
    subst (λ (n : Map). Takes (set_of opening t.turn) op (Ok taken) n) (sym after)
    (taken_so (set_of opening t.turn) op taken t.held)

leaves_so : (before later : Seat) (op : Op) (fault : HubFault)
    → (fault ≡ hub.Pending → (later.mine ≡ before.mine ++ digest_of op ∷ []) × (later.seen ≡ before.seen))
    → (fault ≡ hub.Pending) ⊎ HasKept before later
    → port.Leaves (fault_of_hub fault) before.mine (digest_of op) later.mine
leaves_so before later op fault pending (inl is) =
    subst (λ (f : HubFault). port.Leaves (fault_of_hub f) before.mine (digest_of op) later.mine) (sym is)
    (inr (pending is).0)
leaves_so before later op fault pending (inr same) =
    leaves (fault_of_hub fault) before.mine later.mine (digest_of op) same.mine

clashed : (opening : Map) (before : Seat) (op : Op) → IsClashed opening before op
    → port.IsClashed (ops_of (set_of opening before.seen)) op
clashed opening before op c = record {
  turn = ops_of (set_of opening c.turn);
  others = held_on opening before.seen c.turn c.comes.history c.comes.seen;
  clash = other_at_own (set_of opening c.turn) op (history_is_site opening c.turn c.comes.history) c.clash;
}

comes_so : (opening : Map) (before : Seat) (op : Op) (fault : HubFault)
    → (fault ≡ hub.Collision → IsClashed opening before op)
    → port.ComesOf (fault_of_hub fault) (ops_of (set_of opening before.seen)) op
comes_so opening before op hub.Busy clash = tt
comes_so opening before op hub.Collision clash = clashed opening before op (clash refl)
comes_so opening before op hub.Memory clash = tt
comes_so opening before op hub.StampsSpent clash = tt
comes_so opening before op hub.Torn clash = tt
comes_so opening before op hub.Pending clash = tt
comes_so opening before op hub.BadCorrection clash = tt

-- What a keeper takes for a pass is stored at the port.
pub pass_stores : (opening : Map) (before later : Seat) (op : Op) (told : Result News HubFault)
    (reply : Result Taken PortFault) → reply ≡ reply_to told
    → IsHistory opening later.seen → IsLater before later
    → IfOk told (λ (t : News). PassTakes opening before op t later) → IfErr told (Refuses opening before op later)
    → port.Stores (λ (s : Seat). ops_of (set_of opening s.seen)) (λ (s : Seat). s.mine) before op reply later
pass_stores opening before later op (Ok told) reply is history onward takes refuses =
    let taken = takes.taken in
    subst (λ (r : Result Taken PortFault). port.Stores (λ (s : Seat). ops_of (set_of opening s.seen))
    (λ (s : Seat). s.mine) before op r later) (sym is) (record {
      kept = held_on opening before.seen later.seen history onward.seen;
      replied = (
        holds_now (set_of opening taken.turn) (set_of opening later.seen) op told.taken
            (at_turn opening before later op told.taken taken),
        takes.mine,
      );
      turn = taken_at_turn (set_of opening before.seen) (set_of opening taken.turn) (set_of opening later.seen)
          op told.taken (held_on opening before.seen taken.turn taken.comes.history taken.comes.seen)
          (history_is_site opening taken.turn taken.comes.history) (at_turn opening before later op told.taken taken);
    })
pass_stores opening before later op (Err fault) reply is history onward takes refuses =
    subst (λ (r : Result Taken PortFault). port.Stores (λ (s : Seat). ops_of (set_of opening s.seen))
    (λ (s : Seat). s.mine) before op r later) (sym is) (record {
      kept = held_on opening before.seen later.seen history onward.seen;
      replied = leaves_so before later op fault refuses.pending refuses.kept;
      turn = comes_so opening before op fault refuses.collision;
    })

not_seen : (before later : Seat) (digest : List ℕ) (fault : HubFault)
    → (fault ≡ hub.Pending → (later.mine ≡ before.mine ++ digest ∷ []) × (later.seen ≡ before.seen))
    → (fault ≡ hub.Pending) ⊎ HasKept before later → later.seen ≡ before.seen
not_seen before later digest fault pending (inl is) = (pending is).1
not_seen before later digest fault pending (inr same) = same.seen

-- What is refused to a pass it has not seen.
pub refused_unseen : (opening : Map) (before later : Seat) (op : Op) (told : Result News HubFault)
    (reply : Result Taken PortFault) → reply ≡ reply_to told → IfErr told (Refuses opening before op later)
    → OnErr reply (later.seen ≡ before.seen)
refused_unseen opening before later op (Ok news) reply is refuses =
    subst (λ (r : Result Taken PortFault). OnErr r (later.seen ≡ before.seen)) (sym is) tt
refused_unseen opening before later op (Err fault) reply is refuses =
    subst (λ (r : Result Taken PortFault). OnErr r (later.seen ≡ before.seen)) (sym is)
    (not_seen before later (digest_of op) fault refuses.pending refuses.kept)

-- A port is busy only where something was refused to its pass:
busy_fault : (old new : ℕ) (fault : HubFault) → TellsFault old new fault → fault_of_hub fault ≡ Busy → Rose old new
busy_fault old new hub.Busy tells is = tells
busy_fault old new hub.Collision tells is = absurd cc
busy_fault old new hub.Memory tells is = absurd cc
busy_fault old new hub.StampsSpent tells is = absurd cc
busy_fault old new hub.Torn tells is = absurd cc
busy_fault old new hub.Pending tells is = absurd cc
busy_fault old new hub.BadCorrection tells is = absurd cc

same_fault : {X : Type 0} (x y : PortFault) (reply : Result X PortFault) → reply ≡ Err x → reply ≡ Err y → x ≡ y
same_fault x y reply p q = cc

-- in a look,
pub busy_look : {X Y : Type 0} (items : X → Y) (old new : ℕ) (found : Result X HubFault) (reply : Result Y PortFault)
    → IfOk found (λ x. reply ≡ Ok (items x)) → IfErr found (λ fault. reply ≡ Err (fault_of_hub fault))
    → Tells found old new → reply ≡ Err Busy → Rose old new
busy_look items old new (Ok x) reply ok err tells is = absurd cc
busy_look items old new (Err fault) reply ok err tells is =
    busy_fault old new fault tells (same_fault (fault_of_hub fault) Busy reply err is)

-- and in a store.
pub busy_take : (old new : ℕ) (told : Result News HubFault) (reply : Result Taken PortFault) → reply ≡ reply_to told
    → Tells told old new → reply ≡ Err Busy → Rose old new
busy_take old new (Ok news) reply to tells is = absurd cc
busy_take old new (Err fault) reply to tells is =
    busy_fault old new fault tells (same_fault (fault_of_hub fault) Busy reply to is)

-- A hub knows no shelf,
no_shelf : (fault : HubFault) → fault_of_hub fault ≡ Shelf → ⊥
no_shelf hub.Busy is = absurd cc
no_shelf hub.Collision is = absurd cc
no_shelf hub.Memory is = absurd cc
no_shelf hub.StampsSpent is = absurd cc
no_shelf hub.Torn is = absurd cc
no_shelf hub.Pending is = absurd cc
no_shelf hub.BadCorrection is = absurd cc

-- so a store of it tells of none.
pub own_take : (told : Result News HubFault) (reply : Result Taken PortFault) → reply ≡ reply_to told
    → reply ≡ Err Shelf → ⊥
own_take (Ok news) reply to is = absurd cc
own_take (Err fault) reply to is = no_shelf fault (same_fault (fault_of_hub fault) Shelf reply to is)

find_fault : (fault : HubFault) → IsLookFault fault → port.IsFindFault (fault_of_hub fault)
find_fault fault (inl is) = inr (ap fault_of_hub is)
find_fault fault (inr is) = inl (ap fault_of_hub is)

-- What a pass looks at is found at the port.
pub pass_finds : {X : Type 0} (items : X → List Set) (opening : Map) (before later : Seat) (finding : Finding)
    (found : Result X HubFault) (reply : Result (List Set) PortFault)
    → IfOk found (λ rows. reply ≡ Ok (items rows)) → IfErr found (λ fault. reply ≡ Err (fault_of_hub fault))
    → IsHistory opening later.seen → HasLooked before later
    → IfOk found (λ rows. items rows
    ≡ rows_of finding.view finding.called finding.query (ops_of (set_of opening later.seen)))
    → IfErr found IsLookFault
    → port.Finds (λ (s : Seat). ops_of (set_of opening s.seen)) (λ (s : Seat). s.mine) before finding reply later
pass_finds items opening before later finding (Ok rows) reply ok err history looked answers fault = record {
  kept = held_on opening before.seen later.seen history looked.seen;
  own_kept = looked.mine;
  replied = subst (λ (r : Result (List Set) PortFault). MatchResult r (λ rows. rows ≡ rows_of finding.view
      finding.called finding.query (ops_of (set_of opening later.seen))) port.IsFindFault) (sym ok) answers;
}
pass_finds items opening before later finding (Err fault) reply ok err history looked answers is = record {
  kept = held_on opening before.seen later.seen history looked.seen;
  own_kept = looked.mine;
  replied = subst (λ (r : Result (List Set) PortFault). MatchResult r (λ rows. rows ≡ rows_of finding.view
      finding.called finding.query (ops_of (set_of opening later.seen))) port.IsFindFault) (sym err)
      (find_fault fault is);
}

-- What a pass lists is what the port lists.
pub pass_gets : {X : Type 0} (items : X → List Listed) (opening : Map) (before later : Seat) (getting : Getting)
    (found : Result X HubFault) (reply : Result (List Listed) PortFault)
    → IfOk found (λ listed. reply ≡ Ok (items listed)) → IfErr found (λ fault. reply ≡ Err (fault_of_hub fault))
    → IsHistory opening later.seen → HasLooked before later
    → IfOk found (λ listed. items listed
    ≡ list_of getting.view getting.selection (ops_of (set_of opening later.seen)))
    → IfErr found IsLookFault
    → port.Gets (λ (s : Seat). ops_of (set_of opening s.seen)) (λ (s : Seat). s.mine) before getting reply later
pass_gets items opening before later getting (Ok listed) reply ok err history looked answers fault = record {
  kept = held_on opening before.seen later.seen history looked.seen;
  own_kept = looked.mine;
  replied = subst (λ (r : Result (List Listed) PortFault). MatchResult r (λ listed. listed ≡ list_of
      getting.view getting.selection (ops_of (set_of opening later.seen))) port.IsFindFault) (sym ok) answers;
}
pass_gets items opening before later getting (Err fault) reply ok err history looked answers is = record {
  kept = held_on opening before.seen later.seen history looked.seen;
  own_kept = looked.mine;
  replied = subst (λ (r : Result (List Listed) PortFault). MatchResult r (λ listed. listed ≡ list_of
      getting.view getting.selection (ops_of (set_of opening later.seen))) port.IsFindFault) (sym err)
      (find_fault fault is);
}
