-- Laws of passes and clerks that went on.
use Rattle.std.proofs.Common.{◌≡◌, ◌⊎◌, ℕ, List, [], ◌∷◌, ◌++◌, refl, sym, subst, inl, inr, Result, Ok, Err}
use mathlib.Core.List.{IsPrefix}
use Rattle.operation.specs.declared.op.Op.{Op}
use Rattle.operation.specs.declared.taken.Taken.{Taken}
use Rattle.operation.specs.Spelling.{digest_of}
use Rattle.association_services.specs.declared.reply.PortFault.{PortFault}
use Rattle.association_services.specs.declared.reply.PortFault.TheVariants.{Memory, Busy, Collision, Shelf}
use Rattle.association_run.specs.Port.{Stores, HasGrown}
use Rattle.site_hub.specs.Hub.{Seat, IsLater}
use Rattle.site_hub.proofs.Fronts.{prefix_self, prefix_trans}
use Rattle.op_shelf.specs.declared.fault.ShelfFault.{ShelfFault}
use Rattle.op_shelf.specs.declared.fault.ShelfFault.TheVariants as shelf_faults
use Rattle.hub_exchange.specs.Putting.{AddsOnly}
use Rattle.hub_exchange.proofs.PuttingLaws.{adds_none, adds_one}
use Rattle.hub_exchange.proofs.OnwardLaws.{onward_more, onward_seen}
pub use Rattle.hub_exchange.proofs.OnwardLaws.{onward_self, onward_trans, onward_looked, onward_learned, onward_known}
use Rattle.archive_server.specs.Done.{Standing, HasOnlyLooked}
use Rattle.archive_server.specs.Fault.{port_fault_of}
use Rattle.archive_server.specs.Serving.{IsOnward, AllOnward, HasGoneOn, WasWritten}

-- what a store leaves of the list, whatever was replied
pub left_by : {P : Type 0} (ops : P → List Op) (own : P → List (List ℕ)) (before after : P) (op : Op)
    (reply : Result Taken PortFault) → Stores ops own before op reply after
    → (own after ≡ own before) ⊎ HasGrown (own before) (digest_of op) (own after)
left_by ops own before after op (Ok taken) stores = inr stores.replied.1
left_by ops own before after op (Err Memory) stores = stores.replied
left_by ops own before after op (Err Busy) stores = inl stores.replied
left_by ops own before after op (Err Collision) stores = inl stores.replied
left_by ops own before after op (Err Shelf) stores = inl stores.replied

-- a store makes its digest the pass's own, or nothing
pub added_by : {P : Type 0} (these : List ℕ → Type 0) (ops : P → List Op) (own : P → List (List ℕ)) (before after : P)
    (op : Op) (reply : Result Taken PortFault) → Stores ops own before op reply after → these (digest_of op)
    → AddsOnly these (own before) (own after)
added_by these ops own before after op reply stores is =
    elim (left_by ops own before after op reply stores) as (λ _. AddsOnly these (own before) (own after)) [
      | inl same ↦ adds_none these (own before) (own after) same
      | inr grown ↦ adds_one these (own before) (own after) (digest_of op) is grown
    ]

-- a pass that stored what was put, or nothing
pub onward_stored : (these : List ℕ → Type 0) (ops : Seat → List Op) (s t : Seat) (op : Op)
    (reply : Result Taken PortFault) (digest : List ℕ) → these digest → digest ≡ digest_of op → IsLater s t
    → Stores ops (λ (seat : Seat). seat.mine) s op reply t → IsOnward these s t
onward_stored these ops s t op reply digest is named later stores = record {
  later = later;
  own = added_by these ops (λ (seat : Seat). seat.mine) s t op reply stores (subst these named is);
}

-- where the shelf refused, all stays
pub refused_as : {P : Type 0} (ops : P → List Op) (own : P → List (List ℕ)) (before : P) (op : Op) (fault : ShelfFault)
    → Stores ops own before op (Err (port_fault_of fault)) before
refused_as ops own before op (shelf_faults.Store _) = record { kept = λ o held. held; replied = refl; turn = tt }
refused_as ops own before op shelf_faults.BadRow = record { kept = λ o held. held; replied = refl; turn = tt }
refused_as ops own before op shelf_faults.Memory = record { kept = λ o held. held; replied = inl refl; turn = tt }

-- a clerk goes on from itself
pub gone_self : (s : Standing) → HasGoneOn s s
gone_self s = record { onward = onward_self (WasWritten s.known) s.pass; known = prefix_self s.known }

pub gone_trans : (r s t : Standing) → HasGoneOn r s → HasGoneOn s t → HasGoneOn r t
gone_trans r s t p q = record {
  onward = onward_learned s.known t.known t.known r.pass s.pass t.pass q.known (prefix_self t.known) p.onward q.onward;
  known = prefix_trans r.known s.known t.known p.known q.known;
}

-- a clerk whose pass was handed back, and who learned all that was known then
pub gone_back : (before after : Standing) (first last : Seat) (known learned all : List (List ℕ)) → first ≡ before.pass
    → known ≡ before.known → IsPrefix known all → IsPrefix learned all → IsOnward (WasWritten learned) first last
    → after.pass ≡ last → after.known ≡ all → HasGoneOn before after
gone_back before after first last known learned all begins same knows more onward ends is = record {
  onward = subst (λ (s : Seat). IsOnward (WasWritten after.known) s after.pass) begins
      (subst (λ (s : Seat). IsOnward (WasWritten after.known) first s) (sym ends)
      (subst (λ (k : List (List ℕ)). IsOnward (WasWritten k) first last) (sym is)
      (onward_known learned all first last more onward)));
  known = subst (λ (k : List (List ℕ)). IsPrefix k after.known) same
      (subst (λ (k : List (List ℕ)). IsPrefix known k) (sym is) knows);
}

-- a clerk that only looked has gone on
pub gone_looked : (s t : Standing) → HasOnlyLooked s t → HasGoneOn s t
gone_looked s t only = record {
  onward = onward_seen (WasWritten t.known) s.pass s.pass t.pass (onward_self (WasWritten t.known) s.pass) only.looked;
  known = subst (λ (known : List (List ℕ)). IsPrefix s.known known) (sym only.known) (prefix_self s.known);
}

pub all_self : (these : List ℕ → Type 0) (xs : List Seat) → AllOnward these xs xs
all_self these [] = tt
all_self these (x ∷ xs) = (onward_self these x, all_self these xs)

-- one more place at the back
pub all_behind : (these : List ℕ → Type 0) (xs ys : List Seat) (x y : Seat) → AllOnward these xs ys
    → IsOnward these x y → AllOnward these (xs ++ x ∷ []) (ys ++ y ∷ [])
all_behind these [] [] x y all one = (one, tt)
all_behind these [] (b ∷ ys) x y all one = elim all [ ]
all_behind these (a ∷ xs) [] x y all one = elim all [ ]
all_behind these (a ∷ xs) (b ∷ ys) x y all one = (all.0, all_behind these xs ys x y all.1 one)

-- what is one of these is one of those
pub all_more : (these those : List ℕ → Type 0) (xs ys : List Seat) → ((digest : List ℕ) → these digest → those digest)
    → AllOnward these xs ys → AllOnward those xs ys
all_more these those [] [] more all = tt
all_more these those [] (b ∷ ys) more all = elim all [ ]
all_more these those (a ∷ xs) [] more all = elim all [ ]
all_more these those (a ∷ xs) (b ∷ ys) more all =
    (onward_more these those a b more all.0, all_more these those xs ys more all.1)
