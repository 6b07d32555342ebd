-- Why a keeper makes no correction.
use Rattle.std.proofs.Common.{◌≡◌, ◌++◌, ◌∷◌, ◌⊎◌, [], inl, inr, ℕ, List, Result, Ok, Err, sym, subst, subst₂, ◌∙◌}
use Rattle.operation.specs.declared.op.Op.{Op}
use Rattle.operation.specs.declared.op.Op.TheVariants.{Correction as a_correction}
use Rattle.operation.specs.Parts.{CorrectionParts}
use Rattle.operation.specs.Spelling.{digest_of}
use Rattle.site_state.specs.Site.{Map, IsClash}
use Rattle.site_hub.specs.declared.entry.Entry.{Entry}
use Rattle.site_hub.specs.declared.fault.HubFault.{HubFault}
use Rattle.site_hub.specs.declared.fault.HubFault.TheVariants.{BadCorrection, Busy, Collision, Memory, Pending}
use Rattle.site_hub.specs.declared.fault.HubFault.TheVariants.{StampsSpent}
use Rattle.site_hub.specs.Fault.{IsTurnFault}
use Rattle.site_hub.specs.History.{set_of, entry_of}
use Rattle.site_hub.specs.Hub.{Desk, Seat, HasStayed, HasKept, IsTurn}
use Rattle.site_hub.specs.Taking.{AtDesk, RefusesAt, MakesNone, Pends, Stays}

stayed_trans : (a b c : Desk) → HasStayed a b → HasStayed b c → HasStayed a c
stayed_trans a b c one two = record { all = two.all ∙ one.all; published = by two.published one.published }
  where
    by : (c.published ≡ b.published) ⊎ (c.published ≡ b.all) → (b.published ≡ a.published) ⊎ (b.published ≡ a.all)
        → (c.published ≡ a.published) ⊎ (c.published ≡ a.all)
    by (inl same) (inl is) = inl (same ∙ is)
    by (inl same) (inr is) = inr (same ∙ is)
    by (inr whole) is = inr (whole ∙ one.all)

kept_trans : (a b c : Seat) → HasKept a b → HasKept b c → HasKept a c
kept_trans a b c one two = record {
  number = two.number ∙ one.number;
  seen = two.seen ∙ one.seen;
  mine = two.mine ∙ one.mine;
}

stays_trans : (a b c : AtDesk) → Stays a b → Stays b c → Stays a c
stays_trans a b c one two = record {
  desk = stayed_trans a.desk b.desk c.desk one.desk two.desk;
  seat = kept_trans a.seat b.seat c.seat one.seat two.seat;
}

turn_from : (opening : Map) (a b : AtDesk) → Stays a b → IsTurn opening b.seat.seen b.desk.all
    → IsTurn opening a.seat.seen a.desk.all
turn_from opening a b same turn = subst₂ (IsTurn opening) same.seat.seen same.desk.all turn

pends_from : (a b c : AtDesk) (op : Op) → Stays a b → Pends b op c → Pends a op c
pends_from a b c op same pends = record {
  history = subst₂ (λ (all : List Entry) (n : ℕ). c.desk.all ≡ all ++ entry_of n op ∷ []) same.desk.all
      same.seat.number pends.history;
  unpublished = pends.unpublished ∙ same.desk.all;
  mine = subst (λ (m : List (List ℕ)). c.seat.mine ≡ m ++ digest_of op ∷ []) same.seat.mine pends.mine;
  seen = pends.seen ∙ same.seat.seen;
}

-- What is refused after a step in which all stayed is refused.
refuses_from : (opening : Map) (a b c : AtDesk) (op : Op) (e : HubFault) → Stays a b → RefusesAt opening b op c e
    → RefusesAt opening a op c e
refuses_from opening a b c op e same refuses = record {
  pending = λ is. pends_from a b c op same (refuses.pending is);
  collision = λ is. (
    turn_from opening a b same (refuses.collision is).0,
    subst (λ (all : List Entry). IsClash (set_of opening all) op) same.desk.all (refuses.collision is).1,
  );
  kept = by refuses.kept;
  fault = refuses.fault;
}
  where
    by : (e ≡ Pending) ⊎ Stays b c → (e ≡ Pending) ⊎ Stays a c
    by (inl is) = inl is
    by (inr kept) = inr (stays_trans a b c same kept)

-- ---- no correction

-- a fault that is told before a correction is taken is none of these
no_pending : (e : HubFault) → (e ≡ BadCorrection) ⊎ (e ≡ StampsSpent) ⊎ (e ≡ Busy) ⊎ (e ≡ Memory) → e ≡ Pending → ⊥
no_pending e (inl is) same = absurd cc
no_pending e (inr (inl is)) same = absurd cc
no_pending e (inr (inr (inl is))) same = absurd cc
no_pending e (inr (inr (inr is))) same = absurd cc

no_collision : (e : HubFault) → (e ≡ BadCorrection) ⊎ (e ≡ StampsSpent) ⊎ (e ≡ Busy) ⊎ (e ≡ Memory) → e ≡ Collision → ⊥
no_collision e (inl is) same = absurd cc
no_collision e (inr (inl is)) same = absurd cc
no_collision e (inr (inr (inl is))) same = absurd cc
no_collision e (inr (inr (inr is))) same = absurd cc

-- and one of a take is not that counters are spent
no_spent : (e : HubFault) → (e ≡ Busy) ⊎ (e ≡ Collision) ⊎ (e ≡ Memory) ⊎ (e ≡ Pending) → e ≡ StampsSpent → ⊥
no_spent e (inl is) same = absurd cc
no_spent e (inr (inl is)) same = absurd cc
no_spent e (inr (inr (inl is))) same = absurd cc
no_spent e (inr (inr (inr is))) same = absurd cc

first_faults : (e : HubFault) → (e ≡ BadCorrection) ⊎ (e ≡ StampsSpent) ⊎ (e ≡ Busy) ⊎ (e ≡ Memory)
    → (e ≡ BadCorrection) ⊎ (e ≡ StampsSpent) ⊎ (e ≡ Busy) ⊎ (e ≡ Collision) ⊎ (e ≡ Memory) ⊎ (e ≡ Pending)
first_faults e (inl is) = inl is
first_faults e (inr (inl is)) = inr (inl is)
first_faults e (inr (inr (inl is))) = inr (inr (inl is))
first_faults e (inr (inr (inr is))) = inr (inr (inr (inr (inl is))))

later_faults : (e : HubFault) → (e ≡ Busy) ⊎ (e ≡ Collision) ⊎ (e ≡ Memory) ⊎ (e ≡ Pending)
    → (e ≡ BadCorrection) ⊎ (e ≡ StampsSpent) ⊎ (e ≡ Busy) ⊎ (e ≡ Collision) ⊎ (e ≡ Memory) ⊎ (e ≡ Pending)
later_faults e (inl is) = inr (inr (inl is))
later_faults e (inr (inl is)) = inr (inr (inr (inl is)))
later_faults e (inr (inr (inl is))) = inr (inr (inr (inr (inl is))))
later_faults e (inr (inr (inr is))) = inr (inr (inr (inr (inr is))))

spent_alone : (e : HubFault) → (e ≡ BadCorrection) ⊎ (e ≡ StampsSpent) ⊎ (e ≡ Busy) ⊎ (e ≡ Memory) → IsTurnFault e
    → e ≡ StampsSpent
spent_alone e known (inl is) = is
spent_alone e known (inr (inl is)) = absurd (no_collision e known is)
spent_alone e known (inr (inr is)) = absurd (no_pending e known is)

-- None was prepared.
pub none_prepared : (opening : Map) (a c : AtDesk) (next : Result CorrectionParts HubFault) (e : HubFault) → Stays a c
    → (e ≡ StampsSpent → IsTurn opening a.seat.seen a.desk.all) → (e ≡ StampsSpent → next ≡ Err StampsSpent)
    → (e ≡ BadCorrection) ⊎ (e ≡ StampsSpent) ⊎ (e ≡ Busy) ⊎ (e ≡ Memory) → MakesNone opening a next c e
none_prepared opening a c next e same turn spent known = record {
  turn = λ is. turn (spent_alone e known is);
  stamps_spent = spent;
  pending = λ is. absurd (no_pending e known is);
  collision = λ is. absurd (no_collision e known is);
  kept = inr same;
  fault = first_faults e known;
}

-- That which was prepared was not taken.
pub none_taken : (opening : Map) (a b c : AtDesk) (next : Result CorrectionParts HubFault) (made : CorrectionParts)
    (e : HubFault) → Stays a b → Ok made ≡ next → IsTurn opening a.seat.seen a.desk.all
    → RefusesAt opening b (a_correction made) c e → MakesNone opening a next c e
none_taken opening a b c next made e same is turn refuses =
    let refused = refuses_from opening a b c (a_correction made) e same refuses in record {
      turn = λ _. turn;
      stamps_spent = λ spent. absurd (no_spent e refuses.fault spent);
      pending = λ pends. (made, sym is, refused.pending pends);
      collision = λ clash. (made, sym is, (refused.collision clash).1);
      kept = refused.kept;
      fault = later_faults e refuses.fault;
    }
