-- What a pass of a running site is as a holder.
use Rattle.std.proofs.Common.{◌≡◌, inl, inr, ℕ, List, Option, Some, None, Result, Ok, Err}
use Rattle.std.proofs.Common.{IfOk, IfErr, OnErr, refl, sym, ap, subst, ◌∙◌}
use mathlib.Core.List.{IsPrefix}
use Rattle.operation.specs.declared.op.Op.{Op}
use Rattle.operation.specs.Spelling.{digest_of}
use Rattle.operation.specs.declared.taken.Taken.{Taken}
use Rattle.operation.specs.declared.taken.Taken.TheVariants.{New, Known}
use Rattle.op_shelf.specs.declared.fault.ShelfFault.{ShelfFault}
use Rattle.records.specs.StandIn.{op_in}
use Rattle.study_index.specs.Definition.{IsLawful}
use Rattle.site_state.specs.Site.{Map, held_at}
use Rattle.std.specs.Prelude.{IfSome}
use Rattle.site_hub.specs.declared.entry.Entry.{Entry}
use Rattle.site_hub.specs.declared.fault.HubFault.{HubFault}
use Rattle.site_hub.specs.History.{set_of, entry_of, IsHistory}
use Rattle.site_hub.specs.Hub.{Seat, News, IsTaken, IsLater, HasLooked}
use Rattle.site_hub.specs.Refused.{Tells}
use Rattle.site_hub.specs.Taking.{Takes, Refuses}
use Rattle.site_hub.proofs.Histories.{set_of_more, stays, history_is_site, history_is_lawful}
use Rattle.exchange.specs.declared.fault.HolderFault.{HolderFault}
use Rattle.exchange.specs.Held.{IsRecorded, Looks, TakesIn}
use Rattle.hub_exchange.specs.Putting.{AddsOnly, RefusesRecord}
use Rattle.exchange.proofs.Holdings.{put_is_there}
use Rattle.hub_exchange.proofs.Gains.{lawful_recorded, with_record}
use Rattle.hub_exchange.proofs.PuttingLaws.{adds_none, adds_one}
use Rattle.hub_exchange.specs.Fault.{reply_to, RefusesToPublish, RefusesAtHub, RefusesLoadAtHub}
use Rattle.hub_exchange.specs.Onward.{IsOnward}

-- what lies under each digest after a history stands for an operation of this digest
history_is_recorded : (opening : Map) (log : List Entry) → IsHistory opening log → IsRecorded (set_of opening log)
history_is_recorded opening log history =
    lawful_recorded (set_of opening log) (history_is_site opening log history) (λ digest held there.
    subst (λ (r : Option Op). IfSome r IsLawful) there (history_is_lawful opening log history digest))

-- A look answers of the set of the history that the pass has seen then, which has what the pass had seen before.
pub pass_looks : (opening : Map) (before later : Seat) {P : Map → Type 0} → IsHistory opening later.seen
    → HasLooked before later → P (set_of opening later.seen)
    → Looks (λ (s : Seat). set_of opening s.seen) (λ _. ⊥) before later P
pass_looks opening before later history looked answers = record {
  had = set_of opening later.seen;
  was_had = record {
    since = stays opening before.seen later.seen history looked.seen;
    until = λ digest op e. e;
    own = history_is_recorded opening later.seen history;
  };
  answers = answers;
  stays = λ none. elim none [ ];
}

-- what is not held after a history was not held after a beginning of it
none_before : (opening : Map) (xs ys : List Entry) → IsHistory opening ys → IsPrefix xs ys → (digest : List ℕ)
    → held_at (set_of opening ys) digest ≡ None → held_at (set_of opening xs) digest ≡ None
none_before opening xs ys history pre digest none = by (held_at (set_of opening xs) digest) refl
  where
    by : (o : Option Op) → held_at (set_of opening xs) digest ≡ o → held_at (set_of opening xs) digest ≡ None
    by None is = is
    by (Some op) is = absurd (let gone : Some op ≡ None
        = sym (stays opening xs ys history pre digest op is) ∙ none in cc)

abbrev ok : Taken → Result Taken HolderFault
ok taken = Ok taken

-- an operation whose record is new at the pass's turn is in nothing that the pass had seen
new_to : (opening : Map) (before later : Seat) (op recorded : Op) (taken : Taken) → digest_of recorded ≡ digest_of op
    → IsTaken opening before recorded taken later → ok taken ≡ ok New
    → held_at (set_of opening before.seen) (digest_of op) ≡ None
new_to opening before later op recorded New named t is =
    none_before opening before.seen t.turn t.comes.history t.comes.seen (digest_of op)
    (ap (held_at (set_of opening t.turn)) (sym named) ∙ t.held)
new_to opening before later op recorded Known named t is = absurd cc

-- the record that was taken is held after the history that the pass has seen then
held_then : (opening : Map) (before later : Seat) (op recorded : Op) (taken : Taken) → recorded ≡ op_in op
    → digest_of (op_in op) ≡ digest_of op → IsTaken opening before recorded taken later
    → held_at (set_of opening later.seen) (digest_of op) ≡ Some (op_in op)
held_then opening before later op recorded taken is same t =
    ap (λ (m : Map). held_at m (digest_of op))
    (ap (set_of opening) t.seen ∙ set_of_more opening t.turn (entry_of before.number recorded)
    ∙ with_record (set_of opening t.turn) op recorded is same)
    ∙ put_is_there (set_of opening t.turn) op

-- What the keeper takes of a record for a pass the holder takes of the operation.
pub pass_takes : (opening : Map) (before later : Seat) (op recorded : Op) (told : Result News HubFault)
    (reply : Result Taken HolderFault) → recorded ≡ op_in op → digest_of (op_in op) ≡ digest_of op
    → reply ≡ reply_to told → IsHistory opening later.seen → IsLater before later
    → IfOk told (λ (t : News). Takes opening before recorded t later)
    → TakesIn (λ (s : Seat). set_of opening s.seen) (λ _. ⊥) before op reply later
pass_takes opening before later op recorded (Ok told) reply is_in same is history onward takes =
    subst (λ (r : Result Taken HolderFault). TakesIn (λ (s : Seat). set_of opening s.seen) (λ _. ⊥) before op r later)
    (sym is) (record {
      grown = stays opening before.seen later.seen history onward.seen;
      held = held_then opening before later op recorded told.taken is_in same takes.taken;
      new = new_to opening before later op recorded told.taken (ap digest_of is_in ∙ same) takes.taken;
      stays = λ none. elim none [ ];
    })
pass_takes opening before later op recorded (Err fault) reply is_in same is history onward takes =
    subst (λ (r : Result Taken HolderFault). TakesIn (λ (s : Seat). set_of opening s.seen) (λ _. ⊥) before op r later)
    (sym is) (record {
      grown = stays opening before.seen later.seen history onward.seen;
      held = tt;
      new = λ e. absurd cc;
      stays = λ none. elim none [ ];
    })

-- Where a take is told as refused, what the pass has seen stays.
pub refused_sees : (opening : Map) (before later : Seat) (op : Op) (told : Result News HubFault)
    (reply : Result Taken HolderFault) → reply ≡ reply_to told → IfErr told (Refuses opening before op later)
    → OnErr reply (later.seen ≡ before.seen)
refused_sees opening before later op (Ok told) reply is refuses =
    subst (λ (r : Result Taken HolderFault). OnErr r (later.seen ≡ before.seen)) (sym is) tt
refused_sees opening before later op (Err fault) reply is refuses =
    subst (λ (r : Result Taken HolderFault). OnErr r (later.seen ≡ before.seen)) (sym is)
    (elim refuses.kept as (λ _. later.seen ≡ before.seen) [
      | inl pends ↦ (refuses.pending pends).1
      | inr same ↦ same.seen
    ])

-- Why the keeper did not take the record is why the holder does not take the operation.
pub refused_for : (opening : Map) (before later : Seat) (op recorded : Op) (told : Result News HubFault)
    (reply : Result Taken HolderFault) → recorded ≡ op_in op → reply ≡ reply_to told
    → IfErr told (Refuses opening before recorded later) → Tells told before.refused later.refused
    → IfErr reply (RefusesToPublish opening before later op)
refused_for opening before later op recorded (Ok told) reply is_in is refuses counted =
    subst (λ (r : Result Taken HolderFault). IfErr r (RefusesToPublish opening before later op)) (sym is) tt
refused_for opening before later op recorded (Err fault) reply is_in is refuses counted =
    subst (λ (r : Result Taken HolderFault). IfErr r (RefusesToPublish opening before later op)) (sym is)
    (inl (record {
      cause = fault;
      refuses = subst (λ (o : Op). Refuses opening before o later fault) is_in refuses;
      counted = counted;
      told = refl;
    }))

own_so : (opening : Map) (these : List ℕ → Type 0) (before later : Seat) (op : Op) (told : Result News HubFault)
    → these (digest_of op) → IfOk told (λ (t : News). Takes opening before op t later)
    → IfErr told (Refuses opening before op later) → AddsOnly these before.mine later.mine
own_so opening these before later op (Ok told) is takes refuses =
    adds_one these before.mine later.mine (digest_of op) is takes.mine
own_so opening these before later op (Err fault) is takes refuses =
    elim refuses.kept as (λ _. AddsOnly these before.mine later.mine) [
      | inl pends ↦ adds_one these before.mine later.mine (digest_of op) is (refuses.pending pends).0
      | inr same ↦ adds_none these before.mine later.mine same.mine
    ]

-- What became the pass's own is one of these.
pub pass_onward : (opening : Map) (these : List ℕ → Type 0) (before later : Seat) (op : Op)
    (told : Result News HubFault) (digest : List ℕ) → these digest → digest ≡ digest_of op → IsLater before later
    → IfOk told (λ (t : News). Takes opening before op t later) → IfErr told (Refuses opening before op later)
    → IsOnward these before later
pass_onward opening these before later op told digest is named onward takes refuses = record {
  later = onward;
  own = own_so opening these before later op told (subst these named is) takes refuses;
}

-- Where the shelf refused, the pass stays.
pub refused_by : (opening : Map) (before : Seat) (op : Op) (fault : HolderFault)
    → TakesIn (λ (s : Seat). set_of opening s.seen) (λ _. ⊥) before op (Err fault) before
refused_by opening before op fault = record {
  grown = λ digest other there. there;
  held = tt;
  new = λ e. absurd cc;
  stays = λ none. elim none [ ];
}

-- What the hub refused a pass was refused by its hub.
pub refused_at_hub : {P : Type 0} (these : P → Type 0) (refuses : P → P → Op → ShelfFault → Type 0) (opening : Map)
    (before later : Seat) (op : Op) (reply : Result Taken HolderFault) → OnErr reply (later.seen ≡ before.seen)
    → IfErr reply (RefusesToPublish opening before later op)
    → IfErr reply (RefusesAtHub these refuses opening before later op)
refused_at_hub these refuses opening before later op (Ok taken) seen why = tt
refused_at_hub these refuses opening before later op (Err fault) seen why = record { seen = seen; why = inr why }

-- No operation of the record came of what a look found held.
pub load_refused_at_hub : {P : Type 0} (these : P → Type 0) (refuses : P → P → List ℕ → ShelfFault → Type 0)
    (has_loaded : P → P → List ℕ → Option Op → Type 0) (opening : Map) (before later : Seat) (digest : List ℕ) (held : Op)
    (fault : HolderFault)
    → Looks (λ (s : Seat). set_of opening s.seen) (λ _. ⊥) before later (λ m. Some held ≡ held_at m digest)
    → RefusesRecord these refuses has_loaded held digest fault
    → Looks (λ (s : Seat). set_of opening s.seen) (λ _. ⊥) before later
    (λ _. RefusesLoadAtHub these refuses has_loaded opening before later digest fault)
load_refused_at_hub these refuses has_loaded opening before later digest held fault look why = record {
  had = look.had;
  was_had = look.was_had;
  answers = inr (held, look.was_had.until digest held (sym look.answers), why);
  stays = look.stays;
}
