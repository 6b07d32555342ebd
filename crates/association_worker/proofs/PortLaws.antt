-- What the site of a port holds after a store, and why one is refused.
use Rattle.std.proofs.Common.{◌≡◌, ◌≢◌, ◌⊎◌, ◌++◌, ◌∷◌, [], ℕ, List, Bool, true, false, cond, Option, Some, None}
use Rattle.std.proofs.Common.{Result, Ok, Err, IfOk, OnOk, OnErr, IfErr, inl, inr, refl, sym, ap, subst, ◌∙◌}
use Rattle.std.specs.Prelude.{IfSome}
use Rattle.std.specs.Option.{option_map}
use Rattle.std.specs.Ordering.{is_eq}
use Rattle.std.specs.Cmp.{tied_itself}
use Rattle.std.specs.Cmp.Lexicographic.{nat_list_cmp_total}
use Rattle.std.specs.BTreeMap.{is_at}
use Rattle.std.specs.FinMap.{get, get-insert, insert}
use Rattle.std.proofs.lemmas.Option.{same_Some as some_is}
use Rattle.operation.specs.declared.op.Op.{Op}
use Rattle.operation.specs.Spelling.{digest_of}
use Rattle.operation.specs.declared.taken.Taken.{Taken}
use Rattle.operation.specs.declared.taken.Taken.TheVariants.{New, Known}
use Rattle.site_state.specs.declared.fault.SiteFault.{SiteFault}
use Rattle.site_state.specs.Site.{digest_cmp, Map, IsSite, held_at, ops_of, with_op, IsClash, Takes}
use Rattle.site_state.specs.Whole.{recorded}
use Rattle.site_state.proofs.Maps.{same_sites, tied}
use Rattle.site_state.proofs.Wholes.{recorded_at, rows_kept, held_too, unheld as unrecorded}
use Rattle.records.specs.StandIn.{op_in}
use Rattle.archive_query.proofs.LoadedLaws.{lists_kept}
use Rattle.site_hub.proofs.Histories.{clash}
use Rattle.site_state.proofs.Indexed.{ops_held}
use Rattle.site_state.proofs.Same.{of_ops}
use Rattle.octets.specs.Members.{Has}
use Rattle.data_set.specs.Set.{Set}
use Rattle.archive_model.specs.Rows.{rows_of}
use Rattle.archive_model.specs.declared.listed.Listed.{Listed}
use Rattle.archive_model.specs.Listed.{list_of, IsOfRecord}
use Rattle.operation.specs.declared.op.Op.TheVariants.{Content as a_content}
use Rattle.operation.specs.Parts.{ContentParts}
use Rattle.operation.specs.RecordParts.{ContentRecordParts, content_record}
use Rattle.association_services.specs.declared.call.Finding.{Finding}
use Rattle.association_services.specs.declared.call.Getting.{Getting}
use Rattle.association_services.specs.declared.reply.PortFault.{PortFault}
use Rattle.association_services.specs.declared.reply.PortFault.TheVariants.{Memory, Busy, Collision, Shelf}
use Rattle.association_run.specs.Port.{AreHeld, HasNoneAt, HasOtherAt, HasAdded, TakesInto, IsTaken}
use Rattle.association_run.specs.Port.{ComesOf, Leaves, Stores, Finds, Gets, Loads, IsLoadFault}
use Rattle.association_worker.specs.Port.{PortParts, recorded_in, IsUnheld, TakesRecord}

other_at : (m : Map) (d q : List ℕ) (op o : Op) (b : Bool) → is_at (digest_cmp q) d ≡ b → get m d ≡ None
    → get m q ≡ Some o → cond b (Some op) (get m q) ≡ Some o
other_at m d q op o true is none held = absurd (let same : Some o ≡ None = sym held ∙ ap (λ (x : List ℕ). get m x)
    (tied q d is) ∙ none in cc)
other_at m d q op o false is none held = held

-- one operation more, and those that were held
held_still : (m : Map) (op o : Op) (d : List ℕ) → held_at m (digest_of op) ≡ None → held_at m d ≡ Some o
    → held_at (with_op m op) d ≡ Some o
held_still m op o d none held =
    get-insert nat_list_cmp_total m (digest_of op) op d ∙ other_at m (digest_of op) d op o _ refl none held

held_itself : (m : Map) (op : Op) → held_at (with_op m op) (digest_of op) ≡ Some op
held_itself m op =
    get-insert nat_list_cmp_total m (digest_of op) op (digest_of op)
    ∙ ap (λ (b : Bool). cond b (Some op) (held_at m (digest_of op)))
    (ap is_eq (tied_itself nat_list_cmp_total (digest_of op)))

still_at : (m n : Map) (op o : Op) (d : List ℕ) (taken : Taken) → Takes m op (Ok taken) n → held_at m d ≡ Some o
    → held_at n d ≡ Some o
still_at m n op o d New takes held = rw takes.1 (held_still m op o d takes.0 held)
still_at m n op o d Known takes held = rw takes.1 held

pub keeps : (m n : Map) (op o : Op) (taken : Taken) → Takes m op (Ok taken) n → Has (ops_of m) o → Has (ops_of n) o
keeps m n op o taken takes has =
    let there = ops_held m o has in of_ops n there.0 o (still_at m n op o there.0 taken takes there.1)

taken_at : (m n : Map) (op : Op) (taken : Taken) → Takes m op (Ok taken) n → held_at n (digest_of op) ≡ Some op
taken_at m n op New takes = rw takes.1 (held_itself m op)
taken_at m n op Known takes = rw takes.1 takes.0

pub holds_now : (m n : Map) (op : Op) (taken : Taken) → Takes m op (Ok taken) n → Has (ops_of n) op
holds_now m n op taken takes = of_ops n (digest_of op) op (taken_at m n op taken takes)

-- ---- what is held, and what is new

own_digest : (r : Option Op) (d : List ℕ) (o : Op) → r ≡ Some o → IfSome r (λ x. d ≡ digest_of x) → d ≡ digest_of o
own_digest r d o e own = subst (λ (s : Option Op). IfSome s (λ x. d ≡ digest_of x)) e own

-- what a site holds lies under its own digest
pub at_own : (m : Map) (o : Op) → IsSite m → Has (ops_of m) o → held_at m (digest_of o) ≡ Some o
at_own m o site has =
    let there = ops_held m o has in
    ap (held_at m) (sym (own_digest (held_at m there.0) there.0 o there.1 (site there.0))) ∙ there.1

none_at : (m : Map) (op : Op) → IsSite m → held_at m (digest_of op) ≡ None → HasNoneAt (ops_of m) op
none_at m op site none other has tied =
    absurd (let same : Some other ≡ None = sym (at_own m other site has) ∙ ap (held_at m) tied ∙ none in cc)

pub other_at_own : (m : Map) (op : Op) → IsSite m → IsClash m op → HasOtherAt (ops_of m) op
other_at_own m op site clash = record {
  other = clash.0;
  there = of_ops m (digest_of op) clash.0 clash.1;
  tied = sym (own_digest (held_at m (digest_of op)) (digest_of op) clash.0 clash.1 (site (digest_of op)));
  differs = clash.2;
}

was_there : (m : Map) (op x : Op) (d : List ℕ) (b : Bool) → cond b (Some op) (get m d) ≡ Some x
    → Has (ops_of m) x ⊎ (x ≡ op)
was_there m op x d true e = inr (sym (some_is op x e))
was_there m op x d false e = inl (of_ops m d x e)

added : (m : Map) (op : Op) → held_at m (digest_of op) ≡ None → HasAdded (ops_of m) op (ops_of (with_op m op))
added m op none = (
  λ o has. keeps m (with_op m op) op o New (none, refl) has,
  of_ops (with_op m op) (digest_of op) op (held_itself m op),
  λ x has.
      let there = ops_held (with_op m op) x has in
      was_there m op x there.0 (is_at (digest_cmp there.0) (digest_of op))
      (sym (get-insert nat_list_cmp_total m (digest_of op) op there.0) ∙ there.1),
)

takes_into : (m n : Map) (op : Op) (taken : Taken) → IsSite m → Takes m op (Ok taken) n
    → TakesInto (ops_of m) op taken (ops_of n)
takes_into m n op New site takes = (
  none_at m op site takes.0,
  subst (λ (x : Map). HasAdded (ops_of m) op (ops_of x)) (sym takes.1) (added m op takes.0),
)
takes_into m n op Known site takes = (of_ops m (digest_of op) op takes.0, ap ops_of takes.1)

-- what a site takes at its turn is taken, with what others stored before
pub taken_at_turn : (before m n : Map) (op : Op) (taken : Taken) → AreHeld (ops_of before) (ops_of m) → IsSite m
    → Takes m op (Ok taken) n → IsTaken (ops_of before) op taken (ops_of n)
taken_at_turn before m n op taken others site takes = record {
  turn = ops_of m;
  others = others;
  takes = takes_into m n op taken site takes;
}

pub leaves : (fault : PortFault) (before after : List (List ℕ)) (digest : List ℕ) → after ≡ before → Leaves fault before
    digest after
leaves Memory before after digest same = inl same
leaves Busy before after digest same = same
leaves Collision before after digest same = same
leaves Shelf before after digest same = same

-- ---- operations that their records tell from others

-- another operation under the digest of this one is a clash
pub clashes : (m : Map) (o other : Op) (d : List ℕ) → d ≡ digest_of o → held_at m d ≡ Some other → other ≢ o
    → IsClash m o
clashes = clash

with_op_in : (b : Bool) (op : Op) (r : Option Op)
    → option_map op_in (cond b (Some op) r) ≡ cond b (Some (op_in op)) (option_map op_in r)
with_op_in true op r = refl
with_op_in false op r = refl

-- what stands for one operation more stands beside what stood for the others
recorded_with : (m : Map) (op : Op) → recorded (with_op m op) ≡ insert (recorded m) (digest_of op) (op_in op)
recorded_with m op = same_sites _ _ (λ d.
    recorded_at (with_op m op) d
    ∙ ap (λ (r : Option Op). option_map op_in r) (get-insert nat_list_cmp_total m (digest_of op) op d)
    ∙ with_op_in (is_at (digest_cmp d) (digest_of op)) op (held_at m d)
    ∙ ap (cond (is_at (digest_cmp d) (digest_of op)) (Some (op_in op))) (sym (recorded_at m d))
    ∙ sym (get-insert nat_list_cmp_total (recorded m) (digest_of op) (op_in op) d))

-- What a site takes as its record tells it, the site of the records takes.
records_take : (m n : Map) (op : Op) (taken : Taken) → digest_of (op_in op) ≡ digest_of op → TakesRecord m op taken n
    → Takes (recorded m) (op_in op) (Ok taken) (recorded n)
records_take m n op New same takes = (
  ap (held_at (recorded m)) same ∙ unrecorded m (digest_of op) takes.0,
  ap recorded takes.1 ∙ recorded_with m op ∙ ap (λ (d : List ℕ). insert (recorded m) d (op_in op)) (sym same),
)
records_take m n op Known same takes = (ap (held_at (recorded m)) same ∙ takes.0, ap recorded takes.1)

-- Where the records have nothing of a digest, an operation of it is new.
pub none_held : (m : Map) (op : Op) → digest_of (op_in op) ≡ digest_of op
    → held_at (recorded m) (digest_of (op_in op)) ≡ None → held_at m (digest_of op) ≡ None
none_held m op same none = held_too m (digest_of op) (ap (held_at (recorded m)) (sym same) ∙ none)

-- What a site takes then is taken as its record tells it,
pub takes_new : (m n : Map) (op : Op) (reply : Result Taken SiteFault) → held_at m (digest_of op) ≡ None
    → Takes m op reply n → IfOk reply (λ taken. TakesRecord m op taken n)
takes_new m n op (Ok New) none takes = takes
takes_new m n op (Ok Known) none takes = absurd (let same : Some op ≡ None = sym takes.0 ∙ none in cc)
takes_new m n op (Err fault) none takes = tt

-- and clashes with nothing.
pub no_clash : (m : Map) (op : Op) → held_at m (digest_of op) ≡ None → IsClash m op → ⊥
no_clash m op none clash = let same : Some clash.0 ≡ None = sym clash.1 ∙ none in cc

-- What stands for an operation is held where the records say so.
pub known_in : (m : Map) (op : Op) → digest_of (op_in op) ≡ digest_of op
    → held_at (recorded m) (digest_of (op_in op)) ≡ Some (op_in op)
    → held_at (recorded m) (digest_of op) ≡ Some (op_in op)
known_in m op same held = ap (held_at (recorded m)) (sym same) ∙ held

-- ---- a site in memory as a port

comes_of : (m : Map) (op : Op) (fault : PortFault) → IsSite m → (fault ≡ Collision → IsClash m op)
    → ComesOf fault (ops_of m) op
comes_of m op Memory site clash = tt
comes_of m op Busy site clash = tt
comes_of m op Collision site clash = record {
  turn = ops_of m;
  others = λ o held. held;
  clash = other_at_own m op site (clash refl);
}
comes_of m op Shelf site clash = tt

-- What a site in memory does is what a port may do.
pub stores_as : (old new : PortParts) (op : Op) (reply : Result Taken PortFault) → IsSite (recorded old.site)
    → OnOk reply (digest_of (op_in op) ≡ digest_of op)
    → IfOk reply (λ taken. TakesRecord old.site op taken new.site)
    → OnOk reply (new.own ≡ old.own ++ digest_of op ∷ [])
    → (reply ≡ Err Collision → IsClash (recorded old.site) (op_in op))
    → OnErr reply (new ≡ old)
    → Stores recorded_in (λ (p : PortParts). p.own) old (op_in op) reply new
stores_as old new op (Ok taken) site same takes listed clash kept =
    let was = recorded old.site in
    let is = recorded new.site in
    let so = records_take old.site new.site op taken same takes in
    record {
      kept = λ o held. keeps was is (op_in op) o taken so held;
      replied = (
        holds_now was is (op_in op) taken so,
        listed ∙ ap (λ (d : List ℕ). old.own ++ d ∷ []) (sym same),
      );
      turn = taken_at_turn was was is (op_in op) taken (λ o held. held) site so;
    }
stores_as old new op (Err fault) site same takes listed clash kept = record {
  kept = λ o held. subst (λ (p : PortParts). Has (recorded_in p) o) (sym kept) held;
  replied = leaves fault old.own new.own (digest_of (op_in op)) (ap (λ (p : PortParts). p.own) kept);
  turn = comes_of (recorded old.site) (op_in op) fault site (λ is. clash (ap (λ (f : PortFault). Err f) is));
}

-- A look changes nothing, and its rows are those over all that is held.
pub finds_as : (old new : PortParts) (finding : Finding) (reply : Result (List Set) PortFault) → new ≡ old
    → IfOk reply (λ rows. rows ≡ rows_of finding.view finding.called finding.query (ops_of old.site))
    → IfErr reply (λ fault. fault ≡ Memory)
    → Finds recorded_in (λ (p : PortParts). p.own) old finding reply new
finds_as old new finding (Ok rows) same found fault = record {
  kept = λ o held. subst (λ (p : PortParts). Has (recorded_in p) o) (sym same) held;
  own_kept = ap (λ (p : PortParts). p.own) same;
  replied = found ∙ sym (rows_kept old.site finding.view finding.called finding.query)
      ∙ ap (λ (p : PortParts). rows_of finding.view finding.called finding.query (recorded_in p)) (sym same);
}
finds_as old new finding (Err fault) same found memory = record {
  kept = λ o held. subst (λ (p : PortParts). Has (recorded_in p) o) (sym same) held;
  own_kept = ap (λ (p : PortParts). p.own) same;
  replied = inl memory;
}

-- A look changes nothing, and what is listed is that over all that is held.
pub gets_as : (old new : PortParts) (getting : Getting) (reply : Result (List Listed) PortFault) → new ≡ old
    → IfOk reply (λ listed. listed ≡ list_of getting.view getting.selection (ops_of old.site))
    → IfErr reply (λ fault. fault ≡ Memory)
    → Gets recorded_in (λ (p : PortParts). p.own) old getting reply new
gets_as old new getting (Ok listed) same found fault = record {
  kept = λ o held. subst (λ (p : PortParts). Has (recorded_in p) o) (sym same) held;
  own_kept = ap (λ (p : PortParts). p.own) same;
  replied = found ∙ sym (lists_kept old.site getting.view getting.selection)
      ∙ ap (λ (p : PortParts). list_of getting.view getting.selection (recorded_in p)) (sym same);
}
gets_as old new getting (Err fault) same found memory = record {
  kept = λ o held. subst (λ (p : PortParts). Has (recorded_in p) o) (sym same) held;
  own_kept = ap (λ (p : PortParts). p.own) same;
  replied = inl memory;
}

-- ---- loads

-- the faults of a load of what is held
load_fault : (fault : PortFault) → (fault ≡ Memory) ⊎ (fault ≡ Shelf) → IsLoadFault fault
load_fault fault (inl is) = inl (inl is)
load_fault fault (inr is) = inr is

-- A look changes nothing, and what is loaded is of the record.
pub loads_as : (old new : PortParts) (asked : ContentRecordParts) (reply : Result ContentParts PortFault) → new ≡ old
    → IfOk reply (λ content. (held_at old.site asked.digest ≡ Some (a_content content)) × IsOfRecord asked content)
    → IfErr reply (λ fault. (fault ≡ Memory) ⊎ (fault ≡ Shelf))
    → Loads recorded_in (λ (p : PortParts). p.own) old asked reply new
loads_as old new asked (Ok content) same loaded fault = record {
  kept = λ o held. subst (λ (p : PortParts). Has (recorded_in p) o) (sym same) held;
  own_kept = ap (λ (p : PortParts). p.own) same;
  replied = loaded.1;
}
loads_as old new asked (Err fault) same loaded told = record {
  kept = λ o held. subst (λ (p : PortParts). Has (recorded_in p) o) (sym same) held;
  own_kept = ap (λ (p : PortParts). p.own) same;
  replied = load_fault fault told;
}

-- what is held of a record lies under its digest
pub held_of : (m : Map) (asked : ContentRecordParts) (content : ContentParts) → IsSite m
    → Has (ops_of m) (a_content content) → content_record content ≡ asked
    → held_at m asked.digest ≡ Some (a_content content)
held_of m asked content site has same =
    ap (λ (r : ContentRecordParts). held_at m r.digest) (sym same) ∙ at_own m (a_content content) site has

-- so none is held where what lies there is none
pub unheld : (m : Map) (asked : ContentRecordParts) → IsSite m
    → ((content : ContentParts) → held_at m asked.digest ≡ Some (a_content content) → content_record content ≢ asked)
    → IsUnheld (ops_of m) asked
unheld m asked site none content has same = none content (held_of m asked content site has same) same
