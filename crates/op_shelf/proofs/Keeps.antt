-- What a put makes of the operations that a shelf keeps.
use Rattle.std.proofs.Common.{◌≡◌, ◌⊎◌, ◌↔◌, inl, inr, zero, suc, ℕ, List, [], ◌∷◌}
use Rattle.std.proofs.Common.{All, IfOk, IsTrue, Contains, Ok, Err, Result, OnOk}
use Rattle.std.proofs.Common.{OnErr, refl, sym}
use Rattle.std.proofs.Common.{ap, subst, arith}
use Rattle.std.specs.Ordering.{is_eq}
use Rattle.std.proofs.lemmas.List.Sorted.{IsPermutation-sym, Contains-permutation}
use Rattle.sqlite.specs.Order.{Row, column, value_cmp}
use Rattle.sqlite.specs.declared.types.Value.TheVariants.{Text, Blob}
use Rattle.sqlite.specs.Tree.{Trees}
use Rattle.sqlite.specs.Effect.{Database}
use Rattle.sqlite.specs.State.{State, Survives}
use Rattle.std.specs.Cmp.{tied_itself}
use Rattle.sqlite_value.proofs.OrderLemmas.{value_cmp_total}
use Rattle.operation.specs.declared.op.Op.{Op}
use Rattle.operation.specs.Spelling.{spelling}
use Rattle.op_shelf.specs.declared.kept.Kept.{Kept}
use Rattle.op_shelf.specs.declared.kept.Kept.TheVariants.{New, Known}
use Rattle.op_shelf.specs.declared.fault.ShelfFault.{ShelfFault}
use Rattle.op_shelf.specs.Entries.{IsWhole, entries, entry_by, entry_of, digest_text, Holds}
use Rattle.op_shelf.specs.Keep.{AreSame, Gains, GainsAll, Finds, with_one}
use Rattle.op_shelf.specs.Group.{PutsAll, IsPutAll, MayHaveAll}
use Rattle.op_shelf.specs.States.{rows_of, rows_left, tree_in, among, apart, Mends, IsPut, IsKnown, KeepsAll, IsUp}
use Rattle.op_shelf.specs.States.{Lasts}
use Rattle.op_shelf.proofs.Groups.{holds_on, all_held}
use Rattle.op_shelf.proofs.Ops.{all_at, kept_was, same_entry, still_apart, still_there, whole_entry}

-- where none under its digest has its bytes, an operation is not there
absent : (all : List Row) (op : Op) → All (λ e. ¬ IsWhole e) (among (digest_text op) all) → ¬ Contains all (entry_of op)
absent all op spoiled held =
    let test = λ (e : Row). is_eq (value_cmp (column e 0) (Text (digest_text op))) in
    let there = still_there test all (entry_of op) (ap is_eq (tied_itself value_cmp_total (Text (digest_text op)))) held
    in
    all_at (λ e. ¬ IsWhole e) (among (digest_text op) all) (entry_of op) spoiled there (whole_entry op)

-- operations of one entry are spelled alike, whatever the digest of the first
pub alike_by : (text : List ℕ) (a b : Op) → entry_by text (spelling a) ≡ entry_of b → spelling a ≡ spelling b
alike_by text a b same = let both : Blob (spelling a) ≡ Blob (spelling b) = ap (λ e. column e 2) same in cc

pub alike : (a b : Op) → entry_of a ≡ entry_of b → spelling a ≡ spelling b
alike a b same = alike_by (digest_text a) a b same

first_or_later : {X : Type 0} (x : X) (xs : List X) (y : X) → Contains (x ∷ xs) y → (x ≡ y) ⊎ Contains xs y
first_or_later x xs y (zero, low, at) = inl at
first_or_later x xs y (suc k, low, at) = inr (k, omega (arith, low), at)

one_more : (old new : List Row) (op : Op) → Mends (digest_text op) (entry_of op) old new → (other : Op)
    → Contains new (entry_of other) ↔ (Contains old (entry_of other) ⊎ (spelling other ≡ spelling op))
one_more old new op mends other =
    let all = entry_of op ∷ apart (digest_text op) old in (
      λ held. elim (first_or_later (entry_of op) (apart (digest_text op) old) (entry_of other)
          (Contains-permutation new all (entry_of other) (IsPermutation-sym all new mends.rows) held)) [
            | inl it ↦ inr (alike other op (sym it))
            | inr later ↦ inl (kept_was _ old (entry_of other) later)
          ],
      elim [
        | inl was ↦
            let there = still_apart (digest_text op) old (entry_of other) mends.spoiled (whole_entry other) was in
            Contains-permutation all new (entry_of other) mends.rows (suc there.0, omega (arith, there.1), there.2)
        | inr is ↦ Contains-permutation all new (entry_of other) mends.rows
            (0, omega arith, sym (same_entry other op is))
      ],
    )

mends_of : (s t : State) (digest : List ℕ) (entry : Row) → IsPut s t digest entry
    → Mends digest entry (entries (rows_of s)) (entries (rows_of t))
mends_of s t digest entry it = record { spoiled = it.spoiled; rows = it.added.rows }

module _ (s t : State) (op : Op) where
  pub gains : IsPut s t (digest_text op) (entry_of op) → Gains (Holds (rows_of s)) (Holds (rows_of t)) op
  gains it = record {
    absent = absent (entries (rows_of s)) op it.spoiled;
    only = one_more (entries (rows_of s)) (entries (rows_of t)) op (mends_of s t (digest_text op) (entry_of op) it);
  }

  pub same_of : t.now ≡ s.now → AreSame (Holds (rows_of s)) (Holds (rows_of t))
  same_of is other = (
    λ held. subst (λ (d : Database). Holds (d.trees (tree_in d.schema)) other) (sym is) held,
    λ held. subst (λ (d : Database). Holds (d.trees (tree_in d.schema)) other) is held,
  )

  pub finds_known : IsKnown s t (digest_text op) (entry_of op) → Finds (Holds (rows_of s)) (Holds (rows_of t)) op
  finds_known it = record { there = it.held; same = same_of it.same.0.now_is }

  -- what a put leaves of the schema, and of each operation that was there
  record Stays : Type 0 where
    pub schema : t.now.schema ≡ s.now.schema
    pub held : (other : Op) → Holds (rows_of s) other → Holds (rows_of t) other

  stays_same : t.now ≡ s.now → Stays
  stays_same is = record { schema = ap (λ (d : Database). d.schema) is; held = λ other. (same_of is other).0 }

  stays : (r : Result Kept ShelfFault) → IsUp t → (r ≡ Ok New → IsPut s t (digest_text op) (entry_of op))
      → (r ≡ Ok Known → IsKnown s t (digest_text op) (entry_of op)) → OnErr r (KeepsAll s t) → Stays
  stays (Ok New) up put known refused =
      let it = put refl in
      record { schema = it.added.schema; held = λ other was. ((gains it).only other).1 (inl was) }
  stays (Ok Known) up put known refused = stays_same (known refl).same.0.now_is
  stays (Err e) up put known refused = stays_same (refused up.is_open).1

  was_open : (r : Result Kept ShelfFault) → IsUp t → (r ≡ Ok New → IsPut s t (digest_text op) (entry_of op))
      → (r ≡ Ok Known → IsKnown s t (digest_text op) (entry_of op)) → OnErr r (KeepsAll s t) → IsTrue s.is_open
  was_open (Ok New) up put known refused = (put refl).added.was_open
  was_open (Ok Known) up put known refused = (known refl).same.0.was_open
  was_open (Err e) up put known refused = (refused up.is_open).0

  -- what is up afterwards was up
  pub was_up : (r : Result Kept ShelfFault) → IsUp t → (r ≡ Ok New → IsPut s t (digest_text op) (entry_of op))
      → (r ≡ Ok Known → IsKnown s t (digest_text op) (entry_of op)) → OnErr r (KeepsAll s t)
      → Survives s t (λ trees. Mends (digest_text op) (entry_of op) (entries (rows_of s)) (entries (rows_left s trees))) → IsUp s
  was_up r up put known refused crash = record {
    clean = omega (arith, crash.clean, up.clean);
    is_open = was_open r up put known refused;
  }

  -- what every crash left it leaves afterwards
  pub lasts_on : (r : Result Kept ShelfFault) → IsUp t → (r ≡ Ok New → IsPut s t (digest_text op) (entry_of op))
      → (r ≡ Ok Known → IsKnown s t (digest_text op) (entry_of op)) → OnErr r (KeepsAll s t)
      → Survives s t (λ trees. Mends (digest_text op) (entry_of op) (entries (rows_of s)) (entries (rows_left s trees))) → (other : Op) → Lasts s other
      → Lasts t other
  lasts_on r up put known refused crash other was =
      let it = stays r up put known refused in
      record {
        held = it.held other was.held;
        left = λ trees may. subst (λ n. Holds (trees n) other) (sym (ap tree_in it.schema))
            (elim (crash.crash up.clean trees may) [
              | inl before ↦ was.left trees before
              | inr after ↦ (one_more (entries (rows_of s)) (entries (rows_left s trees)) op after other).1
                  (inl was.held)
            ]);
      }

  pub lasts_put : (r : Result Kept ShelfFault) → (r ≡ Ok New → IsPut s t (digest_text op) (entry_of op))
      → (r ≡ Ok Known → IsKnown s t (digest_text op) (entry_of op))
      → OnOk r ((trees : Trees) → t.may_leave trees → Holds (rows_left t trees) op) → OnOk r (Lasts t op)
  lasts_put (Ok New) put known left = record { held = ((gains (put refl)).only op).1 (inr refl); left = left }
  lasts_put (Ok Known) put known left = record {
    held = ((finds_known (known refl)).same op).0 (known refl).held;
    left =
        left;
  }
  lasts_put (Err e) put known left = tt

-- entries of which these operations are held
abbrev IsOf : (Op → Type 0) → List Row → Type 0
IsOf held all = (other : Op) → held other ↔ Contains all (entry_of other)

one_more_of : (held : Op → Type 0) (old new : List Row) (op : Op) → IsOf held old
    → Mends (digest_text op) (entry_of op) old new → IsOf (with_one held op) new
one_more_of held old new op is mends other =
    let it = one_more old new op mends other in (
      elim [
        | inl was ↦ it.1 (inl ((is other).0 was))
        | inr same ↦ it.1 (inr same)
      ],
      λ there. elim (it.0 there) [
        | inl was ↦ inl ((is other).1 was)
        | inr same ↦ inr same
      ],
    )

-- what the puts of a group make of the operations
gains_in : (held : Op → Type 0) (old new : List Row) (ops : List Op) (kepts : List Kept) → IsOf held old
    → PutsAll old ops kepts new → GainsAll held (λ op. Contains new (entry_of op)) ops kepts
gains_in held old new [] [] is put = λ other. (
  λ was. subst (λ r. Contains r (entry_of other)) (sym put) ((is other).0 was),
  λ there. (is other).1 (subst (λ r. Contains r (entry_of other)) put there),
)
gains_in held old new [] (k ∷ ks) is put = absurd put
gains_in held old new (op ∷ ops) [] is put = absurd put
gains_in held old new (op ∷ ops) (New ∷ ks) is put = (
  λ was. absent old op put.1.spoiled ((is op).0 was),
  gains_in (with_one held op) put.0 new ops ks (one_more_of held old put.0 op is put.1) put.2,
)
gains_in held old new (op ∷ ops) (Known ∷ ks) is put = (
  (is op).1 put.1.0,
  gains_in held put.0 new ops ks (subst (IsOf held) (sym put.1.2) is) put.2,
)

module _ (s t : State) (ops : List Op) where
  pub gains_all : (kepts : List Kept) → IsPutAll s t ops kepts
      → GainsAll (Holds (rows_of s)) (Holds (rows_of t)) ops kepts
  gains_all kepts it = gains_in (Holds (rows_of s)) (entries (rows_of s)) (entries (rows_of t)) ops kepts
      (λ other. (λ h. h, λ h. h)) it.rows

  all_stay : {V : Type 0} (op : Op) (r : Result V ShelfFault) (items : V → List Kept) → IsUp t
      → IfOk r (λ v. IsPutAll s t ops (items v)) → OnErr r (KeepsAll s t) → Stays s t op
  all_stay op (Ok v) items up put refused = record {
    schema = put.schema;
    held = λ other was. holds_on (entries (rows_of s)) (entries (rows_of t)) ops (items v) put.rows (entry_of other)
        (whole_entry other) was;
  }
  all_stay op (Err e) items up put refused = stays_same s t op (refused up.is_open).1

  all_open : {V : Type 0} (r : Result V ShelfFault) (items : V → List Kept) → IsUp t
      → IfOk r (λ v. IsPutAll s t ops (items v)) → OnErr r (KeepsAll s t) → IsTrue s.is_open
  all_open (Ok v) items up put refused = put.was_open
  all_open (Err e) items up put refused = (refused up.is_open).0

  -- what is up after a group was up
  pub all_up : {V : Type 0} (r : Result V ShelfFault) (items : V → List Kept) → IsUp t
      → IfOk r (λ v. IsPutAll s t ops (items v)) → OnErr r (KeepsAll s t) → Survives s t (MayHaveAll s ops) → IsUp s
  all_up r items up put refused crash = record {
    clean = omega (arith, crash.clean, up.clean);
    is_open = all_open r items up put refused;
  }

  -- what every crash left it leaves after a group
  pub all_last : {V : Type 0} (r : Result V ShelfFault) (items : V → List Kept) → IsUp t
      → IfOk r (λ v. IsPutAll s t ops (items v)) → OnErr r (KeepsAll s t)
      → Survives s t (MayHaveAll s ops) → (other : Op) → Lasts s other → Lasts t other
  all_last r items up put refused crash other was =
      let it = all_stay other r items up put refused in
      record {
        held = it.held other was.held;
        left = λ trees may. subst (λ n. Holds (trees n) other) (sym (ap tree_in it.schema))
            (elim (crash.crash up.clean trees may) [
              | inl before ↦ was.left trees before
              | inr after ↦ holds_on (entries (rows_of s)) (entries (rows_left s trees)) ops after.0 after.1
                  (entry_of other) (whole_entry other) was.held
            ]);
      }

  pub all_put : {V : Type 0} (r : Result V ShelfFault) (items : V → List Kept) → IfOk r (λ v. IsPutAll s t ops (items v))
      → OnOk r ((trees : Trees) → t.may_leave trees → All (Holds (rows_left t trees)) ops) → OnOk r (All (Lasts t) ops)
  all_put (Ok v) items put left =
      let held = all_held (entries (rows_of s)) (entries (rows_of t)) ops (items v) put.rows in
      λ i op low. record { held = held i op low; left = λ trees may. left trees may i op low }
  all_put (Err e) items put left = tt
