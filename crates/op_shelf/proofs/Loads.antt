-- What a load finds of the operations that a shelf keeps.
use Rattle.std.proofs.Common.{◌≡◌, inl, inr, ℕ, zero, suc, List, [], ◌∷◌, length, Contains}
use Rattle.std.proofs.Common.{IsPermutation, Option, None, Some, Result, Ok, Err, IfOk, IfSome, IsTrue}
use Rattle.std.proofs.Common.{OnOk, OnErr, refl, sym, ap, subst, arith}
use Rattle.std.proofs.lemmas.List.Sorted.{IsPermutation-sym, Contains-permutation, length_permutation}
use Rattle.std.specs.Cmp.{tied_itself}
use Rattle.std.specs.Ordering.{is_eq}
use Rattle.hex.specs.Hex.{encode_lower}
use Rattle.sha2.specs.Sha256.{sha256}
use Rattle.sqlite.specs.Effect.{Database}
use Rattle.sqlite.specs.Order.{Row, column, value_cmp}
use Rattle.sqlite.specs.State.{State, IsUnchanged, Survives}
use Rattle.sqlite.specs.declared.types.Value.TheVariants.{Text}
use Rattle.sqlite_value.proofs.OrderLemmas.{value_cmp_total}
use Rattle.operation.specs.declared.op.Op.{Op}
use Rattle.operation.specs.Reading.{IsOp}
use Rattle.operation.specs.Spelling.{hash_of, spelling}
use Rattle.operation.proofs.OutcomeLaws.{spelling_once}
use Rattle.op_shelf.specs.declared.fault.ShelfFault.{ShelfFault}
use Rattle.op_shelf.specs.Entries.{Holds, digest_text, entries, entry_by, entry_of}
use Rattle.op_shelf.specs.Keep.{AreSame, IsFoundAs}
use Rattle.op_shelf.specs.Loading.{AreAmiss, at_digest}
use Rattle.op_shelf.specs.States.{IsUp, KeepsAll, Lasts, rows_of, tree_in, under}
use Rattle.op_shelf.proofs.Keeps.{alike, alike_by}
use Rattle.op_shelf.proofs.Ops.{kept_was, none_in, still_there}

-- operations of one entry have one digest
pub one_digest : (a b : Op) → entry_of a ≡ entry_of b → hash_of a ≡ hash_of b
unfolding hash_of
one_digest a b same = ap sha256 (alike a b same)

-- an entry that is there is among those under its digest
own : (rows : List Row) (op : Op) (digest : List ℕ) → Holds rows op → hash_of op ≡ digest
    → Contains (at_digest digest rows) (entry_of op)
own rows op digest held is =
    let test = λ (e : Row). is_eq (value_cmp (column e 0) (Text (digest_text op))) in
    let there = still_there test (entries rows) (entry_of op)
    (ap is_eq (tied_itself value_cmp_total (Text (digest_text op)))) held in
    subst (λ (d : List ℕ). Contains (under (encode_lower d) rows) (entry_of op)) is there

only : {X : Type 0} (x y : X) → Contains (x ∷ []) y → x ≡ y
only x y (zero, low, at) = at
only x y (suc k, low, at) = absurd (omega (arith, low))

-- entries are one where those are that they are a permutation of
one_in : {X : Type 0} (xs ys : List X) (x : X) → IsPermutation xs ys → ys ≡ x ∷ [] → xs ≡ x ∷ []
one_in [] ys x same is = absurd (omega (arith, length_permutation [] ys same, ap length is))
one_in (a ∷ []) ys x same is =
    let there = Contains-permutation (a ∷ []) ys a same (0, omega arith, refl) in
    ap (λ y. y ∷ []) (sym (only x a (subst (λ zs. Contains zs a) is there)))
one_in (a ∷ b ∷ xs) ys x same is = absurd (omega (arith, length_permutation (a ∷ b ∷ xs) ys same, ap length is))

-- so what is found among them, with whatever entry, or amiss, is so of those
pub found_in : (entry : Op → Row) (all shown : List Row) (r : Result (Option Op) ShelfFault) → IsPermutation all shown
    → IfOk r (λ found. IfSome found (λ op. shown ≡ entry op ∷ []))
    → IfOk r (λ found. IfSome found (λ op. all ≡ entry op ∷ []))
found_in entry all shown (Ok None) same one = tt
found_in entry all shown (Ok (Some op)) same one = one_in all shown (entry op) same one
found_in entry all shown (Err e) same one = tt

pub amiss_in : (digest : List ℕ) (all shown : List Row) → IsPermutation all shown → AreAmiss digest shown
    → AreAmiss digest all
amiss_in digest all shown same amiss =
    let back = IsPermutation-sym all shown same in
    record {
      some = λ none. amiss.some (none_in shown all back none);
      none = λ op lawful is one. amiss.none op lawful is (one_in shown all (entry_of op) back one);
    }

-- the one entry under a digest is there
alone_held : (rows : List Row) (digest : List ℕ) (op : Op) → at_digest digest rows ≡ entry_of op ∷ [] → Holds rows op
alone_held rows digest op is =
    let test = λ (e : Row). is_eq (value_cmp (column e 0) (Text (encode_lower digest))) in
    kept_was test (entries rows) (entry_of op) (subst (λ (es : List Row). Contains es (entry_of op))
    (sym is) (0, omega arith, refl))

pub some_held : (rows : List Row) (digest : List ℕ) (found : Option Op)
    → IfSome found (λ op. at_digest digest rows ≡ entry_of op ∷ []) → IfSome found (Holds rows)
some_held rows digest None one = tt
some_held rows digest (Some op) one = alone_held rows digest op one

-- What is there under the digest is what is found, by whatever text of a digest its entry has.
pub exact : (text : Op → List ℕ) (rows : List Row) (digest : List ℕ) (r : Result (Option Op) ShelfFault)
    → (r ≡ Ok None → at_digest digest rows ≡ [])
    → IfOk r (λ found. IfSome found (λ op. at_digest digest rows ≡ entry_by (text op) (spelling op) ∷ []))
    → IfOk r (λ found. IfSome found IsOp) → (op : Op) → Holds rows op → hash_of op ≡ digest
    → IfOk r (λ found. IsFoundAs found op)
exact text rows digest (Ok None) none one lawful op held is =
    let there : Contains [] (entry_of op) = subst (λ (es : List Row). Contains es (entry_of op)) (none refl)
    (own rows op digest held is) in
    absurd (omega (arith, there.1))
exact text rows digest (Ok (Some found)) none one lawful op held is =
    let there = subst (λ (es : List Row). Contains es (entry_of op)) one (own rows op digest held is) in
    let same = alike_by (text found) found op (only (entry_by (text found) (spelling found)) (entry_of op) there) in
    (same, λ lawful'. spelling_once found op lawful lawful' same)
exact text rows digest (Err e) none one lawful op held is = tt

module _ (s t : State) {A : Type 0} (r : Result A ShelfFault) (up : IsUp t) (same : OnOk r (IsUnchanged s t))
    (refused : OnErr r (KeepsAll s t)) where
  as_before : IsTrue s.is_open × (t.now ≡ s.now)
  as_before = by r same refused
    where
      by : (r : Result A ShelfFault) → OnOk r (IsUnchanged s t) → OnErr r (KeepsAll s t)
          → IsTrue s.is_open × (t.now ≡ s.now)
      by (Ok a) same refused = (same.0.was_open, same.0.now_is)
      by (Err e) same refused = refused up.is_open

  -- a shelf that is up after a look was up
  pub was_up : Survives s t (λ _. ⊥) → IsUp s
  was_up crash = record { clean = omega (arith, crash.clean, up.clean); is_open = as_before.0 }

  -- and keeps the same
  pub keeps_same : AreSame (Holds (rows_of s)) (Holds (rows_of t))
  keeps_same other = (
    λ held. subst (λ (d : Database). Holds (d.trees (tree_in d.schema)) other) (sym as_before.1) held,
    λ held. subst (λ (d : Database). Holds (d.trees (tree_in d.schema)) other) as_before.1 held,
  )

  -- What every crash left it leaves afterwards.
  pub lasts_on : Survives s t (λ _. ⊥) → (other : Op) → Lasts s other → Lasts t other
  lasts_on crash other was =
      record {
        held = (keeps_same other).0 was.held;
        left = λ trees may. subst (λ n. Holds (trees n) other)
            (sym (ap (λ (d : Database). tree_in d.schema) as_before.1))
            (elim (crash.crash up.clean trees may) [
              | inl before ↦ was.left trees before
              | inr none ↦ absurd none
            ]);
      }
