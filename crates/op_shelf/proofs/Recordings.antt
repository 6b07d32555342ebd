-- Entries that were read, in one order and in another.
use Rattle.std.proofs.Common.{◌≡◌, ◌≢◌, ◌<◌, ◌++◌, ◌∷◌, [], ℕ, List, map, length, inl, inr, IsPermutation, refl, sym, ap}
use Rattle.std.proofs.Common.{subst, ◌∙◌, arith, slice_index_or, set, All, Contains}
use Rattle.std.specs.List.{swap}
use Rattle.std.proofs.lemmas.List.{append_assoc, append-nil, get_or-map, length-map, map-append, map-set}
use Rattle.std.proofs.lemmas.List.Edits.{swap_is}
use Rattle.std.proofs.lemmas.List.Sorted.{IsPermutation-keeps, IsPermutation-map, IsPermutation-refl, IsPermutation-swap}
use Rattle.std.proofs.lemmas.List.Elements.{All-append, All-cons, All-nil, Contains-append_right}
use Rattle.std.proofs.lemmas.List.Sorted.{All-permutation, Contains-permutation, IsPermutation-append}
use Rattle.std.proofs.lemmas.List.Sorted.{IsPermutation-append_left, IsPermutation-push_more, IsPermutation-sym}
use Rattle.std.proofs.lemmas.List.Sorted.{IsPermutation-to_front, IsPermutation-trans}
use Rattle.sqlite.specs.Order.{Row}
use Rattle.operation.specs.declared.op.Op.{Op}
use Rattle.operation.specs.Reading.{IsOp}
use Rattle.records.specs.StandIn.{op_in}
use Rattle.op_shelf.specs.declared.damaged.Damaged.{Damaged}
use Rattle.op_shelf.specs.Damage.{damage_of}
use Rattle.op_shelf.specs.Entries.{HasBadRow, IsEntry, entries, entry_of}
use Rattle.op_shelf.specs.Recording.{AreAllRead, AreRead, IsRead, KeepsDigest, Records}
use Rattle.op_shelf.proofs.Ops.{entries_more}

-- two that change places do so in what is made of each
swapped : {X Y : Type 0} (f : X → Y) (xs : List X) (i j : ℕ) (d : X) → i < length xs → j < length xs
    → map f (swap xs i j) ≡ swap (map f xs) i j
swapped f xs i j d a b =
    let long : length (map f xs) ≡ length xs = length-map xs f in
    rw (
      sym (swap_is xs i j d a b),
      map-set f (set xs i (slice_index_or xs j d)) j (slice_index_or xs i d),
      map-set f xs i (slice_index_or xs j d),
      sym (swap_is (map f xs) i j (f d) (rw long a) (rw long b)),
      get_or-map f xs j d (f d) b,
      get_or-map f xs i d (f d) a,
    ) refl

-- Another order of what is made of each is that of another order of them.
lifted : {X Y : Type 0} (f : X → Y) (xs : List X) (ys : List Y) → IsPermutation (map f xs) ys
    → (zs : List X) × (map f zs ≡ ys) × IsPermutation xs zs
lifted {X} {Y} f xs ys same = IsPermutation-keeps (map f xs)
    (λ l. (zs : List X) × (map f zs ≡ l) × IsPermutation xs zs) (xs, refl, IsPermutation-refl xs) step ys same
  where
    step : (l : List Y) (i j : ℕ) → i < length l → j < length l
        → ((zs : List X) × (map f zs ≡ l) × IsPermutation xs zs)
        → (zs : List X) × (map f zs ≡ swap l i j) × IsPermutation xs zs
    step l i j low high was = go was.0 was.1 was.2
      where
        go : (zs : List X) → map f zs ≡ l → IsPermutation xs zs
            → (vs : List X) × (map f vs ≡ swap l i j) × IsPermutation xs vs
        go [] is of = absurd (omega (arith, low, ap length (sym is)))
        go (z ∷ zs) is of =
            let long : length (z ∷ zs) ≡ length l = sym (length-map (z ∷ zs) f) ∙ ap length is in
            let first : i < length (z ∷ zs) = omega (arith, low, long) in
            let second : j < length (z ∷ zs) = omega (arith, high, long) in (
              swap (z ∷ zs) i j,
              swapped f (z ∷ zs) i j z first second ∙ ap (λ v. swap v i j) is,
              IsPermutation-trans _ _ _ of (IsPermutation-swap _ _ i j first second refl),
            )

-- No entry is read yet.
pub none_read : (recorded : List Op) (told : List Damaged) → recorded ≡ [] → told ≡ [] → AreRead [] recorded told
none_read recorded told no_record no_damage = record {
  ops = [];
  others = [];
  parted = IsPermutation-refl [];
  lawful = All-nil IsOp;
  digests = All-nil KeepsDigest;
  none = All-nil (λ entry. ¬ IsEntry entry);
  stand = no_record;
  tells = no_damage;
}

-- One entry more was read.
pub read_more : (given : List Row) (entry : Row) (recorded recorded' : List Op) (told told' : List Damaged)
    → AreRead given recorded told → IsRead entry recorded told recorded' told'
    → AreRead (given ++ entry ∷ []) recorded' told'
read_more given entry recorded recorded' told told' was (inl (one, same)) =
    let rows = map entry_of was.ops in
    record {
      ops = was.ops ++ one.op ∷ [];
      others = was.others;
      parted = IsPermutation-push_more given (rows ++ was.others) (map entry_of (was.ops ++ one.op ∷ []) ++ was.others) entry
          was.parted
          (subst (λ (es : List Row). IsPermutation (entry ∷ (rows ++ was.others)) (es ++ was.others))
          (sym (entries_more was.ops one.op rows entry refl one.entry_is))
          (IsPermutation-append_left was.others (entry ∷ rows) (rows ++ entry ∷ [])
          (IsPermutation-sym _ _ (IsPermutation-to_front rows entry))));
      lawful = All-append IsOp was.ops (one.op ∷ []) was.lawful (All-cons IsOp one.op [] one.lawful (All-nil IsOp));
      digests = All-append KeepsDigest was.ops (one.op ∷ []) was.digests
          (All-cons KeepsDigest one.op [] one.digest (All-nil KeepsDigest));
      none = was.none;
      stand = one.added ∙ ap (λ (ops : List Op). ops ++ op_in one.op ∷ []) was.stand
          ∙ sym (map-append op_in was.ops (one.op ∷ []));
      tells = same ∙ was.tells;
    }
read_more given entry recorded recorded' told told' was (inr (none, same, added)) =
    let rows = map entry_of was.ops in
    let is_none : Row → Type 0 = λ e. ¬ IsEntry e in
    record {
      ops = was.ops;
      others = was.others ++ entry ∷ [];
      parted = subst (IsPermutation (given ++ entry ∷ [])) (append_assoc rows was.others (entry ∷ []))
          (IsPermutation-append_left (entry ∷ []) given (rows ++ was.others) was.parted);
      lawful = was.lawful;
      digests = was.digests;
      none = All-append is_none was.others (entry ∷ []) was.none (All-cons is_none entry [] none (All-nil is_none));
      stand = same ∙ was.stand;
      tells = added ∙ ap (λ (ds : List Damaged). ds ++ damage_of entry ∷ []) was.tells
          ∙ sym (map-append damage_of was.others (entry ∷ []));
    }

-- Entries that others are a permutation of.
pub read_of_table : (all given : List Row) (recorded : List Op) (told : List Damaged) → IsPermutation all given
    → AreRead given recorded told → AreRead all recorded told
read_of_table all given recorded told same was = record {
  ops = was.ops;
  others = was.others;
  parted = IsPermutation-trans _ _ _ same was.parted;
  lawful = was.lawful;
  digests = was.digests;
  none = was.none;
  stand = was.stand;
  tells = was.tells;
}

-- In whatever order, they are those of the entries.
pub read_sorted : (all : List Row) (recorded sorted : List Op) (told ascending : List Damaged)
    → AreRead all recorded told → IsPermutation recorded sorted → IsPermutation told ascending
    → AreRead all sorted ascending
read_sorted all recorded sorted told ascending was one two =
    let ops = lifted op_in was.ops sorted (subst (λ (xs : List Op). IsPermutation xs sorted) was.stand one) in
    let others = lifted damage_of was.others ascending
    (subst (λ (xs : List Damaged). IsPermutation xs ascending) was.tells two) in
    record {
      ops = ops.0;
      others = others.0;
      parted = IsPermutation-trans _ _ _ was.parted
          (IsPermutation-append _ _ _ _ (IsPermutation-map entry_of _ _ ops.2) others.2);
      lawful = All-permutation IsOp _ _ ops.2 was.lawful;
      digests = All-permutation KeepsDigest _ _ ops.2 was.digests;
      none = All-permutation (λ entry. ¬ IsEntry entry) _ _ others.2 was.none;
      stand = sym ops.1;
      tells = sym others.1;
    }

no_others : (others : List Row) → [] ≡ map damage_of others → others ≡ []
no_others [] is = refl
no_others (entry ∷ others) is = absurd cc

-- Where no row is told, the records are those of all.
pub all_read : (rows : List Row) (recorded kept : List Op) (told : List Damaged) → AreRead (entries rows) recorded told
    → (told ≡ []) × (kept ≡ recorded) → Records rows kept
all_read rows recorded kept told was (none, same) =
    let ops = map entry_of was.ops in
    let others : was.others ≡ [] = no_others was.others (sym none ∙ was.tells) in
    record {
      ops = was.ops;
      listed = subst (IsPermutation (entries rows)) (ap (λ (es : List Row). ops ++ es) others ∙ append-nil ops) was.parted;
      digests = was.digests;
      stand = same ∙ was.stand;
    }

-- Where one is told, a row is none of an operation.
pub bad_read : (rows : List Row) (recorded : List Op) (told : List Damaged) → AreRead (entries rows) recorded told
    → told ≢ [] → HasBadRow rows
bad_read rows recorded told was some = by was.others was.tells was.parted was.none
  where
    by : (others : List Row) → told ≡ map damage_of others → IsPermutation (entries rows) (map entry_of was.ops ++ others)
        → All (λ entry. ¬ IsEntry entry) others → HasBadRow rows
    by [] is parted none = absurd (some is)
    by (entry ∷ others) is parted none =
        let all = map entry_of was.ops ++ entry ∷ others in
        let there : Contains all entry = Contains-append_right (map entry_of was.ops) (entry ∷ others) entry
        (0, omega arith, refl) in (
          entry,
          Contains-permutation all (entries rows) entry (IsPermutation-sym _ _ parted) there,
          none 0 entry (omega arith),
        )

-- Where no row is none of an operation, all are read.
pub whole_read : (rows : List Row) (recorded : List Op) (told : List Damaged) → AreRead (entries rows) recorded told
    → ¬ HasBadRow rows → AreAllRead rows recorded told
whole_read rows recorded told was whole =
    let none = by told was in
    record { none = none; all = all_read rows recorded recorded told was (none, refl) }
  where
    by : (told : List Damaged) → AreRead (entries rows) recorded told → told ≡ []
    by [] was = refl
    by (d ∷ ds) was = absurd (whole (bad_read rows recorded (d ∷ ds) was (λ is. absurd cc)))
