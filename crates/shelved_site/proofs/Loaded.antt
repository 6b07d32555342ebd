-- The operations of records, which are loaded one after another.
use Rattle.std.proofs.Common.{◌≡◌, ◌⊎◌, inl, inr, ◌+◌, ◌<◌, ℕ, zero, suc, List, [], ◌∷◌, ◌++◌, take, length, map}
use Rattle.std.proofs.Common.{All, Contains, slice_index_or, refl, sym, ap, subst, ◌∙◌, arith}
use Rattle.std.proofs.lemmas.List.Elements.{All-append, All-cons, All-head, All-nil, All-tail, All-weaker}
use Rattle.operation.specs.declared.op.Op.{Op}
use Rattle.operation.specs.Spelling.{digest_of}
use Rattle.records.specs.StandIn.{op_in}
use Rattle.op_shelf.specs.Keep.{AreSame}
use Rattle.op_shelf.specs.Recording.{KeepsDigest}
use Rattle.shelved_site.specs.Moving.{AreBrought, AreBroughtInPart, HasSome, IsAmong}
use Rattle.shelved_site.specs.declared.unreadable.Unreadable.{Unreadable}
use Rattle.shelved_site.specs.Readable.{Shown}
use Rattle.shelved_site.specs.Recorded.{AreFoundAs, AreLoaded, HasOperation, IsAmongListed, IsLoaded}
use Rattle.shelved_site.specs.Sites.{AreRecords}
use Rattle.shelved_site.proofs.Moves.{IsAlike, joins_some, none_put, put_more}

-- what one store lists another does
abbrev pub ListsAll : (List Op → Type 0) → (List Op → Type 0) → Type 0
ListsAll old new = (ops : List Op) → old ops → new ops

-- what one store shows, whatever is told of the rest, another does
pub shown_on : (old new : List Unreadable → List Op → Type 0)
    → ((told : List Unreadable) (ops : List Op) → old told ops → new told ops) → ListsAll (Shown old) (Shown new)
shown_on old new on ops (told, shown) = (told, on told ops shown)

among_on : (old new : List Op → Type 0) (op : Op) → ListsAll old new → IsAmongListed old op → IsAmongListed new op
among_on old new op on (ops, listed, among) = (ops, on ops listed, among)

pub loaded_on : (old new : List Op → Type 0) (recorded found : Op) → ListsAll old new → IsLoaded new recorded found
    → IsLoaded old recorded found
loaded_on old new recorded found on it op among is = it op (among_on old new op on among) is

pub has_on : (old new : List Op → Type 0) (recorded : Op) → ListsAll old new → HasOperation old recorded
    → HasOperation new recorded
has_on old new recorded on (op, among, is) = (op, among_on old new op on among, is)

module _ (lists : List Op → Type 0) where
  -- one more was loaded
  pub loaded_more : (recorded : List Op) (i : ℕ) (d r : Op) (ops : List Op) (found : Op) → i < length recorded
      → r ≡ slice_index_or recorded i d → AreLoaded lists (take i recorded) ops → IsLoaded lists r found
      → AreLoaded lists (take (i + 1) recorded) (ops ++ found ∷ [])
  loaded_more recorded i d r ops found low is were one =
      let next : i + 1 ≡ suc i = omega arith in
      subst (λ (n : ℕ). AreLoaded lists (take n recorded) (ops ++ found ∷ [])) (sym next)
      (by recorded i ops low were (subst (λ (o : Op). IsLoaded lists o found) is one))
    where
      by : (rs : List Op) (i : ℕ) (ops : List Op) → i < length rs → AreLoaded lists (take i rs) ops
          → IsLoaded lists (slice_index_or rs i d) found → AreLoaded lists (take (suc i) rs) (ops ++ found ∷ [])
      by [] i ops low were one = absurd (omega (arith, low))
      by (r ∷ rs) zero [] low were one = (one, tt)
      by (r ∷ rs) zero (op ∷ ops) low were one = absurd were
      by (r ∷ rs) (suc i) [] low were one = absurd were
      by (r ∷ rs) (suc i) (op ∷ ops) low (first, rest) one = (first, by rs i ops (omega (arith, low)) rest one)

  -- those of records behind others stand behind those of these
  loaded_both : (rs more xs ys : List Op) → AreLoaded lists rs xs → AreLoaded lists more ys
      → AreLoaded lists (rs ++ more) (xs ++ ys)
  loaded_both [] more [] ys first next = next
  loaded_both [] more (x ∷ xs) ys first next = absurd first
  loaded_both (r ∷ rs) more [] ys first next = absurd first
  loaded_both (r ∷ rs) more (x ∷ xs) ys (first, rest) next = (first, loaded_both rs more xs ys rest next)

  -- what holds of all records holds of those of a group
  pub of_group : (P : Op → Type 0) (done group rest : List Op) → All P (done ++ (group ++ rest)) → All P group
  of_group P [] [] rest all = All-nil P
  of_group P [] (r ∷ group) rest all =
      All-cons P r group (All-head P r (group ++ rest) all) (of_group P [] group rest (All-tail P r (group ++ rest) all))
  of_group P (r ∷ done) group rest all = of_group P done group rest (All-tail P r (done ++ (group ++ rest)) all)

  -- as many as there are records
  pub same_long : (rs xs : List Op) → AreLoaded lists rs xs → length xs ≡ length rs
  same_long [] [] loaded = refl
  same_long [] (x ∷ xs) loaded = absurd loaded
  same_long (r ∷ rs) [] loaded = absurd loaded
  same_long (r ∷ rs) (x ∷ xs) (first, rest) = ap suc (same_long rs xs rest)

  behind : (x : Op) (ops : List Op) (op : Op) → Contains ops op → Contains (x ∷ ops) op
  behind x ops op (n, low, at) = (suc n, omega (arith, low), at)

  module _ (all : List Op) (listed : lists all) where
    -- some of the operations that are listed
    abbrev AreOfThem : List Op → Type 0
    AreOfThem ops = (op : Op) → Contains ops op → Contains all op

    first_of : (op : Op) (ops : List Op) → AreOfThem (op ∷ ops) → IsAmongListed lists op
    first_of op ops within = (all, listed, within op (0, omega arith, refl))

    others_of : (op : Op) (ops : List Op) → AreOfThem (op ∷ ops) → AreOfThem ops
    others_of op ops within other among = within other (behind op ops other among)

    -- each record has its operation
    have : (ops : List Op) → AreOfThem ops → All KeepsDigest ops → All (HasOperation lists) (map op_in ops)
    have [] within digests = All-nil (HasOperation lists)
    have (op ∷ ops) within digests =
        All-cons (HasOperation lists) (op_in op) (map op_in ops)
        (op, first_of op ops within, sym (All-head KeepsDigest op ops digests))
        (have ops (others_of op ops within) (All-tail KeepsDigest op ops digests))

    -- what was loaded for all is found as these
    found_as : (ops xs : List Op) → AreOfThem ops → All KeepsDigest ops → AreLoaded lists (map op_in ops) xs
        → AreFoundAs xs ops
    found_as [] [] within digests loaded = tt
    found_as [] (x ∷ xs) within digests loaded = absurd loaded
    found_as (op ∷ ops) [] within digests loaded = absurd loaded
    found_as (op ∷ ops) (x ∷ xs) within digests (first, rest) = (
      first op (first_of op ops within) (sym (All-head KeepsDigest op ops digests)),
      found_as ops xs (others_of op ops within) (All-tail KeepsDigest op ops digests) rest,
    )

    -- what was loaded for the first of them is spelled as one of them
    spelled : (ops done rest xs : List Op) → AreOfThem ops → All KeepsDigest ops → done ++ rest ≡ map op_in ops
        → AreLoaded lists done xs → (op : Op) → IsAmong xs op → IsAmong ops op
    spelled ops [] rest [] within digests parts loaded op among = absurd among
    spelled ops [] rest (x ∷ xs) within digests parts loaded op among = absurd loaded
    spelled ops (r ∷ done) rest [] within digests parts loaded op among = absurd loaded
    spelled [] (r ∷ done) rest (x ∷ xs) within digests parts loaded op among = absurd cc
    spelled (o ∷ ops) (r ∷ done) rest (x ∷ xs) within digests parts (first, more) op (inl is) =
        let same : r ≡ op_in o = cc in
        let found = first o (first_of o ops within)
        (sym (All-head KeepsDigest o ops digests) ∙ ap digest_of (sym same)) in
        inl (is ∙ found.0)
    spelled (o ∷ ops) (r ∷ done) rest (x ∷ xs) within digests parts (first, more) op (inr among) =
        let others : done ++ rest ≡ map op_in ops = cc in
        inr (spelled ops done rest xs (others_of o ops within) (All-tail KeepsDigest o ops digests) others more op
        among)

  -- ---- of all records of a store

  pub all_have : (recorded : List Op) → AreRecords lists recorded → All (HasOperation lists) recorded
  all_have recorded them =
      subst (λ (rs : List Op). All (HasOperation lists) rs) (sym them.stand)
      (have them.ops them.listed them.ops (λ op among. among) them.digests)

  pub all_found : (recorded xs : List Op) (them : AreRecords lists recorded) → AreLoaded lists recorded xs
      → AreFoundAs xs them.ops
  all_found recorded xs them loaded =
      found_as them.ops them.listed them.ops xs (λ op among. among) them.digests
      (subst (λ (rs : List Op). AreLoaded lists rs xs) them.stand loaded)

  pub some_of : (old new : Op → Type 0) (recorded : List Op) → AreRecords lists recorded
      → AreBroughtInPart lists old new recorded → HasSome lists old new
  some_of old new recorded them part = inr (
    them.ops,
    them.listed,
    record {
      kept = part.joined.kept;
      only = λ op held. elim (part.joined.only op held) as (λ _. old op ⊎ IsAmong them.ops op) [
        | inl was ↦ inl was
        | inr among ↦ inr (spelled them.ops them.listed them.ops part.done part.rest part.ops (λ o at. at) them.digests
            (part.parts ∙ them.stand) part.loaded op among)
      ];
    },
  )

  -- ---- of groups

  -- none was brought
  pub none_brought : (a lasts : Op → Type 0) → AreBrought lists a a lasts [] 0
  none_brought a lasts = record { ops = []; loaded = tt; put = none_put a; lasting = All-nil lasts }

  -- one group more was
  pub brought_more : (a b c last lasts : Op → Type 0) (done group : List Op) (n more : ℕ)
      → ((op : Op) → last op → lasts op)
      → AreBrought lists a b last done n → AreBrought lists b c lasts group more
      → AreBrought lists a c lasts (done ++ group) (n + more)
  brought_more a b c last lasts done group n more on first next = record {
    ops = first.ops ++ next.ops;
    loaded = loaded_both done group first.ops next.ops first.loaded next.loaded;
    put = put_more a b c first.ops next.ops n more first.put next.put;
    lasting = All-append lasts first.ops next.ops (All-weaker last lasts on first.ops first.lasting) next.lasting;
  }

  -- where a group is refused, those before it were
  pub brought_some : (a b c last : Op → Type 0) (done rest all : List Op) (n : ℕ) → IsAlike a → done ++ rest ≡ all
      → AreBrought lists a b last done n → AreSame b c → AreBroughtInPart lists a c all
  brought_some a b c last done rest all n alike parts was same = record {
    done = done;
    rest = rest;
    parts = parts;
    ops = was.ops;
    loaded = was.loaded;
    joined = joins_some a b c was.ops n alike was.put same;
  }

-- records of what was read are those of what is shown, whatever is told of the rest
pub shown_records : (reads shows : List Unreadable → List Op → Type 0) (told : List Unreadable) (recorded : List Op)
    → ((ops : List Op) → reads told ops → shows told ops) → AreRecords (reads told) recorded
    → AreRecords (shows told) recorded
shown_records reads shows told recorded on them = record {
  ops = them.ops;
  listed = on them.ops them.listed;
  digests = them.digests;
  stand = them.stand;
}

pub any_records : (shows : List Unreadable → List Op → Type 0) (told : List Unreadable) (recorded : List Op)
    → AreRecords (shows told) recorded → AreRecords (Shown shows) recorded
any_records shows told recorded them = record {
  ops = them.ops;
  listed = (told, them.listed);
  digests = them.digests;
  stand = them.stand;
}

-- what was loaded for all of them is found as these
pub found_of : (shows : List Unreadable → List Op → Type 0) (told : List Unreadable) (recorded xs : List Op)
    (them : AreRecords (shows told) recorded) → AreLoaded (Shown shows) recorded xs → AreFoundAs xs them.ops
unfolding any_records
found_of shows told recorded xs them loaded =
    all_found (Shown shows) recorded xs (any_records shows told recorded them) loaded
