-- What was put on a shelf, and what was written of it.
use Rattle.std.proofs.Common.{◌≡◌, ◌⊎◌, ℕ, List, [], ◌∷◌, ◌++◌, length, drop, refl, ap, sym, subst, ◌∙◌, inl, inr}
use Rattle.std.proofs.Common.{Result, Ok, Err, IfOk, IfErr, OnErr, All, get_or, arith, append_assoc}
use Rattle.std.specs.Prelude.{Option, Some, IfSome}
use Rattle.std.proofs.Math.Logic.{∥∥₁_elim, ∥∥₁_map, ∥∥₁_prop}
use Rattle.std.proofs.Math.Seq.{drop-append_seam, drop-length}
use Rattle.std.proofs.lemmas.List.Elements.{All-cons}
use mathlib.Core.List.{IsPrefix}
use Rattle.octets.specs.Members.{Has}
use Rattle.operation.specs.declared.op.Op.{Op}
use Rattle.operation.specs.Spelling.{digest_of, hash_of}
use Rattle.op_shelf.specs.declared.fault.ShelfFault.{ShelfFault}
use Rattle.op_shelf.specs.declared.kept.Kept.{Kept}
use Rattle.op_shelf.specs.declared.kept.Kept.TheVariants as kinds
use Rattle.op_shelf.specs.Keep.{AreSame, Gains, GainsAll, Finds, with_one}
use Rattle.records.specs.StandIn.{op_in}
use Rattle.exchange.specs.declared.fault.HolderFault.{HolderFault}
use Rattle.hub_exchange.specs.Putting.{IsKept, AreKept, WasWritten, AddsOnly, IsLent, refusal_of_load, IsUnlike}
use Rattle.hub_exchange.specs.Putting.{RefusesRecord}

-- what stands behind the beginning of a beginning
behind_both : {A : Type 0} (xs ys zs : List A) → IsPrefix xs ys → IsPrefix ys zs
    → drop (length xs) zs ≡ drop (length xs) ys ++ drop (length ys) zs
behind_both xs ys zs p q =
    subst (λ w. drop (length xs) w ≡ p.0 ++ q.0)
    (sym (append_assoc xs p.0 q.0) ∙ (ap (λ w. w ++ q.0) p.1 ∙ q.1)) (drop-append_seam xs (p.0 ++ q.0))
    ∙ sym (ap (λ w. w ++ q.0) (subst (λ w. drop (length xs) w ≡ p.0) p.1 (drop-append_seam xs p.0)))
    ∙ sym (ap (λ w. drop (length xs) ys ++ w) (subst (λ w. drop (length ys) w ≡ q.0) q.1 (drop-append_seam ys q.0)))

one_of_both : {A : Type 0} (xs ys : List A) (x : A) → Has (xs ++ ys) x → Has xs x ⊎ Has ys x
one_of_both [] ys x has = inr has
one_of_both (y ∷ xs) ys x (inl e) = inl (inl e)
one_of_both (y ∷ xs) ys x (inr has) = elim (one_of_both xs ys x has) as (λ _. Has (y ∷ xs) x ⊎ Has ys x)
    [ inl there ↦ inl (inr there) | inr there ↦ inr there ]

-- what is added behind the first, and behind the second, is added behind the first
pub adds_trans : (these : List ℕ → Type 0) (xs ys zs : List (List ℕ)) → IsPrefix xs ys → IsPrefix ys zs
    → AddsOnly these xs ys → AddsOnly these ys zs → AddsOnly these xs zs
adds_trans these xs ys zs p q one two digest has =
    elim (one_of_both (drop (length xs) ys) (drop (length ys) zs) digest
    (subst (λ w. Has w digest) (behind_both xs ys zs p q) has)) as (λ _. these digest)
    [ inl there ↦ one digest there | inr there ↦ two digest there ]

-- nothing stands behind the whole
pub adds_none : (these : List ℕ → Type 0) (xs ys : List (List ℕ)) → ys ≡ xs → AddsOnly these xs ys
adds_none these xs ys same digest has =
    elim (subst (λ w. Has w digest) (ap (drop (length xs)) same ∙ drop-length xs) has) [ ]

-- one more, which is one of these
pub adds_one : (these : List ℕ → Type 0) (xs ys : List (List ℕ)) (one : List ℕ) → these one → ys ≡ xs ++ one ∷ []
    → AddsOnly these xs ys
adds_one these xs ys one is grown digest has =
    elim (subst (λ w. Has w digest) (ap (drop (length xs)) grown ∙ drop-append_seam xs (one ∷ [])) has)
    as (λ _. these digest) [ inl e ↦ subst these (sym e) is | inr none ↦ elim none [ ] ]

-- what is one of these is one of those
pub adds_more : (these those : List ℕ → Type 0) (xs ys : List (List ℕ)) → ((digest : List ℕ) → these digest → those digest)
    → AddsOnly these xs ys → AddsOnly those xs ys
adds_more these those xs ys all adds digest has = all digest (adds digest has)

has_left : {A : Type 0} (xs ys : List A) (x : A) → Has xs x → Has (xs ++ ys) x
has_left [] ys x has = elim has [ ]
has_left (y ∷ xs) ys x (inl e) = inl e
has_left (y ∷ xs) ys x (inr has) = inr (has_left xs ys x has)

has_last : {A : Type 0} (xs : List A) (x : A) → Has (xs ++ x ∷ []) x
has_last [] x = inl refl
has_last (y ∷ xs) x = inr (has_last xs x)

-- what was just written
pub written_last : (written : List (List ℕ)) (digest : List ℕ) → WasWritten (written ++ digest ∷ []) digest
written_last written digest = ∣ has_last written digest ∣₁

-- what stands in a beginning of what was written
pub written_more : (front written : List (List ℕ)) → IsPrefix front written → (digest : List ℕ) → WasWritten front digest
    → WasWritten written digest
written_more front written begins digest stands =
    subst (λ (all : List (List ℕ)). WasWritten all digest) begins.1
    (∥∥₁_map stands (λ has. has_left front begins.0 digest has))

-- what a shelf answered that it keeps is on it
there_now : {K : Type 0} (holds : K → Op → Type 0) (old new : K) (op : Op) (kept : Kept)
    → (kept ≡ kinds.New → Gains (holds old) (holds new) op) → (kept ≡ kinds.Known → Finds (holds old) (holds new) op)
    → holds new op
there_now holds old new op kinds.New gains finds = ((gains refl).only op).1 (inr refl)
there_now holds old new op kinds.Known gains finds = let found = finds refl in (found.same op).0 found.there

-- what is there stays while a group is put, and all of the group is there
stays_there : (old new : Op → Type 0) (ops : List Op) (kepts : List Kept) → GainsAll old new ops kepts → (other : Op)
    → old other → new other
stays_there old new [] [] same other was = (same other).0 was
stays_there old new [] (k ∷ ks) gains other was = absurd gains
stays_there old new (op ∷ ops) [] gains other was = absurd gains
stays_there old new (op ∷ ops) (kinds.New ∷ ks) gains other was =
    stays_there (with_one old op) new ops ks gains.1 other (inl was)
stays_there old new (op ∷ ops) (kinds.Known ∷ ks) gains other was = stays_there old new ops ks gains.1 other was

all_there : (old new : Op → Type 0) (ops : List Op) (kepts : List Kept) → GainsAll old new ops kepts → All new ops
all_there old new [] [] same = λ i op low. absurd (omega (arith, low))
all_there old new [] (k ∷ ks) gains = absurd gains
all_there old new (op ∷ ops) [] gains = absurd gains
all_there old new (op ∷ ops) (kinds.New ∷ ks) gains = All-cons new op ops
    (stays_there (with_one old op) new ops ks gains.1 op (inr refl)) (all_there (with_one old op) new ops ks gains.1)
all_there old new (op ∷ ops) (kinds.Known ∷ ks) gains = All-cons new op ops
    (stays_there old new ops ks gains.1 op gains.0) (all_there old new ops ks gains.1)

-- what is on a shelf stays there while another operation is put, or is refused
stays_now : {K : Type 0} (holds : K → Op → Type 0) (old new : K) (op : Op) (reply : Result Kept ShelfFault)
    → (reply ≡ Ok kinds.New → Gains (holds old) (holds new) op)
    → (reply ≡ Ok kinds.Known → Finds (holds old) (holds new) op) → OnErr reply (AreSame (holds old) (holds new))
    → (other : Op) → holds old other → holds new other
stays_now holds old new op (Ok kinds.New) gains finds same other was = ((gains refl).only other).1 (inl was)
stays_now holds old new op (Ok kinds.Known) gains finds same other was = ((finds refl).same other).0 was
stays_now holds old new op (Err fault) gains finds same other was = (same other).0 was

-- and while a group is
stays_all : {K V : Type 0} (holds : K → Op → Type 0) (old new : K) (ops : List Op) (reply : Result V ShelfFault)
    (items : V → List Kept) → IfOk reply (λ (kepts : V). GainsAll (holds old) (holds new) ops (items kepts))
    → OnErr reply (AreSame (holds old) (holds new)) → (other : Op) → holds old other → holds new other
stays_all holds old new ops (Ok kepts) items put same other was =
    stays_there (holds old) (holds new) ops (items kepts) put other was
stays_all holds old new ops (Err fault) items put same other was = (same other).0 was

module _ {K : Type 0} (up : K → Type 0) (holds lasts : K → Op → Type 0) (old new : K) where
  -- what was put on a shelf stays, while what is on it stays
  kept_on : (up new → up old) → (up new → (op : Op) → holds old op → holds new op)
      → (up new → (op : Op) → lasts old op → lasts new op) → (digest : List ℕ) → IsKept up holds lasts old digest
      → IsKept up holds lasts new digest
  kept_on was stays last digest kept = ∥∥₁_map kept (λ k. (
    k.0,
    (k.1.0, λ now. let then = k.1.1 (was now) in (stays now k.0 then.0, last now k.0 then.1)),
  ))

  -- so does all that was written, while an operation is put, or is refused
  pub kept_behind_put : (op : Op) (reply : Result Kept ShelfFault) (written : List (List ℕ))
      → (up new → reply ≡ Ok kinds.New → Gains (holds old) (holds new) op)
      → (up new → reply ≡ Ok kinds.Known → Finds (holds old) (holds new) op)
      → (up new → OnErr reply (AreSame (holds old) (holds new))) → (up new → up old)
      → (up new → (other : Op) → lasts old other → lasts new other) → AreKept up holds lasts written old
      → AreKept up holds lasts written new
  kept_behind_put op reply written gains finds same was last all digest has =
      kept_on was (λ now. stays_now holds old new op reply (gains now) (finds now) (same now)) last digest
      (all digest has)

  -- and while a group is
  pub kept_behind_group : {V : Type 0} (ops : List Op) (reply : Result V ShelfFault) (items : V → List Kept)
      (written : List (List ℕ))
      → (up new → IfOk reply (λ (kepts : V). GainsAll (holds old) (holds new) ops (items kepts)))
      → (up new → OnErr reply (AreSame (holds old) (holds new))) → (up new → up old)
      → (up new → (other : Op) → lasts old other → lasts new other) → AreKept up holds lasts written old
      → AreKept up holds lasts written new
  kept_behind_group ops reply items written put same was last all digest has =
      kept_on was (λ now. stays_all holds old new ops reply items (put now) (same now)) last digest (all digest has)

  -- and while one is loaded
  pub kept_behind_load : (written : List (List ℕ)) → (up new → AreSame (holds old) (holds new)) → (up new → up old)
      → (up new → (other : Op) → lasts old other → lasts new other) → AreKept up holds lasts written old
      → AreKept up holds lasts written new
  kept_behind_load written same was last all digest has =
      kept_on was (λ now op there. (same now op).0 there) last digest (all digest has)

  -- an answer to a put shows that the operation was put
  pub kept_by_put : (op : Op) (kept : Kept) (reply : Result Kept ShelfFault) → reply ≡ Ok kept
      → (up new → reply ≡ Ok kinds.New → Gains (holds old) (holds new) op)
      → (up new → reply ≡ Ok kinds.Known → Finds (holds old) (holds new) op)
      → (up new → lasts new op) → IsKept up holds lasts new (hash_of op)
  kept_by_put op kept reply is gains finds durable = ∣ (
    op,
    (
      refl,
      λ now. (
        there_now holds old new op kept (λ e. gains now (is ∙ ap Ok e)) (λ e. finds now (is ∙ ap Ok e)),
        durable now,
      ),
    ),
  ) ∣₁

  -- an answer to a put of a group shows that each of it was put
  pub kept_by_group : (ops : List Op) (kepts : List Kept)
      → (up new → GainsAll (holds old) (holds new) ops kepts) → (up new → All (lasts new) ops)
      → All (λ op. IsKept up holds lasts new (hash_of op)) ops
  kept_by_group ops kepts gains durable = λ i op low. ∣ (
    get_or ops i op,
    (refl, λ now. (all_there (holds old) (holds new) ops kepts (gains now) i op low, durable now i op low)),
  ) ∣₁

-- one digest more is written, of what was put
pub kept_with : {K : Type 0} (up : K → Type 0) (holds lasts : K → Op → Type 0) (shelf : K) (written more : List (List ℕ))
    (digest : List ℕ) → more ≡ written ++ digest ∷ [] → IsKept up holds lasts shelf digest
    → AreKept up holds lasts written shelf → AreKept up holds lasts more shelf
kept_with up holds lasts shelf written more digest is kept all other has =
    elim (one_of_both written (digest ∷ []) other (subst (λ w. Has w other) is has))
    as (λ _. IsKept up holds lasts shelf other) [
      | inl there ↦ all other there
      | inr (inl e) ↦ subst (IsKept up holds lasts shelf) (sym e) kept
      | inr (inr none) ↦ elim none [ ]
    ]

-- what was written is kept
pub written_kept : {K : Type 0} (up : K → Type 0) (holds lasts : K → Op → Type 0) (shelf : K) (written : List (List ℕ))
    → AreKept up holds lasts written shelf → (digest : List ℕ) → WasWritten written digest
    → IsKept up holds lasts shelf digest
written_kept up holds lasts shelf written all digest stands = ∥∥₁_elim stands ∥∥₁_prop (all digest)

-- ---- loads

-- What was found under a digest has it.
pub found_stands : (held : Op) (digest : List ℕ) (found : Option Op) (answer : Result Op HolderFault)
    → IfSome found (λ op. digest_of op ≡ digest) → IfOk answer (λ op. (found ≡ Some op) × (op_in op ≡ held))
    → IfOk answer (λ op. (op_in op ≡ held) × (digest_of op ≡ digest))
found_stands held digest found (Ok op) told is =
    (is.1, subst (λ (r : Option Op). IfSome r (λ o. digest_of o ≡ digest)) is.0 told)
found_stands held digest found (Err fault) told is = tt

module _ {P : Type 0} (refuses : P → P → List ℕ → ShelfFault → Type 0) (has_loaded : P → P → List ℕ → Option Op → Type 0)
    (before after : P) (held : Op) (digest : List ℕ) where
  -- Where it is unlike what is held, that is why.
  pub found_refused : (found : Option Op) (answer : Result Op HolderFault) → has_loaded before after digest found
      → IfErr answer (IsUnlike held found)
      → IfErr answer (RefusesRecord (IsLent (Some before)) refuses has_loaded held digest)
  found_refused found (Ok op) loaded why = tt
  found_refused found (Err fault) loaded why =
      inr (found, record { before = before; named = refl; after = after; loaded = loaded }, why)

  -- Where the load was refused, that is.
  pub load_refused : (cause : ShelfFault) (fault : HolderFault) → refuses before after digest cause
      → fault ≡ refusal_of_load cause → RefusesRecord (IsLent (Some before)) refuses has_loaded held digest fault
  load_refused cause fault refused told =
      inl (record { before = before; named = refl; after = after; cause = cause; refused = refused; told = told })

-- What one of these refused is refused by one of those.
pub refused_by_those : {P : Type 0} (these those : P → Type 0) (refuses : P → P → List ℕ → ShelfFault → Type 0)
    (has_loaded : P → P → List ℕ → Option Op → Type 0) (held : Op) (digest : List ℕ) (fault : HolderFault)
    → ((way : P) → these way → those way) → RefusesRecord these refuses has_loaded held digest fault
    → RefusesRecord those refuses has_loaded held digest fault
refused_by_those these those refuses has_loaded held digest fault are (inl it) = inl (record {
  before = it.before;
  named = are it.before it.named;
  after = it.after;
  cause = it.cause;
  refused = it.refused;
  told = it.told;
})
refused_by_those these those refuses has_loaded held digest fault are (inr (found, it, why)) = inr (
  found,
  record {
    before = it.before;
    named = are it.before it.named;
    after = it.after;
    loaded = it.loaded;
  },
  why,
)
