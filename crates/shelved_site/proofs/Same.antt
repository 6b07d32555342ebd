-- The same puts make the same of the same operations.
use Rattle.std.proofs.Common.{◌≡◌, inl, inr, List, [], ◌∷◌, slice_index_or, subst}
use Rattle.operation.specs.declared.op.Op.{Op}
use Rattle.op_shelf.specs.declared.kept.Kept.{Kept}
use Rattle.op_shelf.specs.declared.kept.Kept.TheVariants.{New, Known}
use Rattle.op_shelf.specs.Keep.{AreSame, Finds, Gains, GainsAll, with_one}

with_same : (a b : Op → Type 0) (op : Op) → AreSame a b → AreSame (with_one a op) (with_one b op)
with_same a b op same other = (
  elim [ inl was ↦ inl ((same other).0 was) | inr alike ↦ inr alike ],
  elim [ inl was ↦ inl ((same other).1 was) | inr alike ↦ inr alike ],
)

pub gains_same : (a c b d : Op → Type 0) (ops : List Op) (kepts told : List Kept) → AreSame a b → GainsAll a c ops kepts
    → GainsAll b d ops told → AreSame c d
gains_same a c b d [] [] [] same gains gains' = λ other. (
  λ held. (gains' other).0 ((same other).0 ((gains other).1 held)),
  λ held. (gains other).0 ((same other).1 ((gains' other).1 held)),
)
gains_same a c b d [] (k ∷ ks) told same gains gains' = absurd gains
gains_same a c b d [] [] (k ∷ ks) same gains gains' = absurd gains'
gains_same a c b d (op ∷ ops) [] told same gains gains' = absurd gains
gains_same a c b d (op ∷ ops) (k ∷ ks) [] same gains gains' = absurd gains'
gains_same a c b d (op ∷ ops) (New ∷ ks) (New ∷ ts) same (absent, gains) (absent', gains') =
    gains_same (with_one a op) c (with_one b op) d ops ks ts (with_same a b op same) gains gains'
gains_same a c b d (op ∷ ops) (Known ∷ ks) (Known ∷ ts) same (there, gains) (there', gains') =
    gains_same a c b d ops ks ts same gains gains'
gains_same a c b d (op ∷ ops) (New ∷ ks) (Known ∷ ts) same (absent, gains) (there, gains') = absurd (absent ((same op).1 there))
gains_same a c b d (op ∷ ops) (Known ∷ ks) (New ∷ ts) same (there, gains) (absent, gains') = absurd (absent ((same op).0 there))

-- what a group of one makes of it
pub gain_new : (old new : Op → Type 0) (op : Op) (kepts items : List Kept) → kepts ≡ items → GainsAll old new (op ∷ []) items
    → slice_index_or kepts 0 New ≡ New → Gains old new op
gain_new old new op kepts items same all told =
    by items all (subst (λ (ks : List Kept). slice_index_or ks 0 New ≡ New) same told)
  where
    by : (items : List Kept) → GainsAll old new (op ∷ []) items → slice_index_or items 0 New ≡ New → Gains old new op
    by [] all told = absurd all
    by (New ∷ []) (absent, gains) told = record { absent = absent; only = λ other. ((gains other).1, (gains other).0) }
    by (New ∷ k ∷ ks) (absent, gains) told = absurd gains
    by (Known ∷ ks) all told = absurd cc

pub find_known : (old new : Op → Type 0) (op : Op) (kepts items : List Kept) → kepts ≡ items → GainsAll old new (op ∷ []) items
    → slice_index_or kepts 0 New ≡ Known → Finds old new op
find_known old new op kepts items same all told =
    by items all (subst (λ (ks : List Kept). slice_index_or ks 0 New ≡ Known) same told)
  where
    by : (items : List Kept) → GainsAll old new (op ∷ []) items → slice_index_or items 0 New ≡ Known → Finds old new op
    by [] all told = absurd all
    by (New ∷ ks) all told = absurd cc
    by (Known ∷ []) (there, same) told = record { there = there; same = same }
    by (Known ∷ k ∷ ks) (there, gains) told = absurd gains
