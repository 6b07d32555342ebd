-- The corrections, and which of them count.
use Rattle.std.specs.Prelude.{◌≡◌, ℕ, List, [], ◌∷◌, Option, Some, None, Bool, false, ◌&&◌, ◌==◌, map, codes}
use Rattle.std.specs.List.Sorted.{IsPermutation}
use Rattle.std.specs.Ordering.{nat_cmp, ordering_then, is_gt}
use Rattle.std.specs.Fmt.{decimal}
use Rattle.std.specs.Int.{w32, to_be_bytes}
use Rattle.std.specs.declared.cmp.Ordering.{Ordering}
use Rattle.hex.specs.Hex.{encode_lower}
use Rattle.octets.specs.Texts.{same, text_cmp}
use Rattle.operation.specs.declared.op.Op.{Op}
use Rattle.operation.specs.declared.target.Target.{Target}
use Rattle.operation.specs.declared.target.Target.TheVariants.{Study, Patient, Series}
use Rattle.operation.specs.Parts.{CorrectionParts, key_of}
use Rattle.archive_model.specs.Attributes.{corrections}
use Rattle.archive_model.specs.Index.{fix}
use Rattle.site_tables.specs.Cells.{yes_no}
use Rattle.site_tables.specs.declared.corrections.Stamped.{Stamped}

-- the word for the kind of a target
abbrev pub kind_word : Target → List ℕ
kind_word (Study key) = codes "study"
kind_word (Patient key) = codes "patient"
kind_word (Series key) = codes "series"

-- by the word for the kind, then by key
abbrev pub target_cmp : Target → Target → Ordering
target_cmp a b = ordering_then (text_cmp (kind_word a) (kind_word b)) (text_cmp (key_of a) (key_of b))

-- by target, by tag, by counter, by site, by value
abbrev pub order_cmp : CorrectionParts → CorrectionParts → Ordering
order_cmp a b =
    ordering_then (target_cmp a.target b.target)
    (ordering_then (nat_cmp a.tag b.tag)
    (ordering_then (nat_cmp a.stamp.counter b.stamp.counter)
    (ordering_then (nat_cmp a.stamp.site b.stamp.site) (text_cmp a.value b.value))))

-- no correction comes after the next
abbrev pub AreInOrder : List CorrectionParts → Type 0
AreInOrder [] = Unit {0}
AreInOrder (k ∷ []) = Unit {0}
AreInOrder (k ∷ next ∷ ks) = (is_gt (order_cmp k next) ≡ false) × AreInOrder (next ∷ ks)

-- whether two corrections of one target and tag have one stamp and value
abbrev pub is_alike : CorrectionParts → Option CorrectionParts → Bool
is_alike k None = false
is_alike k (Some other) =
    other.stamp.counter == k.stamp.counter && other.stamp.site == k.stamp.site && same other.value k.value

-- whether a correction is the greatest of its target and tag
abbrev pub counts : List Op → CorrectionParts → Bool
counts ops k = is_alike k (fix k.target k.tag ops)

-- a correction, and whether it counts
abbrev pub with_count : List Op → CorrectionParts → Stamped
with_count ops k = record { correction = k; counts = counts ops k }

-- kind and key of the target, the tag in hexadecimal digits, the value, counter and site of the stamp, and
-- whether it counts
abbrev pub correction_row : Stamped → List (List ℕ)
correction_row s =
    kind_word s.correction.target ∷ key_of s.correction.target ∷ encode_lower (to_be_bytes w32 s.correction.tag)
    ∷ s.correction.value ∷ decimal s.correction.stamp.counter ∷ decimal s.correction.stamp.site
    ∷ yes_no s.counts ∷ []

-- these are the corrections of a set, in order, each with whether it counts
pub record AreCorrections (ops : List Op) (stamped : List Stamped) : Type 0 where
  pub ordered : List CorrectionParts
  pub same : IsPermutation (corrections ops) ordered
  pub order : AreInOrder ordered
  pub each : stamped ≡ map (with_count ops) ordered

-- the rows are those of the corrections of a set, in order
abbrev pub AreCorrectionRows : List Op → List (List (List ℕ)) → Type 0
AreCorrectionRows ops rows = (stamped : List Stamped) × AreCorrections ops stamped × (rows ≡ map correction_row stamped)
