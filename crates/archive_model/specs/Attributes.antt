-- The values of attributes, corrected.
use Rattle.std.specs.Prelude.{ℕ, List, Option, Some, None, Bool, ◌&&◌, ◌==◌, if◌then◌else◌}
use Rattle.std.specs.List.{filter, filter_map, find, list_all}
use Rattle.std.specs.Ordering.{nat_cmp, ordering_then, is_le, is_lt}
use Rattle.std.specs.declared.cmp.Ordering.{Ordering}
use Rattle.operation.specs.declared.op.Op.{Op}
use Rattle.operation.specs.declared.target.Target.{Target}
use Rattle.operation.specs.declared.target.Target.TheVariants.{Study, Patient, Series}
use Rattle.operation.specs.Parts.{ContentParts, CorrectionParts, own_value}
use Rattle.octets.specs.Texts.{same, text_cmp}
use Rattle.archive_model.specs.Contents.{study_of, series_of, patient_of}
pub use Rattle.records.specs.Parts.{correction_in}

-- the corrections of a set
abbrev pub corrections : List Op → List CorrectionParts
corrections ops = filter_map correction_in ops

-- whether a correction's target is a content's study, its stored Patient ID or its series
abbrev pub is_target_of : ContentParts → Target → Bool
is_target_of c (Study key) = same (study_of c) key
is_target_of c (Patient key) = same (patient_of c) key
is_target_of c (Series key) = same (series_of c) key

-- whether a correction is one of an attribute of a content
abbrev pub corrects : ContentParts → ℕ → CorrectionParts → Bool
corrects c tag k = k.tag == tag && is_target_of c k.target

-- the order of corrections: by counter, then by site, then by value
abbrev pub correction_cmp : CorrectionParts → CorrectionParts → Ordering
correction_cmp a b = ordering_then (nat_cmp a.stamp.counter b.stamp.counter)
    (ordering_then (nat_cmp a.stamp.site b.stamp.site) (text_cmp a.value b.value))

-- the one held, unless the next comes after it
abbrev pub later_of : Option CorrectionParts → CorrectionParts → Option CorrectionParts
later_of None next = Some next
later_of (Some held) next = if is_lt (correction_cmp held next) then Some next else Some held

-- whether no correction of these comes after this one
abbrev pub is_last : List CorrectionParts → CorrectionParts → Bool
is_last ks k = list_all (λ other. is_le (correction_cmp other k)) ks

-- the greatest of some corrections: one that none of them comes after
abbrev pub greatest : List CorrectionParts → Option CorrectionParts
greatest ks = find (is_last ks) ks

-- the correction of an attribute of a content that counts
abbrev pub correction_for : List Op → ContentParts → ℕ → Option CorrectionParts
correction_for ops c tag = greatest (filter (corrects c tag) (corrections ops))

abbrev pub corrected : List ℕ → Option CorrectionParts → List ℕ
corrected own None = own
corrected own (Some k) = k.value

-- an attribute of a content: the value of the greatest correction of it, and with none the content's own trimmed value
abbrev pub attribute : List Op → ContentParts → ℕ → List ℕ
attribute ops c tag = corrected (own_value c tag) (correction_for ops c tag)
