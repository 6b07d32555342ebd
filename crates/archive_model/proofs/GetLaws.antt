-- What is to be sent, but for its bytes, sees no byte of a data set.
use Rattle.std.proofs.Common.{◌≡◌, ℕ, List, Some, None, refl, sym, ap, ◌∙◌, map}
use Rattle.std.specs.Prelude.{◌&&◌, not, if◌then◌else◌}
use Rattle.std.specs.List.{filter_map}
use Rattle.octets.specs.Texts.{same}
use Rattle.dictionary.specs.Roles.{corrected_tags}
use Rattle.operation.specs.declared.op.Op.{Op}
use Rattle.operation.specs.Parts.{ContentParts, own_value}
use Rattle.operation.specs.RecordParts.{ContentRecordParts, content_record}
use Rattle.archive_model.specs.declared.view.View.{View}
use Rattle.archive_model.specs.Covered.{is_among}
use Rattle.archive_model.specs.Shown.{shown}
use Rattle.archive_model.specs.declared.selection.Selection.{Selection}
use Rattle.archive_model.specs.Change.{ChangeParts}
use Rattle.archive_model.specs.Preparing.{changes_for, prepared_for, prepared_of}
use Rattle.archive_model.specs.Selection.{is_selected, is_within, selected}
use Rattle.archive_model.specs.RecordLaws as laws
use Rattle.archive_model.specs.RecordLaws.{KeepTheSame, kept_prepared}
use Rattle.archive_model.proofs.Keeping.{map_kept}
use Rattle.archive_model.proofs.Alike.{Alike, alike_filter, bare, same_correcting, same_shown, sees_attribute, stripped}
use Rattle.archive_model.proofs.RowLaws.{sees_uid}

-- ---- what is selected

sees_selected : (s : Selection) (c : ContentParts) → is_selected s (bare c) ≡ is_selected s c
sees_selected s c = ap (λ (uid : List ℕ). is_within s c && is_among s.uids uid) (sees_uid s.level c)

same_selected : (ops others : List Op) (view : View) (s : Selection) → KeepTheSame ops others
    → Alike (selected s (shown view ops)) (selected s (shown view others))
same_selected ops others view s kept =
    alike_filter (is_selected s) (sees_selected s) (shown view ops) (shown view others)
    (same_shown ops others view kept)

-- ---- its changes

sees_changes : (ops : List Op) (c : ContentParts) → changes_for ops (bare c) ≡ changes_for ops c
sees_changes ops c =
    λ i. filter_map (λ tag. if not (same (sees_attribute ops c tag i) (own_value c tag)) then Some
    (tag, sees_attribute ops c tag i)
    else None) corrected_tags

same_changes : (ops others : List Op) → KeepTheSame ops others → (c : ContentParts)
    → changes_for ops c ≡ changes_for others c
same_changes ops others kept c =
    λ i. filter_map (λ tag. if not (same (same_correcting ops others kept c tag i) (own_value c tag)) then Some
    (tag, same_correcting ops others kept c tag i)
    else None) corrected_tags

-- ---- what is to be sent

-- what is kept of a content, with its changes
abbrev kept_with : List Op → ContentParts → ContentRecordParts × List ChangeParts
kept_with ops c = (content_record c, changes_for ops c)

-- the same of its record
abbrev record_with : List Op → ContentRecordParts → ContentRecordParts × List ChangeParts
record_with ops r = (r, changes_for ops (stripped r))

sees_both : (ops : List Op) (c : ContentParts) → record_with ops (content_record c) ≡ kept_with ops c
sees_both ops c = λ i. (content_record c, sees_changes ops c i)

alike_kept : (ops : List Op) (cs ds : List ContentParts) → Alike cs ds → map (kept_with ops) cs ≡ map (kept_with ops) ds
alike_kept ops cs ds alike =
    map_kept content_record (kept_with ops) (record_with ops) (sees_both ops) cs ∙ ap (map (record_with ops)) alike
    ∙ sym (map_kept content_record (kept_with ops) (record_with ops) (sees_both ops) ds)

of_prepared : (ops : List Op) (cs : List ContentParts)
    → map kept_prepared (map (prepared_for ops) cs) ≡ map (kept_with ops) cs
of_prepared ops cs = sym (map_kept (prepared_for ops) (kept_with ops) kept_prepared (λ c. refl) cs)

pub same_prepared : laws.SamePrepared
unfolding prepared_of
same_prepared ops others view s kept =
    of_prepared ops (selected s (shown view ops))
    ∙ alike_kept ops (selected s (shown view ops)) (selected s (shown view others))
    (same_selected ops others view s kept)
    ∙ (λ i. map (λ c. (content_record c, same_changes ops others kept c i)) (selected s (shown view others)))
    ∙ sym (of_prepared others (selected s (shown view others)))
