-- Of two sets of operations the same is kept: so it is of their contents, of what is picked, and of what is shown.
use Rattle.std.proofs.Common.{◌≡◌, ℕ, Bool, false, List, [], ◌∷◌, length, Option, Some, None, refl, sym, ap, ◌∙◌}
use Rattle.std.proofs.Common.{map}
use Rattle.std.specs.Prelude.{◌&&◌, ◌==◌, if◌then◌else◌, nat_lt}
use Rattle.std.specs.List.{filter, filter_map, find, list_any}
use Rattle.std.specs.Option.{option_map}
use Rattle.std.proofs.lemmas.List.{length-map}
use Rattle.octets.specs.Texts.{same, ascending}
use Rattle.operation.specs.declared.op.Op.{Op}
use Rattle.operation.specs.declared.op.Op.TheVariants.{Content as a_content, Correction as a_correction}
use Rattle.operation.specs.declared.target.Target.{Target}
use Rattle.operation.specs.declared.target.Target.TheVariants.{Study, Patient, Series}
use Rattle.operation.specs.Parts.{ContentParts, CorrectionParts, own_value}
use Rattle.operation.specs.Spelling.{digest_of}
use Rattle.operation.specs.declared.record.Record.{Record}
use Rattle.operation.specs.declared.record.Record.TheVariants.{Content as kept_content, Correction as kept_correction}
use Rattle.operation.specs.RecordParts.{ContentRecordParts, content_record}
use Rattle.operation.specs.Records.{record_of, digest_in}
use Rattle.archive_model.specs.declared.view.View.{View}
use Rattle.archive_model.specs.Attributes.{attribute, corrected, corrections, correction_in, corrects, greatest}
use Rattle.archive_model.specs.Attributes.{is_target_of}
use Rattle.archive_model.specs.Contents.{contents, content_in, contents_of, instances, is_flagged, is_of_instance}
use Rattle.archive_model.specs.Contents.{pick, study_of, series_of}
use Rattle.archive_model.specs.Covered.{covers, is_covered, is_hiding}
use Rattle.archive_model.specs.Groups.{first_of, in_study, in_series, is_of_study, is_of_series}
use Rattle.archive_model.specs.Index.{copies, is_content_of, is_fix, names_under}
use Rattle.archive_model.specs.Shown.{shown, shown_at, unless_hiding}
use Rattle.archive_model.specs.RecordLaws as laws
use Rattle.archive_model.specs.RecordLaws.{KeepTheSame}
use Rattle.archive_model.proofs.Keeping.{filter_kept, find_kept, any_kept, map_kept, filter_map_kept, kept_of_made}
use Rattle.archive_model.proofs.Keeping.{push_none, map_found}

-- ---- contents of which the same is kept

-- what is kept of a content, as a content of no byte
abbrev pub stripped : ContentRecordParts → ContentParts
stripped r = record {
  digest = r.digest;
  class = r.class;
  instance = r.instance;
  syntax = r.syntax;
  body = [];
  values = r.values;
  note = r.note;
}

-- a content without its bytes
abbrev pub bare : ContentParts → ContentParts
bare c = stripped (content_record c)

abbrev pub Alike : List ContentParts → List ContentParts → Type 0
Alike cs ds = map content_record cs ≡ map content_record ds

pub alike_filter : (p : ContentParts → Bool) → ((c : ContentParts) → p (bare c) ≡ p c) → (cs ds : List ContentParts)
    → Alike cs ds → Alike (filter p cs) (filter p ds)
alike_filter p sees cs ds alike =
    filter_kept content_record p (λ r. p (stripped r)) sees cs ∙ ap (filter (λ r. p (stripped r))) alike
    ∙ sym (filter_kept content_record p (λ r. p (stripped r)) sees ds)

alike_find : (p : ContentParts → Bool) → ((c : ContentParts) → p (bare c) ≡ p c) → (cs ds : List ContentParts)
    → Alike cs ds → option_map content_record (find p cs) ≡ option_map content_record (find p ds)
alike_find p sees cs ds alike =
    find_kept content_record p (λ r. p (stripped r)) sees cs ∙ ap (find (λ r. p (stripped r))) alike
    ∙ sym (find_kept content_record p (λ r. p (stripped r)) sees ds)

alike_any : (p : ContentParts → Bool) → ((c : ContentParts) → p (bare c) ≡ p c) → (cs ds : List ContentParts)
    → Alike cs ds → list_any p cs ≡ list_any p ds
alike_any p sees cs ds alike =
    any_kept content_record p (λ r. p (stripped r)) sees cs ∙ ap (list_any (λ r. p (stripped r))) alike
    ∙ sym (any_kept content_record p (λ r. p (stripped r)) sees ds)

pub alike_map : {Z : Type 0} (g : ContentParts → Z) → ((c : ContentParts) → g (bare c) ≡ g c)
    → (cs ds : List ContentParts) → Alike cs ds → map g cs ≡ map g ds
alike_map g sees cs ds alike =
    map_kept content_record g (λ r. g (stripped r)) sees cs ∙ ap (map (λ r. g (stripped r))) alike
    ∙ sym (map_kept content_record g (λ r. g (stripped r)) sees ds)

pub alike_length : (cs ds : List ContentParts) → Alike cs ds → length cs ≡ length ds
alike_length cs ds alike = sym (length-map cs content_record) ∙ ap length alike ∙ length-map ds content_record

abbrev first_in : List ContentRecordParts → Option ContentRecordParts
first_in [] = None
first_in (r ∷ rs) = Some r

first_kept : (cs : List ContentParts) → option_map content_record (first_of cs) ≡ first_in (map content_record cs)
first_kept [] = refl
first_kept (c ∷ cs) = refl

alike_first : (cs ds : List ContentParts) → Alike cs ds
    → option_map content_record (first_of cs) ≡ option_map content_record (first_of ds)
alike_first cs ds alike = first_kept cs ∙ ap first_in alike ∙ sym (first_kept ds)

-- ---- what is in records

abbrev content_kept : Record → Option ContentRecordParts
content_kept (kept_content r) = Some r
content_kept (kept_correction k) = None

abbrev correction_kept : Record → Option CorrectionParts
correction_kept (kept_content r) = None
correction_kept (kept_correction k) = Some k

sees_content : (op : Op) → content_kept (record_of op) ≡ option_map content_record (content_in op)
sees_content (a_content c) = refl
sees_content (a_correction k) = refl

sees_correction : (op : Op) → correction_kept (record_of op) ≡ correction_in op
sees_correction (a_content c) = refl
sees_correction (a_correction k) = refl

pub sees_digest : (op : Op) → digest_in (record_of op) ≡ digest_of op
sees_digest (a_content c) = refl
sees_digest (a_correction k) = refl

contents_kept : (ops : List Op) → map content_record (contents ops) ≡ filter_map content_kept (map record_of ops)
contents_kept ops =
    kept_of_made content_record content_in ops
    ∙ filter_map_kept record_of (λ op. option_map content_record (content_in op)) content_kept sees_content ops

pub same_digests : laws.SameDigests
same_digests ops others kept =
    map_kept record_of digest_of digest_in sees_digest ops ∙ ap (map digest_in) kept
    ∙ sym (map_kept record_of digest_of digest_in sees_digest others)

pub same_contents : laws.SameContents
same_contents ops others kept =
    contents_kept ops ∙ ap (filter_map content_kept) kept ∙ sym (contents_kept others)

pub same_corrections : (ops others : List Op) → KeepTheSame ops others → corrections ops ≡ corrections others
same_corrections ops others kept =
    filter_map_kept record_of correction_in correction_kept sees_correction ops ∙ ap (filter_map correction_kept) kept
    ∙ sym (filter_map_kept record_of correction_in correction_kept sees_correction others)

-- ---- picks

same_instances : (ops others : List Op) → KeepTheSame ops others → instances ops ≡ instances others
same_instances ops others kept =
    ap ascending (alike_map (λ (c : ContentParts). c.instance) (λ c. refl) (contents ops) (contents others)
    (same_contents ops others kept))

pub same_picks : laws.SamePicks
same_picks ops others uid kept =
    alike_find (is_of_instance uid) (λ c. refl) (contents ops) (contents others) (same_contents ops others kept)

same_flag : (ops others : List Op) → KeepTheSame ops others → (uid : List ℕ) → is_flagged ops uid ≡ is_flagged others uid
same_flag ops others kept uid =
    ap (nat_lt 1) (alike_length (contents_of uid ops) (contents_of uid others)
    (alike_filter (is_of_instance uid) (λ c. refl) (contents ops) (contents others) (same_contents ops others kept)))

pub same_flagged : laws.SameFlagged
same_flagged ops others kept =
    λ i. filter (λ uid. same_flag ops others kept uid i) (same_instances ops others kept i)

-- ---- what is shown

pub same_covered : laws.SameCovered
same_covered ops others view uid kept =
    alike_any (λ (c : ContentParts). covers view uid c.note) (λ c. refl) (contents ops) (contents others)
    (same_contents ops others kept)

abbrev unless_over : View → Option ContentRecordParts → Option ContentRecordParts
unless_over view None = None
unless_over view (Some r) = if is_hiding view r.note then None else Some r

unless_kept : (view : View) (c : Option ContentParts)
    → option_map content_record (unless_hiding view c) ≡ unless_over view (option_map content_record c)
unless_kept view None = refl
unless_kept view (Some c) = push_none content_record (is_hiding view c.note) (Some c)

same_shown_at : (ops others : List Op) (view : View) → KeepTheSame ops others → (uid : List ℕ)
    → option_map content_record (shown_at view ops uid) ≡ option_map content_record (shown_at view others uid)
same_shown_at ops others view kept uid =
    let covered : is_covered view ops uid ≡ is_covered view others uid = same_covered ops others view uid kept in
    let picked : option_map content_record (unless_hiding view (pick uid ops))
    ≡ option_map content_record (unless_hiding view (pick uid others)) =
    unless_kept view (pick uid ops) ∙ ap (unless_over view) (same_picks ops others uid kept)
    ∙ sym (unless_kept view (pick uid others)) in
    push_none content_record (is_covered view ops uid) (unless_hiding view (pick uid ops))
    ∙ (λ i. if covered i then None else picked i)
    ∙ sym (push_none content_record (is_covered view others uid) (unless_hiding view (pick uid others)))

pub same_shown : laws.SameShown
same_shown ops others view kept =
    kept_of_made content_record (shown_at view ops) (instances ops)
    ∙ (λ i. filter_map (λ uid. same_shown_at ops others view kept uid i) (same_instances ops others kept i))
    ∙ sym (kept_of_made content_record (shown_at view others) (instances others))

-- ---- attributes

sees_target : (c : ContentParts) (target : Target) → is_target_of (bare c) target ≡ is_target_of c target
sees_target c (Study key) = refl
sees_target c (Patient key) = refl
sees_target c (Series key) = refl

sees_correcting : (c : ContentParts) (tag : ℕ) (k : CorrectionParts) → corrects (bare c) tag k ≡ corrects c tag k
sees_correcting c tag k = ap (λ (b : Bool). k.tag == tag && b) (sees_target c k.target)

-- an attribute of a content sees none of its bytes
pub sees_attribute : (ops : List Op) (c : ContentParts) (tag : ℕ) → attribute ops (bare c) tag ≡ attribute ops c tag
sees_attribute ops c tag =
    λ i. corrected (own_value c tag) (greatest (filter (λ k. sees_correcting c tag k i) (corrections ops)))

-- both sets correct alike
pub same_correcting : (ops others : List Op) → KeepTheSame ops others → (c : ContentParts) (tag : ℕ)
    → attribute ops c tag ≡ attribute others c tag
same_correcting ops others kept c tag =
    ap (λ (ks : List CorrectionParts). corrected (own_value c tag) (greatest (filter (corrects c tag) ks)))
    (same_corrections ops others kept)

pub same_attributes : laws.SameAttributes
same_attributes ops others c d tag kept one =
    sym (sees_attribute ops c tag) ∙ ap (λ (r : ContentRecordParts). attribute ops (stripped r) tag) one
    ∙ sees_attribute ops d tag ∙ same_correcting ops others kept d tag

-- ---- studies and series

pub same_studies : laws.SameStudies
same_studies ops others view kept =
    ap ascending (alike_map study_of (λ c. refl) (shown view ops) (shown view others) (same_shown ops others view kept))

same_in_study : (ops others : List Op) (view : View) (study : List ℕ) → KeepTheSame ops others
    → Alike (in_study study (shown view ops)) (in_study study (shown view others))
same_in_study ops others view study kept =
    alike_filter (is_of_study study) (λ c. refl) (shown view ops) (shown view others) (same_shown ops others view kept)

pub same_series : laws.SameSeries
same_series ops others view study kept =
    ap ascending (alike_map series_of (λ c. refl) (in_study study (shown view ops)) (in_study study (shown view others))
    (same_in_study ops others view study kept))

pub same_study_representatives : laws.SameStudyRepresentatives
same_study_representatives ops others view study kept =
    alike_first (in_study study (shown view ops)) (in_study study (shown view others))
    (same_in_study ops others view study kept)

pub same_series_representatives : laws.SameSeriesRepresentatives
same_series_representatives ops others view study series kept =
    alike_first (in_series study series (shown view ops)) (in_series study series (shown view others))
    (alike_filter (is_of_series study series) (λ c. refl) (shown view ops) (shown view others)
    (same_shown ops others view kept))

pub same_study_counts : laws.SameStudyCounts
same_study_counts ops others view study kept =
    alike_length (in_study study (shown view ops)) (in_study study (shown view others))
    (same_in_study ops others view study kept)

pub same_series_counts : laws.SameSeriesCounts
same_series_counts ops others view study kept = ap length (same_series ops others view study kept)

-- ---- the index

pub same_pick_digests : laws.SamePickDigests
same_pick_digests ops others uid kept =
    map_found content_record (λ c. digest_of (a_content c)) (λ r. r.digest) (λ c. refl) (pick uid ops)
    ∙ ap (option_map (λ (r : ContentRecordParts). r.digest)) (same_picks ops others uid kept)
    ∙ sym (map_found content_record (λ c. digest_of (a_content c)) (λ r. r.digest) (λ c. refl) (pick uid others))

abbrev is_kept_of : List ℕ → Record → Bool
is_kept_of uid (kept_content r) = same r.instance uid
is_kept_of uid (kept_correction k) = false

sees_instance : (uid : List ℕ) (op : Op) → is_kept_of uid (record_of op) ≡ is_content_of uid op
sees_instance uid (a_content c) = refl
sees_instance uid (a_correction k) = refl

copies_kept : (uid : List ℕ) (ops : List Op)
    → copies uid ops ≡ map digest_in (filter (is_kept_of uid) (map record_of ops))
copies_kept uid ops =
    map_kept record_of digest_of digest_in sees_digest (filter (is_content_of uid) ops)
    ∙ ap (map digest_in) (filter_kept record_of (is_content_of uid) (is_kept_of uid) (sees_instance uid) ops)

pub same_copies : laws.SameCopies
same_copies ops others uid kept =
    copies_kept uid ops ∙ ap (λ (rs : List Record). map digest_in (filter (is_kept_of uid) rs)) kept
    ∙ sym (copies_kept uid others)

pub same_titles : laws.SameTitles
same_titles ops others uid title kept =
    alike_any (λ (c : ContentParts). names_under title uid c.note) (λ c. refl) (contents ops) (contents others)
    (same_contents ops others kept)

pub same_fixes : laws.SameFixes
same_fixes ops others target tag kept =
    ap (λ (ks : List CorrectionParts). greatest (filter (is_fix target tag) ks)) (same_corrections ops others kept)
