-- The value of an index: of one operation, and of two indexes together.
use Rattle.std.specs.Prelude.{ℕ, nat_le, List, [], map, length, take, Option, None, Some, Bool, if◌then◌else◌}
use Rattle.std.specs.List.{filter}
use Rattle.std.specs.Map.{lookup}
use Rattle.std.specs.Ordering.{nat_cmp, ordering_then}
use Rattle.std.specs.declared.cmp.Ordering.{Ordering}
use Rattle.std.specs.BTreeMap.{is_at}
use Rattle.std.specs.List.Sorted.{IsStrictlySortedBy}
use Rattle.rejection_note.specs.declared.note.Note.{Note}
use Rattle.rejection_note.specs.declared.title.NoteTitle.{NoteTitle}
use Rattle.operation.specs.declared.op.Op.{Op}
use Rattle.operation.specs.declared.op.Op.TheVariants.{Content as a_content, Correction as a_correction}
use Rattle.operation.specs.declared.target.Target.{Target}
use Rattle.operation.specs.declared.target.Target.TheVariants.{Study, Patient, Series}
use Rattle.operation.specs.Parts.{ContentParts, CorrectionParts, key_of}
use Rattle.operation.specs.Spelling.{digest_of}
use Rattle.octets.specs.Texts.{text_cmp}
use Rattle.archive_model.specs.Contents.{study_of, series_of, patient_of}
use Rattle.archive_model.specs.Index.{code_of}
use Rattle.join_laws.specs.Greatest.{greatest_of}
use Rattle.join_laws.specs.GrowSet.{union_of, only}
use Rattle.join_laws.specs.MapOf.{IsMapOf, map_joined, entry}
use Rattle.study_index.specs.Live.{Text, Pick, a_pick, picks_joined, flat}
use Rattle.study_index.specs.Leads.{Lead, lead_cmp, leads_of}

-- the SOP Instance UID of a content, and its digest
pub record Copy : Type 0 where
  pub uid : Text
  pub digest : Text

abbrev pub a_copy : Text → Text → Copy
a_copy uid digest = record { uid = uid; digest = digest }

-- a UID that a note names, and the code of the note's title
pub record Naming : Type 0 where
  pub uid : Text
  pub title : ℕ

abbrev pub a_naming : Text → ℕ → Naming
a_naming uid title = record { uid = uid; title = title }

-- the kind and the key of a target, and a tag
pub record FixKey : Type 0 where
  pub kind : ℕ
  pub key : Text
  pub tag : ℕ

-- counter, site and value of a correction
pub record Fix : Type 0 where
  pub counter : ℕ
  pub site : ℕ
  pub value : Text

-- the copies and the leads, who is named under which titles, the greatest corrections, and the picks
pub record IndexValue : Type 0 where
  pub copies : List Copy
  pub leads : List Lead
  pub titles : List Naming
  pub fixes : List (FixKey × Option Fix)
  pub picks : List (Text × Option Pick)

-- ---- orders, part after part

abbrev pub copy_cmp : Copy → Copy → Ordering
copy_cmp x y = ordering_then (text_cmp x.uid y.uid) (text_cmp x.digest y.digest)

abbrev pub naming_cmp : Naming → Naming → Ordering
naming_cmp x y = ordering_then (text_cmp x.uid y.uid) (nat_cmp x.title y.title)

abbrev pub fix_key_cmp : FixKey → FixKey → Ordering
fix_key_cmp x y = ordering_then (nat_cmp x.kind y.kind) (ordering_then (text_cmp x.key y.key) (nat_cmp x.tag y.tag))

abbrev pub fix_cmp : Fix → Fix → Ordering
fix_cmp x y = ordering_then (nat_cmp x.counter y.counter) (ordering_then (nat_cmp x.site y.site)
    (text_cmp x.value y.value))

-- ---- indexes joined, part by part

abbrev pub fixes_joined : List (FixKey × Option Fix) → List (FixKey × Option Fix) → List (FixKey × Option Fix)
fixes_joined = map_joined fix_key_cmp (greatest_of fix_cmp)

pub record IsIndex (a : IndexValue) : Type 0 where
  pub copies : IsStrictlySortedBy copy_cmp a.copies
  pub leads : IsStrictlySortedBy lead_cmp a.leads
  pub titles : IsStrictlySortedBy naming_cmp a.titles
  pub fixes : IsMapOf {K = FixKey} {J = Option Fix} fix_key_cmp (λ _. Unit {0}) a.fixes
  pub picks : IsMapOf {K = Text} {J = Option Pick} text_cmp (λ _. Unit {0}) a.picks

abbrev pub index_joined : IndexValue → IndexValue → IndexValue
index_joined a b = record {
  copies = union_of copy_cmp a.copies b.copies;
  leads = union_of lead_cmp a.leads b.leads;
  titles = union_of naming_cmp a.titles b.titles;
  fixes = fixes_joined a.fixes b.fixes;
  picks = picks_joined a.picks b.picks;
}

abbrev pub nothing : IndexValue
nothing = record { copies = []; leads = []; titles = []; fixes = []; picks = [] }

-- ---- the index of one operation

-- whether a text has at most 64 bytes, as every UID does (PS3.5, 9.1)
abbrev pub is_short : Text → Bool
is_short text = nat_le (length text) 64

-- UIDs that are named under a title
abbrev pub named : NoteTitle → List (List ℕ) → List Naming
named title uids = map (λ uid. a_naming uid (code_of title)) (filter is_short uids)

-- what a note names, under its title
abbrev pub namings : Note → List Naming
namings note = named note.title note.covers

abbrev pub titles_of : Option Note → List Naming
titles_of None = []
titles_of (Some note) = union_of naming_cmp [] (namings note)

-- the study and the series of a content
abbrev pub keys_of : ContentParts → Text × Text
keys_of c = (take 64 (study_of c), take 64 (series_of c))

-- a content under a digest, with its keys
abbrev pub pick_under : Text → ContentParts → Pick
pick_under digest c = a_pick digest (keys_of c).0 (keys_of c).1

-- and under its own
abbrev pub pick_of : ContentParts → Pick
pick_of c = pick_under (digest_of (a_content c)) c

-- the kinds of target by number
abbrev pub kind_of : Target → ℕ
kind_of (Study key) = 1
kind_of (Patient key) = 2
kind_of (Series key) = 3

abbrev pub fix_key : Target → ℕ → FixKey
fix_key target tag = record { kind = kind_of target; key = key_of target; tag = tag }

abbrev pub fix_of : CorrectionParts → Fix
fix_of k = record { counter = k.stamp.counter; site = k.stamp.site; value = k.value }

abbrev pub index_of : Op → IndexValue
index_of (a_content c) = record {
  copies = only (a_copy c.instance (digest_of (a_content c)));
  leads = leads_of (a_content c);
  titles = titles_of c.note;
  fixes = [];
  picks = entry c.instance (Some (pick_of c));
}
index_of (a_correction k) = record {
  copies = [];
  leads = leads_of (a_correction k);
  titles = [];
  fixes = entry (fix_key k.target k.tag) (Some (fix_of k));
  picks = [];
}

-- an index with a content more, but for what it names as a note
abbrev pub with_content : IndexValue → ContentParts → IndexValue
with_content a c = record {
  copies = union_of copy_cmp a.copies (index_of (a_content c)).copies;
  leads = union_of lead_cmp a.leads (leads_of (a_content c));
  titles = a.titles;
  fixes = a.fixes;
  picks = picks_joined a.picks (index_of (a_content c)).picks;
}

-- ---- what is read off an index

-- the correction at a key
abbrev pub fix_at : FixKey → List (FixKey × Option Fix) → Option Fix
fix_at key fixes = flat (lookup (is_at (fix_key_cmp key)) fixes)

-- the correction at a key of at most 64 bytes, which every target's key has
abbrev pub short_fix_at : FixKey → List (FixKey × Option Fix) → Option Fix
short_fix_at key fixes = if is_short key.key then fix_at key fixes else None

-- of the corrections of an attribute of a content the greatest: of its study, of its patient and of its series
abbrev pub latest_at : ContentParts → ℕ → List (FixKey × Option Fix) → Option Fix
latest_at c tag fixes =
    greatest_of fix_cmp (short_fix_at (fix_key (Study (study_of c)) tag) fixes)
    (greatest_of fix_cmp (short_fix_at (fix_key (Patient (patient_of c)) tag) fixes)
    (short_fix_at (fix_key (Series (series_of c)) tag) fixes))
