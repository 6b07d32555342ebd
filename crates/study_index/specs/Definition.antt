-- What an index says of a set of operations, which is the list of its operations ascending by digest:
-- the definition, without joins.
use Rattle.std.specs.Prelude.{◌≡◌, ℕ, List, IsTrue}
use Rattle.std.specs.Option.{option_map}
use Rattle.rejection_note.specs.declared.title.NoteTitle.{NoteTitle}
use Rattle.operation.specs.declared.op.Op.{Op}
use Rattle.operation.specs.declared.op.Op.TheVariants.{Content as a_content, Correction as a_correction}
use Rattle.operation.specs.Corrections.{is_correction}
use Rattle.octets.specs.Members.{Has}
use Rattle.operation.specs.declared.target.Target.{Target}
use Rattle.records.specs.StandIn.{IsStandIn}
use Rattle.archive_model.specs.Contents.{pick}
use Rattle.archive_model.specs.Index.{code_of, copies, is_titled, fix}
use Rattle.octets.specs.Texts.{text_cmp}
use Rattle.study_index.specs.Keys.{has}
use Rattle.study_index.specs.Live.{pick_at}
use Rattle.join_laws.specs.Laws.{summary_of}
use Rattle.study_index.specs.Index.{IndexValue, index_joined, index_of, nothing, copy_cmp, naming_cmp, is_short}
use Rattle.study_index.specs.Index.{a_copy, a_naming, pick_of, fix_key, fix_of, fix_at}
use Rattle.study_index.specs.Leads.{Lead, lead_cmp, is_lead}

-- For each SOP Instance UID the digest and the keys of its pick, and the digests of its contents;
-- for each UID the titles of the notes that name it; for each target and tag the greatest correction.
-- The list of places is that of the picks. The leads are those that its operations give, whatever is picked or hidden.
pub record IsIndexOf (ops : List Op) (index : IndexValue) : Type 0 where
  pub picks : (uid : List ℕ) → pick_at uid index.picks ≡ option_map pick_of (pick uid ops)
  pub copies : (uid digest : List ℕ) → has copy_cmp index.copies (a_copy uid digest) ≡ has text_cmp
      (copies uid ops) digest
  pub titles : (uid : List ℕ) (title : NoteTitle) → IsTrue (is_short uid)
      → has naming_cmp index.titles (a_naming uid (code_of title)) ≡ is_titled ops uid title
  pub leads : (lead : Lead) → has lead_cmp index.leads lead ≡ is_lead ops lead
  pub fixes : (target : Target) (tag : ℕ) → fix_at (fix_key target tag) index.fixes ≡ option_map
      fix_of (fix target tag ops)

-- the index of a list of operations: those of its operations, joined
abbrev pub index_value : List Op → IndexValue
index_value = summary_of index_joined nothing index_of

-- an operation stands for one, and a correction is lawful
abbrev pub IsLawful : Op → Type 0
IsLawful (a_content c) = IsStandIn c
IsLawful (a_correction k) = IsTrue (is_correction k)

-- each of some operations has
abbrev pub AreLawful : List Op → Type 0
AreLawful ops = (op : Op) → Has ops op → IsLawful op
