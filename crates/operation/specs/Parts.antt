-- The parts of operations, as contracts see them.
use Rattle.std.specs.Prelude.{ℕ, List, [], ◌∷◌, Option, Some, None, ◌==◌, if◌then◌else◌}
use Rattle.data_set.specs.declared.syntax.Syntax.{Syntax}
use Rattle.rejection_note.specs.declared.note.Note.{Note}
use Rattle.operation.specs.declared.draft.Draft.{Draft}
use Rattle.operation.specs.declared.stamp.Stamp.{Stamp}
use Rattle.operation.specs.declared.target.Target.{Target}
use Rattle.operation.specs.declared.target.Target.TheVariants.{Study, Patient, Series}
use Rattle.operation.specs.Drafts.{digest_of_draft}

-- a stored data set with its SOP class, its SOP instance and its transfer syntax, and what is asked of it again and
-- again: its digest, the trimmed values of its elements that queries know, by ascending tag, and what it says as a
-- rejection note
pub record ContentParts : Type 0 where
  pub digest : List ℕ
  pub class : List ℕ
  pub instance : List ℕ
  pub syntax : Syntax
  pub body : List ℕ
  pub values : List (ℕ × List ℕ)
  pub note : Option Note

-- a content without its bytes, and how many there are
pub record KeptParts : Type 0 where
  pub class : List ℕ
  pub instance : List ℕ
  pub syntax : Syntax
  pub size : ℕ
  pub values : List (ℕ × List ℕ)
  pub note : Option Note

-- the draft of these bytes
abbrev pub draft_with : KeptParts → List ℕ → Draft
draft_with kept body =
    record { class = kept.class; instance = kept.instance; syntax = kept.syntax; body = body }

-- the same under a digest
abbrev pub with_digest : List ℕ → KeptParts → List ℕ → ContentParts
with_digest digest kept body = record {
  digest = digest;
  class = kept.class;
  instance = kept.instance;
  syntax = kept.syntax;
  body = body;
  values = kept.values;
  note = kept.note;
}

-- the same with its bytes, under their digest
abbrev pub with_body : KeptParts → List ℕ → ContentParts
with_body kept body = with_digest (digest_of_draft (draft_with kept body)) kept body

-- a stamped value for one attribute of a study, a patient or a series
pub record CorrectionParts : Type 0 where
  pub target : Target
  pub tag : ℕ
  pub value : List ℕ
  pub stamp : Stamp

-- the value under a tag, if there is one
abbrev pub value_at : ℕ → List (ℕ × List ℕ) → Option (List ℕ)
value_at tag [] = None
value_at tag (v ∷ values) = if v.0 == tag then Some v.1 else value_at tag values

abbrev pub value_or_empty : Option (List ℕ) → List ℕ
value_or_empty None = []
value_or_empty (Some value) = value

-- a content's own trimmed value, which is empty where the element is missing or holds items
abbrev pub own_value : ContentParts → ℕ → List ℕ
own_value content tag = value_or_empty (value_at tag content.values)

abbrev pub key_of : Target → List ℕ
key_of (Study key) = key
key_of (Patient key) = key
key_of (Series key) = key
