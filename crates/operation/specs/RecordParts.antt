-- The parts of what is kept of a content, as contracts see them.
use Rattle.std.specs.Prelude.{ℕ, List, length, Option}
use Rattle.data_set.specs.declared.syntax.Syntax.{Syntax}
use Rattle.rejection_note.specs.declared.note.Note.{Note}
use Rattle.operation.specs.declared.op.Op.TheVariants.{Content as a_content}
use Rattle.operation.specs.Parts.{ContentParts, KeptParts}
use Rattle.operation.specs.Spelling.{digest_of}

-- a content without its bytes, with its digest, and how many bytes there are
pub record ContentRecordParts : Type 0 where
  pub digest : List ℕ
  pub class : List ℕ
  pub instance : List ℕ
  pub syntax : Syntax
  pub size : ℕ
  pub values : List (ℕ × List ℕ)
  pub note : Option Note

-- what is kept of a content
abbrev pub content_record : ContentParts → ContentRecordParts
content_record c = record {
  digest = digest_of (a_content c);
  class = c.class;
  instance = c.instance;
  syntax = c.syntax;
  size = length c.body;
  values = c.values;
  note = c.note;
}

-- what is kept of a content of this digest
abbrev pub under_digest : List ℕ → KeptParts → ContentRecordParts
under_digest digest kept = record {
  digest = digest;
  class = kept.class;
  instance = kept.instance;
  syntax = kept.syntax;
  size = kept.size;
  values = kept.values;
  note = kept.note;
}
