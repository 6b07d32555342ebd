-- What a C-GET lists over a set of operations, before any data set is loaded (PS3.4, C.4.3).
use Rattle.std.specs.Prelude.{◌≡◌, List, map}
use Rattle.operation.specs.declared.op.Op.{Op}
use Rattle.operation.specs.Parts.{ContentParts}
use Rattle.operation.specs.RecordParts.{ContentRecordParts, content_record}
use Rattle.archive_model.specs.declared.view.View.{View}
use Rattle.archive_model.specs.declared.listed.Listed.{Listed}
use Rattle.archive_model.specs.declared.prepared.Prepared.{Prepared}
use Rattle.archive_model.specs.declared.selection.Selection.{Selection}
use Rattle.archive_model.specs.Preparing.{prepared_of}

-- what is prepared, with the record of its content
abbrev pub listed : Prepared → Listed
listed p = record { content = content_record p.content; changes = p.changes }

-- what a C-GET lists: each content that is shown and selected, by ascending SOP Instance UID
unfoldable pub list_of : View → Selection → List Op → List Listed
list_of view selection ops = map listed (prepared_of view selection ops)

-- what is listed, with a content that was loaded for it
abbrev pub with_content : Listed → ContentParts → Prepared
with_content l content = record { content = content; changes = l.changes }

-- A content that was loaded is of the record that was asked for.
abbrev pub IsOfRecord : ContentRecordParts → ContentParts → Type 0
IsOfRecord asked content = content_record content ≡ asked
