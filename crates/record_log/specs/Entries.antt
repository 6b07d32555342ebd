-- The records of contents in a file of groups. A group has entries, one behind the other.
use Rattle.std.specs.Prelude.{◌≡◌, ◌⊎◌, ◌+◌, ◌<◌, ◌^◌, ℕ, List, [], ◌∷◌, ◌++◌, length, map, filter, Bool, not, is_some, None}
use Rattle.std.specs.Int.{w64, to_be_bytes}
use Rattle.sqlite_disk.specs.declared.Disk.{Ghosts}
use Rattle.head_log.specs.declared.gate.Gate.{Gate}
use Rattle.head_log.specs.Groups.{IsReady, Laid, first_gate, joined}
use Rattle.head_log.specs.Groups.{StandsFor as HasGroups}
use Rattle.operation.specs.Parts.{ContentParts}
use Rattle.operation.specs.RecordParts.{content_record}
use Rattle.operation.specs.RecordTexts.{FitsText, record_text}
use Rattle.records.specs.StandIn.{IsStandIn}

-- a text behind its length, which has eight bytes, the high one first
unfoldable pub with_length : List ℕ → List ℕ
with_length text = to_be_bytes w64 (length text) ++ text

-- texts, each behind its length, one behind the other
unfoldable pub with_lengths : List (List ℕ) → List ℕ
with_lengths [] = []
with_lengths (text ∷ texts) = with_length text ++ with_lengths texts

-- the entry of a content: the text of its record, behind its length
abbrev pub entry_text : ContentParts → List ℕ
entry_text c = with_length (record_text (content_record c))

-- entries, one behind the other
unfoldable pub entries_text : List ContentParts → List ℕ
entries_text [] = []
entries_text (c ∷ cs) = entry_text c ++ entries_text cs

-- The entry of a content tells all of it but its bytes: it is the one that stands for its record, the text of that is
-- read again, and it is no rejection note, of which that text says nothing.
pub record IsTold (c : ContentParts) : Type 0 where
  pub stands : IsStandIn c
  pub fits : FitsText (content_record c)
  pub no_note : c.note ≡ None
  pub short : length (record_text (content_record c)) < 2 ^ 64

-- so do the entries of these contents
abbrev pub AreEachTold : List ContentParts → Type 0
AreEachTold [] = Unit {0}
AreEachTold (c ∷ cs) = IsTold c × AreEachTold cs

-- whether a content is no rejection note
abbrev pub has_no_note : ContentParts → Bool
has_no_note c = not (is_some c.note)

-- those of some contents that are none
abbrev pub without_notes : List ContentParts → List ContentParts
without_notes cs = filter has_no_note cs

-- the groups of a file, up to a gate, tell these contents, in this order
pub record AreTold (file : List ℕ) (end : Gate) (cs : List ContentParts) : Type 0 where
  pub groups : List (List ContentParts)
  pub are : joined groups ≡ cs
  pub laid : Laid file first_gate (map entries_text groups) end
  pub told : AreEachTold cs

-- and so do those of whatever a crash leaves of it
pub record AreKept {D : Type 0} (g : Ghosts D) (disk : D) (end : Gate) (cs : List ContentParts) : Type 0 where
  pub groups : List (List ContentParts)
  pub are : joined groups ≡ cs
  pub ready : IsReady g disk end (map entries_text groups)
  pub told : AreEachTold cs

-- a text is entries, and as many contents were read behind others
pub record WereRead (text : List ℕ) (old new : List ContentParts) : Type 0 where
  pub texts : List (List ℕ)
  pub is : text ≡ with_lengths texts
  pub count : length new ≡ length old + length texts

-- the groups of a file, up to an offset, have so many entries, whatever these tell
pub record HasEntries (file : List ℕ) (end count : ℕ) : Type 0 where
  pub groups : List (List (List ℕ))
  pub last : Gate
  pub laid : Laid file first_gate (map with_lengths groups) last
  pub place : last.at ≡ end
  pub count_is : count ≡ length (joined groups)

-- a file stands for these contents: its groups are all that tell them
pub record StandsFor (file : List ℕ) (cs : List ContentParts) : Type 0 where
  pub groups : List (List ContentParts)
  pub are : joined groups ≡ cs
  pub laid : HasGroups file (map entries_text groups)
  pub told : AreEachTold cs

-- a crash leaves those from before, or those afterwards
abbrev pub LeavesEither : {D : Type 0} → Ghosts D → D → List ContentParts → List ContentParts → Type 0
LeavesEither g disk old new = (file : List ℕ) → g.may_leave disk file → StandsFor file old ⊎ StandsFor file new
