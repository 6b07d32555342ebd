-- Tags of data sets (PS3.5, 7.1.1).
use Rattle.std.specs.Prelude.{ℕ, ◌/◌, ◌%◌, Bool, ◌==◌, ◌||◌}
use Rattle.dictionary.specs.declared.elements.TheConstants.{CONCEPT_NAME_CODE_SEQUENCE}
use Rattle.dictionary.specs.declared.elements.TheConstants.{CURRENT_REQUESTED_PROCEDURE_EVIDENCE_SEQUENCE, ITEM}
use Rattle.dictionary.specs.declared.elements.TheConstants.{ITEM_DELIMITATION_ITEM, PIXEL_DATA}
use Rattle.dictionary.specs.declared.elements.TheConstants.{REFERENCED_SERIES_SEQUENCE, REFERENCED_SOP_SEQUENCE}
use Rattle.dictionary.specs.declared.elements.TheConstants.{SEQUENCE_DELIMITATION_ITEM}

abbrev pub group_of : ℕ → ℕ
group_of tag = tag / 65536

-- (FFFE,E000) Item, (FFFE,E00D) Item Delimitation Item, (FFFE,E0DD) Sequence Delimitation Item (PS3.5, 7.5)
abbrev pub item : ℕ
item = ITEM

abbrev pub item_end : ℕ
item_end = ITEM_DELIMITATION_ITEM

abbrev pub sequence_end : ℕ
sequence_end = SEQUENCE_DELIMITATION_ITEM

-- items and ends have the group FFFE, and no element has it
abbrev pub is_item_tag : ℕ → Bool
is_item_tag tag = group_of tag == 0xfffe

-- command elements have the group 0000, and those of a file's header the group 0002
abbrev pub is_reserved_group : ℕ → Bool
is_reserved_group tag = group_of tag == 0 || group_of tag == 2

-- (0008,1115) Referenced Series Sequence, (0008,1199) Referenced SOP Sequence, (0040,A043) Concept Name Code Sequence,
-- (0040,A375) Current Requested Procedure Evidence Sequence: sequences in whatever way they are spelled
abbrev pub is_listed : ℕ → Bool
is_listed tag =
    tag == REFERENCED_SERIES_SEQUENCE || tag == REFERENCED_SOP_SEQUENCE || tag == CONCEPT_NAME_CODE_SEQUENCE
    || tag == CURRENT_REQUESTED_PROCEDURE_EVIDENCE_SEQUENCE

-- (7FE0,0010) Pixel Data
abbrev pub is_pixel_data : ℕ → Bool
is_pixel_data tag = tag == PIXEL_DATA

-- (gggg,0000) Group Length
abbrev pub is_group_length : ℕ → Bool
is_group_length tag = tag % 65536 == 0
