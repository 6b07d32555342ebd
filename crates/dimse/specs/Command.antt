-- What a command set says, and the elements that say it (PS3.7, E.1).
use Rattle.std.specs.Prelude.{◌≡◌, ℕ, ◌<◌, ◌≤◌, ◌^◌, Bool, true, not, ◌==◌, ◌&&◌, ◌||◌, List, [], ◌∷◌, ◌++◌, length}
use Rattle.std.specs.Prelude.{Option, Some, None, is_some, option_and_then, IfSome, if◌then◌else◌}
use Rattle.std.specs.List.{list_all}
use Rattle.std.specs.Option.{option_map}
use Rattle.std.specs.Int.{w16, w32, to_le_bytes, from_le_bytes}
use Rattle.dimse.specs.declared.command.Command.{Command}
use Rattle.dimse.specs.declared.command.TheConstants.{LONGEST_COMMAND}
use Rattle.dictionary.specs.declared.commands.TheConstants.{C_STORE_RQ, NO_DATA_SET, COMMAND_GROUP_LENGTH}
use Rattle.dictionary.specs.declared.commands.TheConstants.{AFFECTED_SOP_CLASS_UID, COMMAND_FIELD, MESSAGE_ID}
use Rattle.dictionary.specs.declared.commands.TheConstants.{MESSAGE_ID_BEING_RESPONDED_TO, PRIORITY}
use Rattle.dictionary.specs.declared.commands.TheConstants.{COMMAND_DATA_SET_TYPE, STATUS, AFFECTED_SOP_INSTANCE_UID}
use Rattle.dictionary.specs.declared.commands.TheConstants.{NUMBER_OF_REMAINING_SUBOPERATIONS}
use Rattle.dictionary.specs.declared.commands.TheConstants.{NUMBER_OF_COMPLETED_SUBOPERATIONS}
use Rattle.dictionary.specs.declared.commands.TheConstants.{NUMBER_OF_FAILED_SUBOPERATIONS}
use Rattle.dictionary.specs.declared.commands.TheConstants.{NUMBER_OF_WARNING_SUBOPERATIONS}
use Rattle.dimse.specs.CommandField.{is_response_code, names_class_code}
use Rattle.dimse.specs.Elements.{Element, AreElements, text_of, element_text, value_of}
use Rattle.octets.specs.Padding.{without_padding}
use Rattle.dimse.specs.Uid.{IsUid, padded}
use Rattle.octets.specs.Graphic.{is_graphic}

-- ---- what elements say

-- the elements that hold a number of two bytes
abbrev pub is_number_tag : ℕ → Bool
is_number_tag tag =
    tag == COMMAND_FIELD || tag == MESSAGE_ID || tag == MESSAGE_ID_BEING_RESPONDED_TO || tag == PRIORITY || tag ==
    COMMAND_DATA_SET_TYPE || tag == STATUS
    || tag == NUMBER_OF_REMAINING_SUBOPERATIONS || tag == NUMBER_OF_COMPLETED_SUBOPERATIONS || tag ==
    NUMBER_OF_FAILED_SUBOPERATIONS || tag == NUMBER_OF_WARNING_SUBOPERATIONS

-- the elements that hold a UID
abbrev pub is_uid_tag : ℕ → Bool
is_uid_tag tag = tag == AFFECTED_SOP_CLASS_UID || tag == AFFECTED_SOP_INSTANCE_UID

-- A number has two bytes, and a UID printable ones before its padding. Nothing is asked of another element.
unfoldable pub is_lawful : Element → Bool
is_lawful e =
    if is_number_tag e.tag then length e.value == 2
    else if is_uid_tag e.tag then list_all is_graphic (without_padding e.value)
    else true

-- a number of two bytes, the low byte first
abbrev pub number_from : List ℕ → Option ℕ
number_from (low ∷ high ∷ []) = Some (from_le_bytes w16 (low ∷ high ∷ []))
number_from _ = None

abbrev pub number_of : List Element → ℕ → Option ℕ
number_of es tag = option_and_then number_from (value_of es tag)

-- a UID without its padding
abbrev pub uid_of : List Element → ℕ → Option (List ℕ)
uid_of es tag = option_map without_padding (value_of es tag)

-- what a message of its kind needs: an ID, or that of the request that it answers; a class; an instance
unfoldable pub is_complete : Command → Bool
is_complete c =
    (if is_response_code c.field then is_some c.responded_to else is_some c.message_id)
    && (not (names_class_code c.field) || is_some c.affected_class)
    && (not (c.field == C_STORE_RQ) || is_some c.affected_instance)

-- Lawful elements say this command. Other elements, and the group length, say nothing.
pub record Says (es : List Element) (c : Command) : Type 0 where
  pub lawful : list_all is_lawful es ≡ true
  pub affected_class : uid_of es AFFECTED_SOP_CLASS_UID ≡ c.affected_class
  pub field : number_of es COMMAND_FIELD ≡ Some c.field
  pub message_id : number_of es MESSAGE_ID ≡ c.message_id
  pub responded_to : number_of es MESSAGE_ID_BEING_RESPONDED_TO ≡ c.responded_to
  pub priority : number_of es PRIORITY ≡ c.priority
  pub data_set_type : number_of es COMMAND_DATA_SET_TYPE ≡ Some c.data_set_type
  pub status : number_of es STATUS ≡ c.status
  pub affected_instance : uid_of es AFFECTED_SOP_INSTANCE_UID ≡ c.affected_instance
  pub remaining : number_of es NUMBER_OF_REMAINING_SUBOPERATIONS ≡ c.remaining
  pub completed : number_of es NUMBER_OF_COMPLETED_SUBOPERATIONS ≡ c.completed
  pub failed : number_of es NUMBER_OF_FAILED_SUBOPERATIONS ≡ c.failed
  pub warning : number_of es NUMBER_OF_WARNING_SUBOPERATIONS ≡ c.warning
  pub complete : is_complete c ≡ true

-- The whole text spells these elements.
abbrev pub SpellsElements : List ℕ → List Element → Type 0
SpellsElements text es = AreElements None es × (text ≡ text_of es)

-- The whole text spells this command.
abbrev pub Spells : List ℕ → Command → Type 0
Spells text c = (es : List Element) × SpellsElements text es × Says es c

-- ---- the elements that are written

-- a number in two bytes, where there is one
abbrev pub number_field : Option ℕ → Option (List ℕ)
number_field n = option_map (to_le_bytes w16) n

-- a UID padded to even length, where there is one
abbrev pub uid_field : Option (List ℕ) → Option (List ℕ)
uid_field uid = option_map padded uid

-- the fields by ascending tag, each with its value where the command has it
abbrev pub fields_of : Command → List (ℕ × Option (List ℕ))
fields_of c =
    (AFFECTED_SOP_CLASS_UID, uid_field c.affected_class)
    ∷ (COMMAND_FIELD, number_field (Some c.field))
    ∷ (MESSAGE_ID, number_field c.message_id)
    ∷ (MESSAGE_ID_BEING_RESPONDED_TO, number_field c.responded_to)
    ∷ (PRIORITY, number_field c.priority)
    ∷ (COMMAND_DATA_SET_TYPE, number_field (Some c.data_set_type))
    ∷ (STATUS, number_field c.status)
    ∷ (AFFECTED_SOP_INSTANCE_UID, uid_field c.affected_instance)
    ∷ (NUMBER_OF_REMAINING_SUBOPERATIONS, number_field c.remaining)
    ∷ (NUMBER_OF_COMPLETED_SUBOPERATIONS, number_field c.completed)
    ∷ (NUMBER_OF_FAILED_SUBOPERATIONS, number_field c.failed)
    ∷ (NUMBER_OF_WARNING_SUBOPERATIONS, number_field c.warning)
    ∷ []

-- the element of a field that has a value
abbrev pub field_elements : ℕ → Option (List ℕ) → List Element
field_elements tag None = []
field_elements tag (Some value) = record { tag = tag; value = value } ∷ []

abbrev pub elements_of : List (ℕ × Option (List ℕ)) → List Element
elements_of [] = []
elements_of (field ∷ fields) = field_elements field.0 field.1 ++ elements_of fields

-- what stands behind the group length
unfoldable pub fields_text : Command → List ℕ
fields_text c = text_of (elements_of (fields_of c))

-- the group length, which counts what stands behind it, and then the fields
abbrev pub group_length : Command → Element
group_length c = record { tag = COMMAND_GROUP_LENGTH; value = to_le_bytes w32 (length (fields_text c)) }

abbrev pub command_text : Command → List ℕ
command_text c = element_text (group_length c) ++ fields_text c

-- what some text spells
pub record IsCommand (c : Command) : Type 0 where
  pub affected_class : IfSome c.affected_class IsUid
  pub affected_instance : IfSome c.affected_instance IsUid
  pub complete : is_complete c ≡ true

-- Each number fits its two bytes, as its type keeps.
pub record FitsTwoBytes (c : Command) : Type 0 where
  pub field : c.field < 2 ^ 16
  pub data_set_type : c.data_set_type < 2 ^ 16
  pub message_id : IfSome c.message_id (λ n. n < 2 ^ 16)
  pub responded_to : IfSome c.responded_to (λ n. n < 2 ^ 16)
  pub priority : IfSome c.priority (λ n. n < 2 ^ 16)
  pub status : IfSome c.status (λ n. n < 2 ^ 16)
  pub remaining : IfSome c.remaining (λ n. n < 2 ^ 16)
  pub completed : IfSome c.completed (λ n. n < 2 ^ 16)
  pub failed : IfSome c.failed (λ n. n < 2 ^ 16)
  pub warning : IfSome c.warning (λ n. n < 2 ^ 16)

-- UIDs are no longer than a command set is, so that the group length has room in its four bytes.
pub record HasRoom (c : Command) : Type 0 where
  pub affected_class : IfSome c.affected_class (λ uid. length uid ≤ LONGEST_COMMAND)
  pub affected_instance : IfSome c.affected_instance (λ uid. length uid ≤ LONGEST_COMMAND)

-- Without a data set this is the type.
abbrev pub announces : Command → Bool
announces c = not (c.data_set_type == NO_DATA_SET)
