-- What is written spells its command.
use Rattle.std.proofs.Common.{◌≡◌, ℕ, suc, ◌+◌, ◌-◌, ◌*◌, ◌/◌, ◌%◌, ◌^◌, ◌<◌, ◌≤◌, Bool, true, false, not, List, []}
use Rattle.std.proofs.Common.{◌∷◌, ◌++◌, length, Option, Some, None, Result, Ok, Err, refl, sym, ap, subst, ◌∙◌}
use Rattle.std.proofs.Common.{append_assoc, length-append, arith, lit<, lit≤}
use Rattle.std.specs.Prelude.{IfSome, IfOk, OnOk, ◌==◌, option_and_then, if◌then◌else◌}
use Rattle.std.specs.Global.{Vec}
use Rattle.std.specs.declared.alloc.AllocError.{AllocError}
use Rattle.std.specs.Option.{option_map}
use Rattle.std.specs.List.{list_all, prefix_len, suffix_len}
use Rattle.std.specs.Int.{w16, w32, to_le_bytes}
use Rattle.std.proofs.lemmas.Bool.{ltb-true}
use Rattle.std.proofs.lemmas.List.{append-nil, reverse-append, take_at}
use Rattle.std.proofs.lemmas.List.Concat.{flat_map-cons, flat_map-append}
use Rattle.std.proofs.lemmas.Nat.{from_le_bytes-to_le_bytes_2}
use Rattle.dimse.specs.declared.command.Command.{Command}
use Rattle.dimse.specs.declared.command.TheConstants.{LONGEST_COMMAND}
use Rattle.dictionary.specs.declared.commands.TheConstants.{COMMAND_GROUP_LENGTH, AFFECTED_SOP_CLASS_UID, COMMAND_FIELD}
use Rattle.dictionary.specs.declared.commands.TheConstants.{MESSAGE_ID, MESSAGE_ID_BEING_RESPONDED_TO, PRIORITY}
use Rattle.dictionary.specs.declared.commands.TheConstants.{COMMAND_DATA_SET_TYPE, STATUS, AFFECTED_SOP_INSTANCE_UID}
use Rattle.dictionary.specs.declared.commands.TheConstants.{NUMBER_OF_REMAINING_SUBOPERATIONS}
use Rattle.dictionary.specs.declared.commands.TheConstants.{NUMBER_OF_COMPLETED_SUBOPERATIONS}
use Rattle.dictionary.specs.declared.commands.TheConstants.{NUMBER_OF_FAILED_SUBOPERATIONS}
use Rattle.dictionary.specs.declared.commands.TheConstants.{NUMBER_OF_WARNING_SUBOPERATIONS}
use Rattle.octets.specs.Padding.{is_padding, without_padding}
use Rattle.dimse.specs.Uid.{IsUid, padded}
use Rattle.octets.specs.Graphic.{is_graphic}
use Rattle.octets.proofs.PaddingLaws.{bare_stays}
use Rattle.dictionary.specs.Tags.{is_above}
use Rattle.dimse.specs.Elements.{Element, element_text, text_of, AreElements, value_of}
use Rattle.dimse.specs.Command.{is_lawful, is_number_tag, is_uid_tag, number_from, number_of, uid_of, Says, Spells}
use Rattle.dimse.specs.Command.{number_field, uid_field, fields_of, field_elements, elements_of, fields_text}
use Rattle.dimse.specs.Command.{group_length, command_text, FitsTwoBytes, IsCommand, HasRoom}

-- ---- texts of fields

abbrev pub Field : Type 0
Field = ℕ × Option (List ℕ)

abbrev pub field_text : Field → List ℕ
field_text f = text_of (field_elements f.0 f.1)

pub text-fields : (f : Field) (fs : List Field) → text_of (elements_of (f ∷ fs)) ≡ field_text f ++ text_of
    (elements_of fs)
text-fields f fs = flat_map-append element_text (field_elements f.0 f.1) (elements_of fs)

-- one field after the other
abbrev pub appended : List ℕ → List Field → List ℕ
appended out [] = out
appended out (f ∷ fs) = appended (out ++ field_text f) fs

pub appended-is : (out : List ℕ) (fs : List Field) → appended out fs ≡ out ++ text_of (elements_of fs)
appended-is out [] = sym (append-nil out)
appended-is out (f ∷ fs) = appended-is (out ++ field_text f) fs ∙ append_assoc out (field_text f)
    (text_of (elements_of fs)) ∙ ap (λ (t : List ℕ). out ++ t) (sym (text-fields f fs))

-- each value is shorter than all
abbrev pub AreShort : ℕ → List Field → Type 0
AreShort n [] = Unit {0}
AreShort n (f ∷ fs) = IfSome f.1 (λ v. length v ≤ n) × AreShort n fs

short_field : (f : Field) (n : ℕ) → length (field_text f) ≤ n → IfSome f.1 (λ v. length v ≤ n)
short_field (tag, None) n le = tt
short_field (tag, Some v) n le =
    let one : element_text (record { tag = tag; value = v }) ++ [] ≡ element_text (record { tag = tag; value = v }) =
    append-nil (element_text (record { tag = tag; value = v })) in
    omega (
      arith,
      le,
      ap length (flat_map-cons element_text (record { tag = tag; value = v }) []),
      ap length one,
      length-append (to_le_bytes w16 (tag / 65536) ++ to_le_bytes w16 (tag % 65536))
          (to_le_bytes w32 (length v) ++ v),
      length-append (to_le_bytes w32 (length v)) v,
    )

are_short : (fs : List Field) (n : ℕ) → length (text_of (elements_of fs)) ≤ n → AreShort n fs
are_short [] n le = tt
are_short (f ∷ fs) n le =
    let both = ap length (text-fields f fs) ∙ length-append (field_text f) (text_of (elements_of fs)) in
    (short_field f n (omega (arith, both)), are_short fs n (omega (arith, both)))

pub fields_short : (c : Command) → AreShort (length (fields_text c)) (fields_of c)
unfolding fields_text
fields_short c = are_short (fields_of c) _ (omega arith)

below : (o : Option (List ℕ)) (n m : ℕ) → n < m → IfSome o (λ v. length v ≤ n) → IfSome o (λ v. length v < m)
below None n m lt h = tt
below (Some v) n m lt h = omega (arith, h)

-- ---- room

abbrev AreAtMost : ℕ → List Field → Type 0
AreAtMost n [] = Unit {0}
AreAtMost n (f ∷ fs) = IfSome f.1 (λ v. length v ≤ n) × AreAtMost n fs

field_at_most : (f : Field) (n : ℕ) → IfSome f.1 (λ v. length v ≤ n) → length (field_text f) ≤ n + 8
field_at_most (tag, None) n le = omega arith
field_at_most (tag, Some v) n le =
    let one : element_text (record { tag = tag; value = v }) ++ [] ≡ element_text (record { tag = tag; value = v }) =
    append-nil (element_text (record { tag = tag; value = v })) in
    omega (
      arith,
      le,
      ap length (flat_map-cons element_text (record { tag = tag; value = v }) []),
      ap length one,
      length-append (to_le_bytes w16 (tag / 65536) ++ to_le_bytes w16 (tag % 65536))
          (to_le_bytes w32 (length v) ++ v),
      length-append (to_le_bytes w32 (length v)) v,
    )

fields_at_most : (fs : List Field) (n k : ℕ) → k ≡ n + 8 → AreAtMost n fs → length (text_of (elements_of fs)) ≤ length
    fs * k
fields_at_most [] n k is are = omega arith
fields_at_most (f ∷ fs) n k is are =
    let both = ap length (text-fields f fs) ∙ length-append (field_text f) (text_of (elements_of fs)) in
    let here = field_at_most f n are.0 in
    let rest = fields_at_most fs n k is are.1 in
    let product : suc (length fs) * k ≡ k + length fs * k = grind arith in
    omega (arith, both, here, rest, is, product)

number_at_most : (o : Option ℕ) → IfSome (number_field o) (λ v. length v ≤ 16385)
number_at_most None = tt
number_at_most (Some n) = lit≤ tt

padded_at_most : (uid : List ℕ) (b : Bool) → length uid ≤ LONGEST_COMMAND → length (if b then uid else uid ++ 0 ∷ []) ≤
    16385
padded_at_most uid true le = omega arith
padded_at_most uid false le = omega (arith, length-append uid (0 ∷ []))

uid_at_most : (o : Option (List ℕ)) → IfSome o (λ uid. length uid ≤ LONGEST_COMMAND) → IfSome (uid_field o)
    (λ v. length v ≤ 16385)
uid_at_most None le = tt
uid_at_most (Some uid) le = padded_at_most uid (length uid % 2 == 0) le

at_most : (c : Command) → HasRoom c → AreAtMost 16385 (fields_of c)
at_most c room = (
  uid_at_most c.affected_class room.affected_class,
  (
    number_at_most (Some c.field),
    (
      number_at_most c.message_id,
      (
        number_at_most c.responded_to,
        (
          number_at_most c.priority,
          (
            number_at_most (Some c.data_set_type),
            (
              number_at_most c.status,
              (
                uid_at_most c.affected_instance room.affected_instance,
                (
                  number_at_most c.remaining,
                  (
                    number_at_most c.completed,
                    (
                      number_at_most c.failed,
                      (number_at_most c.warning, tt),
                    ),
                  ),
                ),
              ),
            ),
          ),
        ),
      ),
    ),
  ),
)

pub text_fits : (c : Command) → HasRoom c → length (fields_text c) < 2 ^ 32
unfolding fields_text
text_fits c room = omega (arith, fields_at_most (fields_of c) 16385 16393 refl (at_most c room))

pub fields_appended : (out : List ℕ) (c : Command) → appended out (fields_of c) ≡ out ++ fields_text c
unfolding fields_text
fields_appended out c = appended-is out (fields_of c)

-- ---- what the elements of fields say

-- tags ascend
abbrev pub Ascend : Option ℕ → List Field → Type 0
Ascend previous [] = Unit {0}
Ascend previous (f ∷ fs) = (is_above previous f.0 ≡ true) × (f.0 < 2 ^ 32) × Ascend (Some f.0) fs

-- each value has room
abbrev pub HaveRoom : List Field → Type 0
HaveRoom [] = Unit {0}
HaveRoom (f ∷ fs) = IfSome f.1 (λ v. length v < 2 ^ 32) × HaveRoom fs

above_lower : (previous : Option ℕ) (tag next : ℕ) → is_above previous tag ≡ true → is_above (Some tag) next ≡ true
    → is_above previous next ≡ true
above_lower None tag next a b = refl
above_lower (Some p) tag next a b = grind (arith, a, b)

are_lower : (previous : Option ℕ) (tag : ℕ) (es : List Element) → is_above previous tag ≡ true → AreElements (Some tag)
    es → AreElements previous es
are_lower previous tag [] above are = tt
are_lower previous tag (e ∷ es) above are =
    (record { tag = are.0.tag; size = are.0.size; above = above_lower previous tag e.tag above are.0.above }, are.1)

field_are : (previous : Option ℕ) (tag : ℕ) (o : Option (List ℕ)) (es : List Element) → is_above previous tag ≡ true
    → tag < 2 ^ 32 → IfSome o (λ v. length v < 2 ^ 32) → AreElements (Some tag) es
    → AreElements previous (field_elements tag o ++ es)
field_are previous tag None es above lt size are = are_lower previous tag es above are
field_are previous tag (Some v) es above lt size are = (record { tag = lt; size = size; above = above }, are)

pub fields_are : (previous : Option ℕ) (fs : List Field) → Ascend previous fs → HaveRoom fs
    → AreElements previous (elements_of fs)
fields_are previous [] ascend room = tt
fields_are previous (f ∷ fs) ascend room = field_are previous f.0 f.1 (elements_of fs) ascend.0 ascend.1
    room.0 (fields_are (Some f.0) fs ascend.2 room.1)

-- the value of the field with this tag
abbrev pub lookup : List Field → ℕ → Option (List ℕ)
lookup [] tag = None
lookup (f ∷ fs) tag = if f.0 == tag then f.1 else lookup fs tag

value_here : (tag t : ℕ) (v : List ℕ) (es : List Element) (b : Bool) → (tag == t) ≡ b
    → value_of (record { tag = tag; value = v } ∷ es) t ≡ (if b then Some v else value_of es t)
value_here tag t v es true is = rw is refl
value_here tag t v es false is = rw is refl

not_lower : (p tag t : ℕ) → t ≤ p → is_above (Some p) tag ≡ true → (tag == t) ≡ false
not_lower p tag t le above = grind (arith, above)

-- where all tags are above, there is no value
none_above : (p t : ℕ) (fs : List Field) → t ≤ p → Ascend (Some p) fs → value_of (elements_of fs) t ≡ None
none_above p t [] le ascend = refl
none_above p t ((tag, None) ∷ fs) le ascend = none_above tag t fs (omega (arith, ltb-true p tag ascend.0)) ascend.2
none_above p t ((tag, Some v) ∷ fs) le ascend =
    value_here tag t v (elements_of fs) false (not_lower p tag t le ascend.0)
    ∙ none_above tag t fs (omega (arith, ltb-true p tag ascend.0)) ascend.2

value_field : (tag t : ℕ) (o : Option (List ℕ)) (es : List Element) (b : Bool) → (tag == t) ≡ b
    → (b ≡ true → value_of es t ≡ None) → value_of (field_elements tag o ++ es) t ≡ (if b then o else value_of es t)
value_field tag t None es true is none = none refl
value_field tag t None es false is none = refl
value_field tag t (Some v) es b is none = value_here tag t v es b is

same_tag : (tag t : ℕ) → (tag == t) ≡ true → t ≤ tag
same_tag tag t e = grind (arith, e)

pub value-fields : (previous : Option ℕ) (fs : List Field) (t : ℕ) → Ascend previous fs → value_of (elements_of fs)
    t ≡ lookup fs t
value-fields previous [] t ascend = refl
value-fields previous (f ∷ fs) t ascend =
    value_field f.0 t f.1 (elements_of fs) (f.0 == t) refl (λ e. none_above f.0 t fs (same_tag f.0 t e) ascend.2)
    ∙ ap (λ (o : Option (List ℕ)). if f.0 == t then f.1 else o) (value-fields (Some f.0) fs t ascend.2)

-- ---- lawful fields

abbrev pub AreLawful : List Field → Type 0
AreLawful [] = Unit {0}
AreLawful (f ∷ fs) = IfSome f.1 (λ v. is_lawful (record { tag = f.0; value = v }) ≡ true) × AreLawful fs

pub fields_lawful : (fs : List Field) → AreLawful fs → list_all is_lawful (elements_of fs) ≡ true
fields_lawful [] are = refl
fields_lawful ((tag, None) ∷ fs) are = fields_lawful fs are.1
fields_lawful ((tag, Some v) ∷ fs) are = rw are.0 (fields_lawful fs are.1)

number_lawful : (tag : ℕ) (o : Option ℕ) → is_number_tag tag ≡ true → IfSome (number_field o)
    (λ v. is_lawful (record { tag = tag; value = v }) ≡ true)
unfolding is_lawful
number_lawful tag None is = tt
number_lawful tag (Some n) is = rw is refl

-- ---- UIDs

-- a 00 more at the end is dropped
trimmed_zero : (uid : List ℕ) → suffix_len is_padding uid ≡ 0 → without_padding (uid ++ 0 ∷ []) ≡ uid
trimmed_zero uid bare =
    let one : suffix_len is_padding (uid ++ 0 ∷ []) ≡ 1 = ap (prefix_len is_padding) (reverse-append uid (0 ∷ []))
    ∙ ap (λ (n : ℕ). 1 + n) bare in
    let len : length (uid ++ 0 ∷ []) - 1 ≡ length uid = omega (arith, length-append uid (0 ∷ [])) in
    rw (one, len) (take_at uid (0 ∷ []) (length uid) refl)

padded_by : (uid : List ℕ) (b : Bool) → suffix_len is_padding uid ≡ 0
    → without_padding (if b then uid else uid ++ 0 ∷ []) ≡ uid
padded_by uid true bare = bare_stays uid bare
padded_by uid false bare = trimmed_zero uid bare

pub without_padding-padded : (uid : List ℕ) → IsUid uid → without_padding (padded uid) ≡ uid
without_padding-padded uid is = padded_by uid (length uid % 2 == 0) is.bare

uid_lawful : (tag : ℕ) (o : Option (List ℕ)) → is_number_tag tag ≡ false → is_uid_tag tag ≡ true → IfSome o IsUid
    → IfSome (uid_field o) (λ v. is_lawful (record { tag = tag; value = v }) ≡ true)
unfolding is_lawful
uid_lawful tag None not is uid = tt
uid_lawful tag (Some u) not is uid = rw (not, is) (ap (list_all is_graphic) (without_padding-padded u uid)
    ∙ uid.graphic)

uid_again : (o : Option (List ℕ)) → IfSome o IsUid → option_map without_padding (uid_field o) ≡ o
uid_again None uid = refl
uid_again (Some u) uid = ap (λ (x : List ℕ). Some x) (without_padding-padded u uid)

number_again : (o : Option ℕ) → IfSome o (λ n. n < 2 ^ 16) → option_and_then number_from (number_field o) ≡ o
number_again None fits = refl
number_again (Some n) fits = ap (λ (x : ℕ). Some x) (from_le_bytes-to_le_bytes_2 n fits)

-- ---- the fields of a command

ascend : (c : Command) → Ascend (Some COMMAND_GROUP_LENGTH) (fields_of c)
ascend c = (
  refl,
  lit< tt,
  (
    refl,
    lit< tt,
    (
      refl,
      lit< tt,
      (
        refl,
        lit< tt,
        (
          refl,
          lit< tt,
          (
            refl,
            lit< tt,
            (
              refl,
              lit< tt,
              (
                refl,
                lit< tt,
                (refl, lit< tt, (refl, lit< tt, (refl, lit< tt, (refl, lit< tt, tt)))),
              ),
            ),
          ),
        ),
      ),
    ),
  ),
)

have_room : (fs : List Field) (n : ℕ) → n < 2 ^ 32 → AreShort n fs → HaveRoom fs
have_room [] n lt short = tt
have_room (f ∷ fs) n lt short = (below f.1 n (2 ^ 32) lt short.0, have_room fs n lt short.1)

lawful : (c : Command) → IsCommand c → AreLawful (fields_of c)
lawful c is = (
  uid_lawful AFFECTED_SOP_CLASS_UID c.affected_class refl refl is.affected_class,
  (
    number_lawful COMMAND_FIELD (Some c.field) refl,
    (
      number_lawful MESSAGE_ID c.message_id refl,
      (
        number_lawful MESSAGE_ID_BEING_RESPONDED_TO c.responded_to refl,
        (
          number_lawful PRIORITY c.priority refl,
          (
            number_lawful COMMAND_DATA_SET_TYPE (Some c.data_set_type) refl,
            (
              number_lawful STATUS c.status refl,
              (
                uid_lawful AFFECTED_SOP_INSTANCE_UID c.affected_instance refl refl is.affected_instance,
                (
                  number_lawful NUMBER_OF_REMAINING_SUBOPERATIONS c.remaining refl,
                  (
                    number_lawful NUMBER_OF_COMPLETED_SUBOPERATIONS c.completed refl,
                    (
                      number_lawful NUMBER_OF_FAILED_SUBOPERATIONS c.failed refl,
                      (
                        number_lawful NUMBER_OF_WARNING_SUBOPERATIONS c.warning refl,
                        tt,
                      ),
                    ),
                  ),
                ),
              ),
            ),
          ),
        ),
      ),
    ),
  ),
)

abbrev written : Command → List Element
written c = group_length c ∷ elements_of (fields_of c)

number_written : (c : Command) (t : ℕ) (o : Option ℕ) → value_of (written c) t ≡ value_of (elements_of (fields_of c)) t
    → lookup (fields_of c) t ≡ number_field o → IfSome o (λ n. n < 2 ^ 16) → number_of (written c) t ≡ o
number_written c t o behind is fits = ap (option_and_then number_from)
    (behind ∙ value-fields (Some COMMAND_GROUP_LENGTH) (fields_of c) t (ascend c) ∙ is) ∙ number_again o fits

uid_written : (c : Command) (t : ℕ) (o : Option (List ℕ)) → value_of (written c) t ≡ value_of
    (elements_of (fields_of c)) t → lookup (fields_of c) t ≡ uid_field o → IfSome o IsUid → uid_of (written c) t ≡ o
uid_written c t o behind is uid = ap (option_map without_padding) (behind ∙ value-fields (Some COMMAND_GROUP_LENGTH)
    (fields_of c) t (ascend c) ∙ is) ∙ uid_again o uid

group_lawful : (c : Command) → is_lawful (group_length c) ≡ true
unfolding is_lawful
group_lawful c = refl

says_written : (c : Command) → IsCommand c → FitsTwoBytes c → Says (written c) c
says_written c is fits = record {
  lawful = rw (group_lawful c) (fields_lawful (fields_of c) (lawful c is));
  affected_class = uid_written c AFFECTED_SOP_CLASS_UID c.affected_class refl refl is.affected_class;
  field = number_written c COMMAND_FIELD (Some c.field) refl refl fits.field;
  message_id = number_written c MESSAGE_ID c.message_id refl refl fits.message_id;
  responded_to = number_written c MESSAGE_ID_BEING_RESPONDED_TO c.responded_to refl refl fits.responded_to;
  priority = number_written c PRIORITY c.priority refl refl fits.priority;
  data_set_type = number_written c COMMAND_DATA_SET_TYPE (Some c.data_set_type) refl refl fits.data_set_type;
  status = number_written c STATUS c.status refl refl fits.status;
  affected_instance = uid_written c AFFECTED_SOP_INSTANCE_UID c.affected_instance refl refl is.affected_instance;
  remaining = number_written c NUMBER_OF_REMAINING_SUBOPERATIONS c.remaining refl refl fits.remaining;
  completed = number_written c NUMBER_OF_COMPLETED_SUBOPERATIONS c.completed refl refl fits.completed;
  failed = number_written c NUMBER_OF_FAILED_SUBOPERATIONS c.failed refl refl fits.failed;
  warning = number_written c NUMBER_OF_WARNING_SUBOPERATIONS c.warning refl refl fits.warning;
  complete = is.complete;
}

are_written : (c : Command) → HasRoom c → AreElements None (written c)
are_written c room = (
  record { tag = lit< tt; size = lit< tt; above = refl },
  fields_are (Some COMMAND_GROUP_LENGTH)
      (fields_of c) (ascend c) (have_room (fields_of c) (length (fields_text c)) (text_fits c room) (fields_short c)),
)

text-written : (c : Command) → command_text c ≡ text_of (written c)
unfolding fields_text
text-written c = sym (flat_map-cons element_text (group_length c) (elements_of (fields_of c)))

pub spells_written : (c : Command) → IsCommand c → FitsTwoBytes c → HasRoom c → Spells (command_text c) c
spells_written c is fits room = (written c, (are_written c room, text-written c), says_written c is fits)

-- what a call wrote
pub written_again : (c : Command) (r : Result (Vec ℕ) AllocError) → IsCommand c → HasRoom c
    → IfOk r (λ text. text.items ≡ command_text c) → OnOk r (FitsTwoBytes c) → IfOk r (λ text. Spells text.items c)
written_again c (Ok text) is room exact fits = subst (λ (t : List ℕ). Spells t c) (sym exact)
    (spells_written c is fits room)
written_again c (Err e) is room exact fits = tt
