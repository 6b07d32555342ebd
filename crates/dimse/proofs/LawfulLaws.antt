-- What a text spells is lawful, and its UIDs are no longer than the text.
use Rattle.std.proofs.Common.{◌≡◌, ℕ, ◌+◌, ◌≤◌, Bool, true, false, cond, List, [], ◌∷◌, ◌++◌}
use Rattle.std.proofs.Common.{length, Option, Some, None, Result, Ok, Err, refl, ap, subst}
use Rattle.std.proofs.Common.{◌∙◌, arith}
use Rattle.std.specs.Prelude.{IfOk, IfSome, find, ◌==◌}
use Rattle.std.specs.Option.{option_map}
use Rattle.std.specs.List.{list_all}
use Rattle.std.specs.Int.{w32, to_le_bytes}
use Rattle.std.proofs.lemmas.List.{length-append}
use Rattle.std.proofs.lemmas.List.Concat.{flat_map-cons}
use Rattle.std.proofs.lemmas.Bool.{and_parts as and_true}
use Rattle.dimse.specs.declared.command.Command.{Command}
use Rattle.dimse.specs.declared.command.TheConstants.{LONGEST_COMMAND}
use Rattle.dictionary.specs.declared.commands.TheConstants.{AFFECTED_SOP_CLASS_UID, AFFECTED_SOP_INSTANCE_UID}
use Rattle.dimse.specs.declared.fault.DimseFault.{DimseFault}
use Rattle.octets.specs.Padding.{without_padding}
use Rattle.octets.proofs.PaddingLaws.{bare, bare_is_no_longer}
use Rattle.dimse.specs.Uid.{IsUid}
use Rattle.octets.specs.Graphic.{is_graphic}
use Rattle.dictionary.specs.Tags.{tag_text}
use Rattle.dimse.specs.Elements.{Element, element_text, text_of, value_of}
use Rattle.dimse.specs.Command.{is_lawful, is_number_tag, is_uid_tag, Says, IsCommand, HasRoom}

-- the element with a value
record Found (es : List Element) (tag : ℕ) (v : List ℕ) : Type 0 where
  element : Element
  has_tag : element.tag ≡ tag
  has_value : element.value ≡ v
  is_lawful_one : is_lawful element ≡ true
  within : length v ≤ length (text_of es)

element_length : (e : Element) (es : List Element) → length (text_of (e ∷ es)) ≡ 8 + length e.value +
    length (text_of es)
element_length e es = omega (
  arith,
  ap length (flat_map-cons element_text e es),
  length-append (element_text e)
      (text_of es),
  length-append (tag_text e.tag) (to_le_bytes w32 (length e.value) ++ e.value),
  length-append
      (to_le_bytes w32 (length e.value)) e.value,
)

value_is : (e : Element) (v : List ℕ) → Some e.value ≡ Some v → e.value ≡ v
value_is e v h = cc

found_at : (e : Element) (es : List Element) (tag : ℕ) (v : List ℕ) (b : Bool) → (e.tag == tag) ≡ b → is_lawful e ≡ true
    → (value_of es tag ≡ Some v → Found es tag v)
    → option_map (λ x. x.value) (cond b (Some e) (find (λ x. x.tag == tag) es)) ≡ Some v → Found (e ∷ es) tag v
found_at e es tag v true test lawful rest is =
    let here = value_is e v is in
    record {
      element = e;
      has_tag = grind (arith, test);
      has_value = here;
      is_lawful_one = lawful;
      within =
          omega (arith, element_length e es, ap length here);
    }
found_at e es tag v false test lawful rest is =
    let f = rest is in
    record {
      element = f.element;
      has_tag = f.has_tag;
      has_value = f.has_value;
      is_lawful_one = f.is_lawful_one;
      within = omega (arith, element_length e es, f.within);
    }

found : (es : List Element) (tag : ℕ) (v : List ℕ) → list_all is_lawful es ≡ true → value_of es tag ≡ Some v
    → Found es tag v
found [] tag v lawful is = absurd cc
found (e ∷ es) tag v lawful is =
    let both = and_true (is_lawful e) (list_all is_lawful es) lawful in
    found_at e es tag v (e.tag == tag) refl both.0 (found es tag v both.1) is

uid_value : (tag : ℕ) (v : List ℕ) (a b : Bool) → a ≡ false → b ≡ true → cond a (length v == 2)
    (cond b (list_all is_graphic (without_padding v)) true) ≡ true → list_all is_graphic (without_padding v) ≡ true
uid_value tag v true b p q h = absurd cc
uid_value tag v false true p q h = h
uid_value tag v false false p q h = absurd cc

graphic : (e : Element) (tag : ℕ) (v : List ℕ) → is_number_tag tag ≡ false → is_uid_tag tag ≡ true → e.tag ≡ tag
    → e.value ≡ v → is_lawful e ≡ true → list_all is_graphic (without_padding v) ≡ true
unfolding is_lawful
graphic e tag v p q t w lawful =
    uid_value tag v (is_number_tag e.tag) (is_uid_tag e.tag) (ap is_number_tag t ∙ p) (ap is_uid_tag t ∙ q)
    (subst (λ (x : List ℕ). cond (is_number_tag e.tag) (length x == 2)
    (cond (is_uid_tag e.tag) (list_all is_graphic (without_padding x)) true) ≡ true) w lawful)

abbrev ShortIn : List Element → List ℕ → Type 0
ShortIn es uid = IsUid uid × (length uid ≤ length (text_of es))

uid_at : (es : List Element) (tag : ℕ) (o w : Option (List ℕ)) → list_all is_lawful es ≡ true
    → is_number_tag tag ≡ false → is_uid_tag tag ≡ true → value_of es tag ≡ w → option_map without_padding w ≡ o
    → IfSome o (ShortIn es)
uid_at es tag o None lawful p q is uid = subst (λ (x : Option (List ℕ)). IfSome x (ShortIn es)) uid tt
uid_at es tag o (Some v) lawful p q is uid =
    let f = found es tag v lawful is in
    subst (λ (x : Option (List ℕ)). IfSome x (ShortIn es)) uid (
      record { graphic = graphic f.element tag v p q f.has_tag f.has_value f.is_lawful_one; bare = bare v },
      omega (arith, f.within, bare_is_no_longer v),
    )

first_of : (es : List Element) (o : Option (List ℕ)) → IfSome o (ShortIn es) → IfSome o IsUid
first_of es None h = tt
first_of es (Some uid) h = h.0

second_of : (es : List Element) (o : Option (List ℕ)) → length (text_of es) ≤ LONGEST_COMMAND → IfSome o (ShortIn es)
    → IfSome o (λ uid. length uid ≤ LONGEST_COMMAND)
second_of es None le h = tt
second_of es (Some uid) le h = omega (arith, h.1)

class_in : (es : List Element) (c : Command) → Says es c → IfSome c.affected_class (ShortIn es)
class_in es c says = uid_at es AFFECTED_SOP_CLASS_UID c.affected_class (value_of es AFFECTED_SOP_CLASS_UID) says.lawful
    refl refl refl says.affected_class

instance_in : (es : List Element) (c : Command) → Says es c → IfSome c.affected_instance (ShortIn es)
instance_in es c says = uid_at es AFFECTED_SOP_INSTANCE_UID c.affected_instance (value_of es AFFECTED_SOP_INSTANCE_UID)
    says.lawful refl refl refl says.affected_instance

pub lawful_read : (es : List Element) (r : Result Command DimseFault) → IfOk r (Says es) → IfOk r IsCommand
lawful_read es (Ok c) says = record {
  affected_class = first_of es c.affected_class (class_in es c says);
  affected_instance = first_of es c.affected_instance (instance_in es c says);
  complete = says.complete;
}
lawful_read es (Err e) says = tt

pub room_read : (es : List Element) (r : Result Command DimseFault) → length (text_of es) ≤ LONGEST_COMMAND
    → IfOk r (Says es) → IfOk r HasRoom
room_read es (Ok c) le says = record {
  affected_class = second_of es c.affected_class le (class_in es c says);
  affected_instance = second_of es c.affected_instance le (instance_in es c says);
}
room_read es (Err e) le says = tt
