-- What a correction of fewer parts tells of those that it has.
use Rattle.std.proofs.Common.{◌≡◌, refl, ap, ◌∙◌, ℕ, List, [], Bool, true, false, ◌&&◌}
use mathlib.Core.Bool.{and-true as only_first}
use Rattle.dictionary.specs.Elements.{role_in_table}
use Rattle.operation.specs.declared.target.Target.{Target}
use Rattle.operation.specs.declared.target.Target.TheVariants.{Study, Patient, Series}
use Rattle.operation.specs.Corrections.{is_correction, is_key, is_tag_for, is_plain}
use Rattle.command_words.specs.Parts.{tag_for}

-- of five tests the last three hold
first_two : (a b : Bool) → (a && b && true && true && true) ≡ (a && b)
first_two true true = refl
first_two true false = refl
first_two false b = refl

-- of five tests the last two hold
first_three : (a b c : Bool) → (a && b && c && true && true) ≡ (a && b && c)
first_three true true true = refl
first_three true true false = refl
first_three true false c = refl
first_three false b c = refl

-- A correction without a value is lawful where its key and its tag are.
valueless : (target : Target) (tag : ℕ) → is_correction (record {
  target = target;
  tag = tag;
  value = [];
  stamp = record { counter = 1; site = 1 };
}) ≡ (is_key target && is_tag_for target tag)
unfolding is_correction is_plain
valueless target tag = first_two (is_key target) (is_tag_for target tag)

tag_is : (target : Target) → is_tag_for target (tag_for target) ≡ true
unfolding role_in_table
tag_is (Study key) = refl
tag_is (Patient key) = refl
tag_is (Series key) = refl

-- With a tag that its target can have it is lawful where its key is.
pub key_alone : (target : Target) → is_correction (record {
  target = target;
  tag = tag_for target;
  value = [];
  stamp = record { counter = 1; site = 1 };
}) ≡ is_key target
key_alone target = valueless target (tag_for target) ∙ ap (λ b. is_key target && b) (tag_is target)
    ∙ only_first (is_key target)

-- With a lawful key it is lawful where its tag is.
pub tag_alone : (target : Target) (tag : ℕ) → is_key target ≡ true → is_correction (record {
  target = target;
  tag = tag;
  value = [];
  stamp = record { counter = 1; site = 1 };
}) ≡ is_tag_for target tag
tag_alone target tag key = valueless target tag ∙ ap (λ b. b && is_tag_for target tag) key

-- With a lawful key and a lawful tag a correction is lawful where its value is.
pub value_alone : (target : Target) (tag : ℕ) (value : List ℕ) → is_key target ≡ true → is_tag_for target tag ≡ true
    → is_correction (record { target = target; tag = tag; value = value; stamp = record { counter = 1; site = 1 } })
    ≡ is_plain value
unfolding is_correction
value_alone target tag value key lawful = first_three (is_key target) (is_tag_for target tag) (is_plain value)
    ∙ ap (λ b. b && is_tag_for target tag && is_plain value) key ∙ ap (λ b. b && is_plain value) lawful
