-- Which of its two texts a value has.
use Rattle.std.proofs.Common.{◌≡◌, ℕ, List, refl, Bool, true, false}
use Rattle.std.specs.Char.{encode_utf8}
use Rattle.std.specs.List.{flat_map}
use Rattle.std.specs.Str.{is_utf8, IsUtf8}
use Rattle.std.proofs.lemmas.Str.{is_utf8-from_IsUtf8, IsUtf8-from_is_utf8}
use Rattle.archive_page.specs.Characters.{text_of}

pub utf8_stays : (value : List ℕ) → is_utf8 value ≡ true → text_of value ≡ value
unfolding text_of
utf8_stays value h = rw h refl

pub is_own_text : (value : List ℕ) → IsUtf8 value → text_of value ≡ value
is_own_text value h = utf8_stays value (is_utf8-from_IsUtf8 value h)

pub is_latin_1 : (value : List ℕ) → ¬ (IsUtf8 value) → text_of value ≡ flat_map encode_utf8 value
unfolding text_of
is_latin_1 value other = rw (refuted (is_utf8 value) refl) refl
  where
    refuted : (b : Bool) → is_utf8 value ≡ b → is_utf8 value ≡ false
    refuted true h = absurd (other (IsUtf8-from_is_utf8 value h))
    refuted false h = h
