-- What the parser's getters read, by what was found.
use Rattle.std.proofs.Common.{◌≡◌, ◌∙◌, sym, ap, refl, ℕ, List, [], ◌∷◌, Bool, true, false, Option, Some, None}
use Rattle.std.proofs.Common.{Result, Ok, Err, length, nat_lt, lt-ltb, ltb-true, codes}
use Rattle.std.specs.Prelude.{option_map, option_and_then, unwrap_or}
use Rattle.std.specs.List.{list_all}
use Rattle.std.specs.Option.{option_map_or}
use Rattle.std.specs.Char.{digit_value}
use Rattle.std.specs.Str.{bytes_eq}
use Rattle.std.specs.Str.Parse.{AllDigits, ParsesUnsigned, ParsesBool, digits_value, without_leading_plus}
use Rattle.std.proofs.lemmas.Slice.Eq.{bytes_eq-Decides}
use Rattle.clap.specs.declared.parser.matches.ArgMatches.{ArgMatches}
use Rattle.clap.specs.Matches.{found_of, matched_of, first_value, one_text, raw_values, ReadsOne}
use Rattle.clap.proofs.WalkLemmas.{both, first_value-rows, one_text-rows, raw_values-rows}
use Rattle.command_line.specs.Found.{rows_in, given_at, texts_at, number_at, number_in, is_numeral, flag_at}

-- The first value of a name is its first text.
pub given_is : (found : ArgMatches) (name : List ℕ) → first_value (found_of found) name ≡ given_at (rows_in found) name
unfolding given_at
given_is found name = first_value-rows (found_of found) name

-- The values of a name are its texts.
pub texts_are : (found : ArgMatches) (name : List ℕ)
    → option_map raw_values (matched_of (found_of found) name) ≡ texts_at (rows_in found) name
unfolding texts_at
texts_are found name = raw_values-rows (found_of found) name

-- the test of digits passes decimal digits
digits_pass : (ds : List ℕ) → AllDigits 10 ds → list_all (λ d. nat_lt (digit_value d) 10) ds ≡ true
digits_pass [] h = refl
digits_pass (d ∷ ds) h = rw (lt-ltb (digit_value d) 10 h.0) (digits_pass ds h.1)

-- and what passes it is decimal digits
digits_from : (ds : List ℕ) → list_all (λ d. nat_lt (digit_value d) 10) ds ≡ true → AllDigits 10 ds
digits_from [] e = tt
digits_from (d ∷ ds) e =
    let parts = both _ _ e in
    (ltb-true _ _ parts.0, digits_from ds parts.1)

-- A text that is read as a number writes it, and one that is not writes none.
number_read : (E : Type 0) (text : List ℕ) (number : Option ℕ)
    → ReadsOne (ParsesUnsigned {E = E} 32 10) text number → number ≡ number_in text
number_read E text (Some n) h =
    let ds = without_leading_plus text in
    rw (lt-ltb 0 (length ds) h.0.0.0, digits_pass ds h.0.0.1, lt-ltb (digits_value 10 ds) 4294967296 h.0.1)
    (ap Some h.1)
number_read E text None h = go (is_numeral (without_leading_plus text)) refl
  where
    go : (b : Bool) → is_numeral (without_leading_plus text) ≡ b → None ≡ number_in text
    go false t = rw t refl
    go true t =
        let outer = both _ _ t in
        let inner = both _ _ outer.0 in
        absurd (h.1 ((ltb-true _ _ inner.0, digits_from (without_leading_plus text) inner.1), ltb-true _ _ outer.1))

-- The number that is read of a name is that of its first text.
pub number_is : (E : Type 0) (Gives : List ℕ → Result ℕ E → Type 0) (found : ArgMatches) (name : List ℕ)
    → (number : Option ℕ)
    → (one_text (found_of found) name ≡ None → number ≡ None)
    → ((text : List ℕ) → one_text (found_of found) name ≡ Some text → ReadsOne Gives text number)
    → ((text : List ℕ) (read : Result ℕ E) → Gives text read → ParsesUnsigned 32 10 text read)
    → number ≡ number_at (rows_in found) name
unfolding number_at
number_is E Gives found name number none some parsed =
    go (one_text (found_of found) name) refl ∙ ap (option_and_then number_in) (one_text-rows (found_of found) name)
  where
    parses : (text : List ℕ) (n : Option ℕ) → ReadsOne Gives text n → ReadsOne (ParsesUnsigned {E = E} 32 10) text n
    parses text (Some n) h = parsed text (Ok n) h
    parses text None h = (h.0, parsed text (Err h.0) h.1)

    go : (o : Option (List ℕ)) → one_text (found_of found) name ≡ o → number ≡ option_and_then number_in o
    go None e = none e
    go (Some text) e = number_read E text number (parses text number (some text e))

-- A text that is read as a truth is `true` where that is read.
flag_read : (E : Type 0) (text : List ℕ) (flag : Option Bool)
    → ReadsOne (ParsesBool {E = E}) text flag → unwrap_or flag false ≡ bytes_eq text (codes "true")
flag_read E text (Some true) h = rw h refl
flag_read E text (Some false) h = rw h refl
flag_read E text None h = go (bytes_eq text (codes "true")) refl
  where
    go : (b : Bool) → bytes_eq text (codes "true") ≡ b → false ≡ bytes_eq text (codes "true")
    go false t = sym t
    go true t = absurd (h.1.0 ((bytes_eq-Decides text (codes "true")).0 t))

-- The truth that is read of a name is whether its first text is `true`.
pub flag_is : (E : Type 0) (found : ArgMatches) (name : List ℕ) (flag : Option Bool)
    → (one_text (found_of found) name ≡ None → flag ≡ None)
    → ((text : List ℕ) → one_text (found_of found) name ≡ Some text → ReadsOne (ParsesBool {E = E}) text flag)
    → unwrap_or flag false ≡ flag_at (rows_in found) name
unfolding flag_at
flag_is E found name flag none some =
    go (one_text (found_of found) name) refl
    ∙ ap (λ o. option_map_or (λ text. bytes_eq text (codes "true")) o false)
    (one_text-rows (found_of found) name)
  where
    go : (o : Option (List ℕ)) → one_text (found_of found) name ≡ o
        → unwrap_or flag false ≡ option_map_or (λ text. bytes_eq text (codes "true")) o false
    go None e = rw (none e) refl
    go (Some text) e = flag_read E text flag (some text e)
