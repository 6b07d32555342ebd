-- Elements of a command set, and the texts that spell them (PS3.7, 6.3.1; PS3.5, A.1).
use Rattle.std.specs.Prelude.{◌≡◌, ℕ, ◌^◌, ◌<◌, true, List, [], ◌∷◌, ◌++◌, length, take, drop, find, ◌==◌, nat_lt}
use Rattle.std.specs.Prelude.{Option, Some, Result, Ok, Err, if◌then◌else◌}
use Rattle.std.specs.List.{flat_map}
use Rattle.std.specs.Option.{option_map}
use Rattle.std.specs.Int.{w32, to_le_bytes, from_le_bytes}
use Rattle.dictionary.specs.Tags.{tag_from, tag_text, is_above}
use Rattle.dimse.specs.declared.fault.DimseFault.{DimseFault}
use Rattle.dimse.specs.declared.fault.DimseFault.TheVariants.{BadCommand}

-- an element: its tag, group and element in one number, and its value
pub record Element : Type 0 where
  pub tag : ℕ
  pub value : List ℕ

-- the tag, the length in four bytes, and the value
abbrev pub element_text : Element → List ℕ
element_text e = tag_text e.tag ++ (to_le_bytes w32 (length e.value) ++ e.value)

abbrev pub text_of : List Element → List ℕ
text_of es = flat_map element_text es

-- an element that may stand behind the tag previous
pub record IsElement (previous : Option ℕ) (e : Element) : Type 0 where
  pub tag : e.tag < 2 ^ 32
  pub size : length e.value < 2 ^ 32
  pub above : is_above previous e.tag ≡ true

-- Each may stand where it stands.
abbrev pub AreElements : Option ℕ → List Element → Type 0
AreElements previous [] = Unit {0}
AreElements previous (e ∷ es) = IsElement previous e × AreElements (Some e.tag) es

-- the value of the element with this tag
abbrev pub value_of : List Element → ℕ → Option (List ℕ)
value_of es tag = option_map (λ e. e.value) (find (λ e. e.tag == tag) es)

-- ---- reading the element at the front

-- the element at the front, and what comes behind it
unfoldable pub element_at : Option ℕ → List ℕ → Result (Element × List ℕ) DimseFault
element_at previous (g0 ∷ g1 ∷ e0 ∷ e1 ∷ l0 ∷ l1 ∷ l2 ∷ l3 ∷ rest) =
    let tag = tag_from g0 g1 e0 e1 in
    let size = from_le_bytes w32 (l0 ∷ l1 ∷ l2 ∷ l3 ∷ []) in
    if is_above previous tag
    then (if nat_lt (length rest) size then Err BadCommand
    else Ok (record { tag = tag; value = take size rest }, drop size rest))
    else Err BadCommand
element_at previous _ = Err BadCommand
