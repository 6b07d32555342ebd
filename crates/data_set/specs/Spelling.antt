-- What spells the header of an element or of an item (PS3.5, 7.1.2, 7.1.3 and 7.5).
use Rattle.std.specs.Prelude.{◌≡◌, ℕ, ◌^◌, ◌<◌, List, [], ◌∷◌, ◌++◌, Option, Some, None, true, MatchBool}
use Rattle.std.specs.Int.{w16, w32, to_le_bytes}
use Rattle.data_set.specs.declared.syntax.Syntax.{Syntax}
use Rattle.data_set.specs.declared.syntax.Syntax.TheVariants.{Implicit, Explicit}
use Rattle.data_set.specs.declared.header.Front.{Front}
use Rattle.dictionary.specs.Tags.{tag_text}
use Rattle.data_set.specs.Tags.{item}
use Rattle.data_set.specs.Vr.{is_short, inner_syntax}
use Rattle.data_set.specs.Header.{offence, is_place}

-- behind the tag: the value representation and the length. Two reserved bytes may have any value.
abbrev pub IsHead : Option (List ℕ) → ℕ → List ℕ → Type 0
IsHead None size head = head ≡ to_le_bytes w32 size
IsHead (Some (a ∷ b ∷ [])) size head =
    MatchBool (is_short a b)
    (head ≡ a ∷ b ∷ to_le_bytes w16 size)
    ((r0 r1 : ℕ) × (head ≡ a ∷ b ∷ r0 ∷ r1 ∷ to_le_bytes w32 size))
IsHead (Some _) size head = ⊥

-- what a length may be
abbrev pub FitsHead : Option (List ℕ) → ℕ → Type 0
FitsHead None size = size < 2 ^ 32
FitsHead (Some (a ∷ b ∷ [])) size = MatchBool (is_short a b) (size < 2 ^ 16) (size < 2 ^ 32)
FitsHead (Some _) size = ⊥

-- value representations are spelled in the explicit syntax alone
abbrev pub SuitsSyntax : Syntax → Option (List ℕ) → Type 0
SuitsSyntax Implicit None = Unit {0}
SuitsSyntax Implicit (Some vr) = ⊥
SuitsSyntax Explicit None = ⊥
SuitsSyntax Explicit (Some vr) = Unit {0}

-- The text begins with the header of an element that may stand behind the tag previous, and rest comes behind it.
pub record Begins (syntax : Syntax) (previous : Option ℕ) (text : List ℕ) (front : Front) (rest : List ℕ) : Type 0 where
  pub tag : front.tag < 2 ^ 32
  pub suits : SuitsSyntax syntax front.vr
  pub fits : FitsHead front.vr front.size
  pub faultless : offence previous (record { tag = front.tag; vr = front.vr; size = front.size }) ≡ None
  pub inner : front.inner ≡ inner_syntax front.tag front.vr front.size
  pub place : is_place front.size rest ≡ true
  pub head : List ℕ
  pub spelled : IsHead front.vr front.size head
  pub parts : text ≡ tag_text front.tag ++ (head ++ rest)

-- The text begins with the header of an item, around which n sequences more may stand, and rest comes behind it.
pub record BeginsItem (n : ℕ) (text : List ℕ) (size : ℕ) (rest : List ℕ) : Type 0 where
  pub deep : 0 < n
  pub fits : size < 2 ^ 32
  pub place : is_place size rest ≡ true
  pub parts : text ≡ tag_text item ++ (to_le_bytes w32 size ++ rest)
