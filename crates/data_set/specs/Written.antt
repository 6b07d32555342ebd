-- Which elements a data set may have, and the one spelling of them that is written.
use Rattle.std.specs.Prelude.{◌≡◌, ℕ, zero, suc, ◌^◌, ◌<◌, List, [], ◌∷◌, ◌++◌, length, Option, Some, None}
use Rattle.std.specs.Prelude.{if◌then◌else◌}
use Rattle.std.specs.Int.{w16, w32, to_le_bytes}
use Rattle.data_set.specs.declared.syntax.Syntax.{Syntax}
use Rattle.data_set.specs.Tree.{Tree, Rows, Trees, leaf, node, no_rows, row, no_trees, tree, tag_of, trees_of}
use Rattle.dictionary.specs.Tags.{tag_text}
use Rattle.data_set.specs.Tags.{item, item_end, sequence_end}
use Rattle.data_set.specs.Vr.{undefined_length, is_short, inner_syntax}
use Rattle.data_set.specs.Header.{offence}
use Rattle.data_set.specs.Spelling.{FitsHead, SuitsSyntax}
use Rattle.data_set.specs.Texts.{deepest}

-- one sequence more stands around
abbrev pub Deeper : ℕ → (ℕ → Type 0) → Type 0
Deeper zero Are = ⊥
Deeper (suc n) Are = Are n

-- an element of this header may stand behind the tag previous
pub record MayStand (syntax : Syntax) (previous : Option ℕ) (tag : ℕ) (vr : Option (List ℕ)) (size : ℕ)
    (inner : Option Syntax) : Type 0 where
  pub tag_fits : tag < 2 ^ 32
  pub suits : SuitsSyntax syntax vr
  pub fits : FitsHead vr size
  pub faultless : offence previous (record { tag = tag; vr = vr; size = size }) ≡ None
  pub is_inner : inner ≡ inner_syntax tag vr size

-- elements that may stand behind the tag previous, where n more sequences may stand around what is in them
abbrev mutual
  pub IsTree : Tree → ℕ → Syntax → Option ℕ → Type 0
  IsTree (leaf tag vr value) n syntax previous = MayStand syntax previous tag vr (length value) None
  IsTree (node tag vr rows) n syntax previous = (inner : Syntax) × MayStand syntax previous tag vr undefined_length
      (Some inner) × AreRows rows n inner

  pub AreRows : Rows → ℕ → Syntax → Type 0
  AreRows no_rows n syntax = Unit {0}
  AreRows (row ts rows) n syntax = Deeper n (λ m. AreTrees ts m syntax None) × AreRows rows n syntax

  pub AreTrees : Trees → ℕ → Syntax → Option ℕ → Type 0
  AreTrees no_trees n syntax previous = Unit {0}
  AreTrees (tree t ts) n syntax previous = IsTree t n syntax previous × AreTrees ts n syntax (Some (tag_of t))

-- Some text spells these elements.
unfoldable pub IsSet : Syntax → List Tree → Type 0
IsSet syntax ts = AreTrees (trees_of ts) deepest syntax None

-- ---- the spelling that is written: sequences and items have an undefined length and an end (PS3.5, 7.5.2)

-- behind the tag: the value representation, reserved bytes of 00, and the length
abbrev pub head_of : Option (List ℕ) → ℕ → List ℕ
head_of (Some (a ∷ b ∷ [])) size = if is_short a b then a ∷ b ∷ to_le_bytes w16 size else a ∷ b ∷ 0 ∷ 0 ∷ to_le_bytes
    w32 size
head_of _ size = to_le_bytes w32 size

abbrev pub end_text : ℕ → List ℕ
end_text tag = tag_text tag ++ (0 ∷ 0 ∷ 0 ∷ 0 ∷ [])

abbrev mutual
  pub text_tree : Tree → List ℕ
  text_tree (leaf tag vr value) = tag_text tag ++ (head_of vr (length value) ++ value)
  text_tree (node tag vr rows) = tag_text tag
      ++ (head_of vr undefined_length ++ (text_rows rows ++ end_text sequence_end))

  pub text_rows : Rows → List ℕ
  text_rows no_rows = []
  text_rows (row ts rows) = tag_text item ++ (to_le_bytes w32 undefined_length
      ++ (text_trees ts ++ (end_text item_end ++ text_rows rows)))

  pub text_trees : Trees → List ℕ
  text_trees no_trees = []
  text_trees (tree t ts) = text_tree t ++ text_trees ts

-- the text of a data set
unfoldable pub text_of : List Tree → List ℕ
text_of ts = text_trees (trees_of ts)
