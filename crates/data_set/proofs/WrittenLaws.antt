-- What is written is read again.
use Rattle.std.proofs.Common.{◌≡◌, ℕ, zero, suc, ◌^◌, ◌<◌, Bool, true, false, cond, List, [], ◌∷◌, ◌++◌, length}
use Rattle.std.proofs.Common.{Option, Some, None, Ok, refl, sym, ap, subst, ◌∙◌, append_assoc, arith, MatchBool}
use Rattle.std.proofs.Common.{length-append, true≢false}
use Rattle.std.specs.Prelude.{◌==◌, nat_le}
use Rattle.std.specs.Int.{w16, w32, from_le_bytes, to_le_bytes}
use Rattle.std.proofs.lemmas.Bool.{eqb-true, le-leb, or_right}
use Rattle.std.proofs.lemmas.List.{take_at, drop_at, append-nil}
use Rattle.data_set.specs.declared.syntax.Syntax.{Syntax}
use Rattle.data_set.specs.declared.header.Front.{Front}
use Rattle.data_set.specs.declared.header.Closing.{Closing}
use Rattle.data_set.specs.declared.header.Closing.TheVariants.{Filled, End}
use Rattle.data_set.specs.Tree.{Rows, Tree, Trees, leaf, list_rows, list_trees, no_rows, no_trees, node, row, tag_of}
use Rattle.data_set.specs.Tree.{tree, trees_of}
use Rattle.dictionary.specs.Tags.{tag_text}
use Rattle.data_set.specs.Tags.{item, is_item_tag, item_end, sequence_end}
use Rattle.data_set.specs.Vr.{is_short, undefined_length}
use Rattle.data_set.specs.Header.{eight_at, end_at, is_place}
use Rattle.data_set.specs.Spelling.{Begins, BeginsItem, FitsHead, IsHead}
use Rattle.data_set.specs.Texts.{Elements, IsElement, IsItem, Items, Spells, deepest, Takes, after_tag, no_order}
use Rattle.data_set.specs.Written.{AreRows, AreTrees, IsSet, IsTree, MayStand, end_text, head_of, text_of, text_rows}
use Rattle.data_set.specs.Written.{text_tree, text_trees}
use Rattle.data_set.proofs.Lists.{list_back, rows_back}
use Rattle.data_set.proofs.HeaderLaws.{tag_again, faultless_parts}
use Rattle.data_set.proofs.Steps.{body_open, value_step, element_step}

-- ---- headers

head_pair : (a b size : ℕ) (known : Bool) → MatchBool known (cond known (a ∷ b ∷ to_le_bytes w16 size)
    (a ∷ b ∷ 0 ∷ 0 ∷ to_le_bytes w32 size) ≡ a ∷ b ∷ to_le_bytes w16 size)
    ((r0 r1 : ℕ) × (cond known (a ∷ b ∷ to_le_bytes w16 size) (a ∷ b ∷ 0 ∷ 0 ∷ to_le_bytes w32 size) ≡ a ∷ b ∷ r0 ∷ r1
    ∷ to_le_bytes w32 size))
head_pair a b size true = refl
head_pair a b size false = (0, 0, refl)

head_is : (vr : Option (List ℕ)) (size : ℕ) → FitsHead vr size → IsHead vr size (head_of vr size)
head_is None size fits = refl
head_is (Some []) size fits = absurd fits
head_is (Some (a ∷ [])) size fits = absurd fits
head_is (Some (a ∷ b ∷ [])) size fits = head_pair a b size (is_short a b)
head_is (Some (a ∷ b ∷ c ∷ vr)) size fits = absurd fits

abbrev front_is : ℕ → Option (List ℕ) → ℕ → Option Syntax → Front
front_is tag vr size inner = record { tag = tag; vr = vr; inner = inner; size = size }

begins : (syntax : Syntax) (previous : Option ℕ) (tag : ℕ) (vr : Option (List ℕ)) (size : ℕ) (inner : Option Syntax)
    (rest : List ℕ) → MayStand syntax previous tag vr size inner → is_place size rest ≡ true
    → Begins syntax previous (tag_text tag ++ (head_of vr size ++ rest)) (front_is tag vr size inner) rest
begins syntax previous tag vr size inner rest may place =
    record {
      tag = may.tag_fits;
      suits = may.suits;
      fits = may.fits;
      faultless = may.faultless;
      inner = may.is_inner;
      place = place;
      head = head_of vr size;
      spelled = head_is vr size may.fits;
      parts = refl;
    }

-- ---- ends

-- a tag stands at the front, in whatever header
abbrev TagAt : ℕ → List ℕ → Type 0
TagAt tag text = (x : ℕ) × (y : List ℕ) × (eight_at text ≡ Some (tag, (x, y)))

tag_here : (tag c0 c1 c2 c3 : ℕ) (rest : List ℕ) → tag < 2 ^ 32 → TagAt tag (tag_text tag ++ (c0 ∷ c1 ∷ c2 ∷ c3 ∷ rest))
unfolding eight_at
tag_here tag c0 c1 c2 c3 rest lt = (
  from_le_bytes w32 (c0 ∷ c1 ∷ c2 ∷ c3 ∷ []),
  rest,
  ap (λ (t : ℕ). Some (t, (from_le_bytes w32 (c0 ∷ c1 ∷ c2 ∷ c3 ∷ []), rest))) (tag_again tag lt),
)

pair_here : (tag a b size : ℕ) (rest head : List ℕ) (known : Bool) → tag < 2 ^ 32
    → MatchBool known (head ≡ a ∷ b ∷ to_le_bytes w16 size)
    ((r0 r1 : ℕ) × (head ≡ a ∷ b ∷ r0 ∷ r1 ∷ to_le_bytes w32 size)) → TagAt tag (tag_text tag ++ (head ++ rest))
pair_here tag a b size rest head true lt is = subst (λ (h : List ℕ). TagAt tag (tag_text tag ++ (h ++ rest))) (sym is)
    (tag_here tag a b _ _ rest lt)
pair_here tag a b size rest head false lt is = subst (λ (h : List ℕ). TagAt tag (tag_text tag ++ (h ++ rest)))
    (sym is.2) (tag_here tag a b is.0 is.1 (to_le_bytes w32 size ++ rest) lt)

head_here : (tag : ℕ) (vr : Option (List ℕ)) (size : ℕ) (head rest : List ℕ) → tag < 2 ^ 32 → IsHead vr size head
    → TagAt tag (tag_text tag ++ (head ++ rest))
head_here tag None size head rest lt is = subst (λ (h : List ℕ). TagAt tag (tag_text tag ++ (h ++ rest))) (sym is)
    (tag_here tag _ _ _ _ rest lt)
head_here tag (Some []) size head rest lt is = absurd is
head_here tag (Some (a ∷ [])) size head rest lt is = absurd is
head_here tag (Some (a ∷ b ∷ [])) size head rest lt is = pair_here tag a b size rest head (is_short a b) lt is
head_here tag (Some (a ∷ b ∷ c ∷ vr)) size head rest lt is = absurd is

-- where an element may stand, or an item, no end stands
differ : (tag other : ℕ) → is_item_tag tag ≡ false → is_item_tag other ≡ true → (b : Bool) → (b ≡ true → tag ≡ other)
    → b ≡ false
differ tag other plain is_item true same = absurd (true≢false (sym is_item ∙ ap is_item_tag (sym (same refl)) ∙ plain))
differ tag other plain is_item false same = refl

pub no_end_filled : (tag : ℕ) (text : List ℕ) → is_item_tag tag ≡ false → TagAt tag text → end_at Filled text ≡ None
unfolding end_at eight_at
no_end_filled tag [] plain at_tag = absurd cc
no_end_filled tag (b ∷ text) plain at_tag = refl

pub no_end_item : (tag : ℕ) (text : List ℕ) → is_item_tag tag ≡ false → TagAt tag text → end_at (End item_end)
    text ≡ None
unfolding end_at
no_end_item tag text plain at_tag =
    let test : (tag == item_end) ≡ false = differ tag item_end plain refl (tag == item_end) (eqb-true tag item_end) in
    rw (at_tag.2, test) refl

no_end_sequence : (rest : List ℕ) → end_at (End sequence_end)
    (tag_text item ++ (to_le_bytes w32 undefined_length ++ rest)) ≡ None
unfolding end_at eight_at
no_end_sequence rest = refl

sequence_ends : (rest : List ℕ) → end_at (End sequence_end) (end_text sequence_end ++ rest) ≡ Some rest
unfolding end_at eight_at
sequence_ends rest = refl

item_ends : (rest : List ℕ) → end_at (End item_end) (end_text item_end ++ rest) ≡ Some rest
unfolding end_at eight_at
item_ends rest = refl

filled_ends : end_at Filled [] ≡ Some []
unfolding end_at
filled_ends = refl

-- ---- elements and items

value_place : (value rest : List ℕ) → is_place (length value) (value ++ rest) ≡ true
value_place value rest = or_right (length value == undefined_length) (nat_le (length value) (length (value ++ rest)))
    (le-leb _ _ (omega (arith, length-append value rest)))

leaf_parts : (tag : ℕ) (head value rest : List ℕ) → (tag_text tag ++ (head ++ value)) ++ rest ≡ tag_text tag
    ++ (head ++ (value ++ rest))
leaf_parts tag head value rest = ap (λ (t : List ℕ). tag_text tag ++ t) (append_assoc head value rest)

node_parts : (tag : ℕ) (head rows rest : List ℕ) → (tag_text tag ++ (head ++ (rows ++ end_text sequence_end)))
    ++ rest ≡ tag_text tag ++ (head ++ (rows ++ (end_text sequence_end ++ rest)))
node_parts tag head rows rest =
    ap (λ (t : List ℕ). tag_text tag ++ t) (append_assoc head (rows ++ end_text sequence_end) rest
    ∙ ap (λ (t : List ℕ). head ++ t) (append_assoc rows (end_text sequence_end) rest))

tree_here : (t : Tree) (n : ℕ) (s : Syntax) (p : Option ℕ) (rest : List ℕ) → IsTree t n s p
    → (is_item_tag (tag_of t) ≡ false) × TagAt (tag_of t) (text_tree t ++ rest)
tree_here (leaf tag vr value) n s p rest may = (
  (faultless_parts p tag vr (length value) may.faultless).item,
  subst (λ (t : List ℕ). TagAt tag t)
      (sym (leaf_parts tag (head_of vr (length value)) value rest))
      (head_here tag vr (length value) (head_of vr (length value)) (value ++ rest) may.tag_fits
      (head_is vr (length value) may.fits)),
)
tree_here (node tag vr rows) n s p rest (inner, may, are) = (
  (faultless_parts p tag vr undefined_length may.faultless).item,
  subst (λ (t : List ℕ). TagAt tag t)
      (sym (node_parts tag (head_of vr undefined_length) (text_rows rows) rest))
      (head_here tag vr undefined_length (head_of vr undefined_length)
      (text_rows rows ++ (end_text sequence_end ++ rest)) may.tag_fits (head_is vr undefined_length may.fits)),
)

mutual
  pub tree_again : (t : Tree) (n : ℕ) (s : Syntax) (p : Option ℕ) (rest : List ℕ) → IsTree t n s p
      → IsElement n s p (text_tree t ++ rest) (Ok (t, rest))
  tree_again (leaf tag vr value) n s p rest may =
      subst (λ (t : List ℕ). IsElement n s p t (Ok (leaf tag vr value, rest)))
      (sym (leaf_parts tag (head_of vr (length value)) value rest)) (
      value_step n s p (tag_text tag ++ (head_of vr (length value) ++ (value ++ rest)))
      (front_is tag vr (length value) None) (value ++ rest) value rest (begins s p tag vr (length value)
      None (value ++ rest) may (value_place value rest)) refl (sym (take_at value rest (length value) refl))
      (sym (drop_at value rest (length value) refl))
      )
  tree_again (node tag vr rows) n s p rest (inner, may, are) =
      let behind = text_rows rows ++ (end_text sequence_end ++ rest) in
      let text = tag_text tag ++ (head_of vr undefined_length ++ behind) in
      let stand : Items n inner (End sequence_end) behind (Ok (list_rows rows, rest)) =
      record {
        last = None;
        rest = end_text sequence_end ++ rest;
        takes = rows_again rows n
            inner (end_text sequence_end ++ rest) are;
        ends = sequence_ends rest;
      } in
      let body = body_open (Items n inner) sequence_end undefined_length behind (Ok (list_rows rows, rest)) refl stand
      in
      let made = element_step n s p text (front_is tag vr undefined_length (Some inner)) behind
      inner (Ok (list_rows rows, rest)) (begins s p tag vr undefined_length (Some inner) behind may refl) refl body
      in
      subst (λ (t : List ℕ). IsElement n s p t (Ok (node tag vr rows, rest)))
      (sym (node_parts tag (head_of vr undefined_length) (text_rows rows) rest)) (
      subst (λ (r : Rows). IsElement n s p text (Ok (node tag vr r, rest))) (rows_back rows) made
      )

  rows_again : (rows : Rows) (n : ℕ) (s : Syntax) (rest : List ℕ) → AreRows rows n s → Takes (IsItem n s) no_order
      (End sequence_end) None (text_rows rows ++ rest) (list_rows rows) None rest
  rows_again no_rows n s rest are = (refl, refl)
  rows_again (row ts rows) zero s rest (deep, are) = absurd deep
  rows_again (row ts rows) (suc m) s rest (deep, are) =
      let after = text_rows rows ++ rest in
      let behind = text_trees ts ++ (end_text item_end ++ after) in
      let inside = trees_again ts m s None (End item_end) (end_text item_end ++ after) no_end_item deep in
      let stand : Elements m s (End item_end) behind (Ok (list_trees ts, after)) =
      record { last = inside.0; rest = end_text item_end ++ after; takes = inside.1; ends = item_ends after } in
      let body = body_open (Elements m s) item_end undefined_length behind (Ok (list_trees ts, after)) refl stand in
      let head : BeginsItem (suc m) (tag_text item ++ (to_le_bytes w32 undefined_length ++ behind)) undefined_length
      behind = record { deep = omega arith; fits = omega arith; place = refl; parts = refl } in
      subst (λ (t : List ℕ). Takes (IsItem (suc m) s) no_order (End sequence_end)
      None (tag_text item ++ (to_le_bytes w32 undefined_length ++ t)) (list_trees ts ∷ list_rows rows) None rest)
      (sym (append_assoc (text_trees ts) (end_text item_end ++ text_rows rows) rest)) (
        after,
        no_end_sequence behind,
        (undefined_length, behind, head, body),
        rows_again rows (suc m) s rest are,
      )

  pub trees_again : (ts : Trees) (n : ℕ) (s : Syntax) (p : Option ℕ) (closing : Closing) (rest : List ℕ)
      → ((tag : ℕ) (text : List ℕ) → is_item_tag tag ≡ false → TagAt tag text → end_at closing text ≡ None)
      → AreTrees ts n s p
      → (last : Option ℕ) × Takes (IsElement n s) after_tag closing p (text_trees ts ++ rest) (list_trees ts) last rest
  trees_again no_trees n s p closing rest more are = (p, (refl, refl))
  trees_again (tree t ts) n s p closing rest more are =
      let after = text_trees ts ++ rest in
      let others = trees_again ts n s (Some (tag_of t)) closing rest more are.1 in
      let here = tree_here t n s p after are.0 in (
        others.0,
        subst (λ (x : List ℕ). Takes (IsElement n s) after_tag closing p x (t ∷ list_trees ts) others.0 rest)
            (sym (append_assoc (text_tree t) (text_trees ts) rest)) (
              after,
              more (tag_of t) (text_tree t ++ after) here.0 here.1,
              tree_again t n s p after are.0,
              others.1,
            ),
      )

-- What is written spells what was to be written.
pub written : (s : Syntax) (ts : List Tree) → IsSet s ts → Spells s (text_of ts) ts
unfolding Spells IsSet text_of
written s ts are =
    let all = trees_again (trees_of ts) deepest s None Filled [] no_end_filled are in
    let spelled : Elements deepest s Filled (text_trees (trees_of ts) ++ []) (Ok (list_trees (trees_of ts), [])) =
    record { last = all.0; rest = []; takes = all.1; ends = filled_ends } in
    subst (λ (t : List ℕ). Elements deepest s Filled t (Ok (ts, []))) (append-nil (text_trees (trees_of ts)))
    (subst (λ (us : List Tree). Elements deepest s Filled (text_trees (trees_of ts) ++ []) (Ok (us, [])))
    (list_back ts) spelled)
