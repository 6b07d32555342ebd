-- What a conversion makes is again a data set of the grammar.
use Rattle.std.proofs.Common.{◌≡◌, ℕ, zero, suc, Bool, true, false, not, ◌&&◌, ◌||◌, cond, List, [], ◌∷◌, length}
use Rattle.std.proofs.Common.{Option, Some, None, refl, sym, ap, subst, ◌∙◌, arith}
use Rattle.std.specs.Prelude.{◌==◌}
use Rattle.std.proofs.lemmas.Bool.{ltb-true, lt-ltb, not-false as not_false, or_parts as or_false}
use Rattle.data_set.specs.declared.fault.SetFault.TheVariants.{Order, Group, BadVr, Undefined}
use Rattle.data_set.specs.declared.syntax.Syntax.{Syntax}
use Rattle.data_set.specs.declared.syntax.Syntax.TheVariants.{Implicit, Explicit}
use Rattle.data_set.specs.Tree.{Rows, Tree, Trees, leaf, no_rows, no_trees, node, row, tag_of, tree, trees_of}
use Rattle.dictionary.specs.Tags.{is_above}
use Rattle.data_set.specs.Tags.{is_group_length, is_item_tag, is_listed, is_reserved_group}
use Rattle.data_set.specs.Vr.{has_bad_vr, inner_syntax, is_capital, is_undefined, undefined_length}
use Rattle.data_set.specs.Header.{offence}
use Rattle.data_set.specs.Texts.{deepest}
use Rattle.data_set.specs.Written.{AreRows, AreTrees, IsSet, IsTree, MayStand}
use Rattle.data_set.specs.Converted.{converted, converted_rows, converted_tree, converted_trees}
use Rattle.data_set.proofs.Offences.{guard_none}
use Rattle.data_set.proofs.Fitting.{size_fits}
use Rattle.data_set.proofs.Lists.{trees_back}

-- the tag q is no greater than the tag p: what may stand behind p may stand behind q
abbrev pub NoLater : Option ℕ → Option ℕ → Type 0
NoLater q p = (tag : ℕ) → is_above p tag ≡ true → is_above q tag ≡ true

record Parts (p : Option ℕ) (tag : ℕ) (vr : Option (List ℕ)) (inner : Option Syntax) (size : ℕ) : Type 0 where
  pub item : is_item_tag tag ≡ false
  pub above : is_above p tag ≡ true
  pub group : is_reserved_group tag ≡ false
  pub vr_good : has_bad_vr tag vr ≡ false
  pub sized : is_undefined tag inner size ≡ false

parts_of : (s : Syntax) (p : Option ℕ) (tag : ℕ) (vr : Option (List ℕ)) (size : ℕ) (inner : Option Syntax)
    → MayStand s p tag vr size inner → Parts p tag vr inner size
unfolding offence
parts_of s p tag vr size inner may =
    let last = cond (is_undefined tag (inner_syntax tag vr size) size) (Some Undefined) None in
    let third = cond (has_bad_vr tag vr) (Some BadVr) last in
    let second = cond (is_reserved_group tag) (Some Group) third in
    let a = guard_none (is_item_tag tag || not (is_above p tag)) Order second may.faultless in
    let order = or_false (is_item_tag tag) (not (is_above p tag)) a.0 in
    let b = guard_none (is_reserved_group tag) Group third a.1 in
    let c = guard_none (has_bad_vr tag vr) BadVr last b.1 in
    let d = guard_none (is_undefined tag (inner_syntax tag vr size) size) Undefined None c.1 in
    record {
      item = order.0;
      above = not_false (is_above p tag) order.1;
      group = b.0;
      vr_good = c.0;
      sized =
          ap (λ (i : Option Syntax). is_undefined tag i size) may.is_inner ∙ d.0;
    }

-- and together again, without a value representation
without_offence : (q : Option ℕ) (tag size : ℕ) (inner : Option Syntax) → is_item_tag tag ≡ false
    → is_above q tag ≡ true → is_reserved_group tag ≡ false → inner_syntax tag None size ≡ inner
    → is_undefined tag inner size ≡ false
    → offence q (record { tag = tag; vr = None; size = size }) ≡ None
unfolding offence
without_offence q tag size inner item above group is sized = rw (item, above, group, is, sized) refl

pair_unlisted : (sq un undefined listed bad : Bool) → (bad || (listed && not sq && not un)) ≡ false
    → None ≡ cond sq (Some Explicit) (cond (un && (undefined || listed)) (Some Implicit) None) → undefined ≡ false
    → listed ≡ false
pair_unlisted sq un undefined false bad vr_good is defined = refl
pair_unlisted true un undefined true bad vr_good is defined = absurd cc
pair_unlisted false true true true bad vr_good is defined = absurd cc
pair_unlisted false true false true bad vr_good is defined = absurd cc
pair_unlisted false false undefined true true vr_good is defined = absurd cc
pair_unlisted false false undefined true false vr_good is defined = absurd cc

unnamed : (named : Bool) → None ≡ cond named (Some Implicit) None → named ≡ false
unnamed true e = absurd cc
unnamed false e = refl

unlisted : (tag : ℕ) (vr : Option (List ℕ)) (size : ℕ) → has_bad_vr tag vr ≡ false → None ≡ inner_syntax tag vr size
    → (size == undefined_length) ≡ false → is_listed tag ≡ false
unlisted tag None size good is defined = (or_false (size == undefined_length) (is_listed tag) (unnamed _ is)).1
unlisted tag (Some []) size good is defined = (or_false (size == undefined_length) (is_listed tag) (unnamed _ is)).1
unlisted tag (Some (a ∷ [])) size good is defined = (or_false (size == undefined_length) (is_listed tag)
    (unnamed _ is)).1
unlisted tag (Some (a ∷ b ∷ [])) size good is defined =
    pair_unlisted (a == 83 && b == 81) (a == 85 && b == 78) (size == undefined_length) (is_listed tag)
    (not (is_capital a && is_capital b)) good is defined
unlisted tag (Some (a ∷ b ∷ c ∷ vr)) size good is defined = (or_false (size == undefined_length) (is_listed tag)
    (unnamed _ is)).1

implicit_leaf : (s : Syntax) (p q : Option ℕ) (tag : ℕ) (vr : Option (List ℕ)) (size : ℕ) → is_above q tag ≡ true
    → MayStand s p tag vr size None → MayStand Implicit q tag None size None
implicit_leaf s p q tag vr size above may =
    let x = parts_of s p tag vr size None may in
    let low : is_listed tag ≡ false = unlisted tag vr size x.vr_good may.is_inner x.sized in
    let inner : inner_syntax tag None size ≡ None = rw (x.sized, low) refl in
    record {
      tag_fits = may.tag_fits;
      suits = tt;
      fits = size_fits vr size may.fits;
      faultless = without_offence q tag
          size None x.item above x.group inner x.sized;
      is_inner = sym inner;
    }

implicit_node : (s : Syntax) (p q : Option ℕ) (tag : ℕ) (vr : Option (List ℕ)) (inner : Syntax) → is_above q tag ≡ true
    → MayStand s p tag vr undefined_length (Some inner) → MayStand Implicit q tag None undefined_length (Some Implicit)
implicit_node s p q tag vr inner above may =
    let x = parts_of s p tag vr undefined_length (Some inner) may in
    record {
      tag_fits = may.tag_fits;
      suits = tt;
      fits = omega arith;
      faultless = without_offence q tag undefined_length
          (Some Implicit) x.item above x.group refl x.sized;
      is_inner = refl;
    }

pub tag_above : (s : Syntax) (p : Option ℕ) (t : Tree) (n : ℕ) → IsTree t n s p → is_above p (tag_of t) ≡ true
tag_above s p (leaf tag vr value) n may = (parts_of s p tag vr (length value) None may).above
tag_above s p (node tag vr rows) n (inner, may, are) = (parts_of s p tag vr undefined_length (Some inner) may).above

pub converted_tag : (s : Syntax) (t : Tree) → tag_of t ≡ tag_of (converted_tree s t)
converted_tag s (leaf tag vr value) = refl
converted_tag s (node tag vr rows) = refl

-- what stands behind an element that is left out may stand behind the one before
pub skip : (q : Option ℕ) (tag : ℕ) → is_above q tag ≡ true → NoLater q (Some tag)
skip None tag above next after = refl
skip (Some x) tag above next after = lt-ltb x next (omega (arith, ltb-true x tag above, ltb-true tag next after))

either : (b : Bool) (xs bs : Trees) (n : ℕ) (q : Option ℕ) → AreTrees xs n Implicit q → AreTrees bs n Implicit q
    → AreTrees (cond b xs bs) n Implicit q
either true xs bs n q a b = a
either false xs bs n q a b = b

mutual
  implicit_tree : (t : Tree) (n : ℕ) (s : Syntax) (p q : Option ℕ) → is_above q (tag_of t) ≡ true → IsTree t n s p
      → IsTree (converted_tree Implicit t) n Implicit q
  implicit_tree (leaf tag vr value) n s p q above may = implicit_leaf s p q tag vr (length value) above may
  implicit_tree (node tag vr rows) n s p q above (inner, may, are) = (
    Implicit,
    implicit_node s p q tag vr inner above
        may,
    implicit_rows rows n inner are,
  )

  implicit_rows : (rows : Rows) (n : ℕ) (s : Syntax) → AreRows rows n s → AreRows (converted_rows Implicit rows) n
      Implicit
  implicit_rows no_rows n s are = tt
  implicit_rows (row ts rows) zero s (deep, are) = absurd deep
  implicit_rows (row ts rows) (suc m) s (deep, are) = (
    implicit_trees ts m s None None (λ tag above. above) deep,
    implicit_rows rows (suc m) s are,
  )

  pub implicit_trees : (ts : Trees) (n : ℕ) (s : Syntax) (p q : Option ℕ) → NoLater q p → AreTrees ts n s p
      → AreTrees (converted_trees Implicit ts) n Implicit q
  implicit_trees no_trees n s p q later are = tt
  implicit_trees (tree t ts) n s p q later are =
      either (is_group_length (tag_of t)) (converted_trees Implicit ts)
      (tree (converted_tree Implicit t) (converted_trees Implicit ts)) n q
      (implicit_trees ts n s (Some (tag_of t)) q (skip q (tag_of t) (later (tag_of t) (tag_above s p t n are.0)))
      are.1) (
        implicit_tree t n s p q (later (tag_of t) (tag_above s p t n are.0)) are.0,
        implicit_trees ts n
            s (Some (tag_of t)) (Some (tag_of (converted_tree Implicit t)))
            (λ tag above. subst (λ (x : ℕ). is_above (Some x) tag ≡ true) (converted_tag Implicit t) above) are.1,
      )

-- ---- the same with the value representations kept

moved_offence : (q : Option ℕ) (tag : ℕ) (vr : Option (List ℕ)) (size : ℕ) (inner : Option Syntax)
    → is_item_tag tag ≡ false → is_above q tag ≡ true → is_reserved_group tag ≡ false → has_bad_vr tag vr ≡ false
    → inner ≡ inner_syntax tag vr size → is_undefined tag inner size ≡ false
    → offence q (record { tag = tag; vr = vr; size = size }) ≡ None
unfolding offence
moved_offence q tag vr size inner item above group good is sized = rw (item, above, group, good, sym is, sized) refl

-- an element that may stand behind p may stand behind q
pub moved : (s : Syntax) (p q : Option ℕ) (tag : ℕ) (vr : Option (List ℕ)) (size : ℕ) (inner : Option Syntax)
    → is_above q tag ≡ true → MayStand s p tag vr size inner → MayStand s q tag vr size inner
moved s p q tag vr size inner above may =
    let x = parts_of s p tag vr size inner may in
    record {
      tag_fits = may.tag_fits;
      suits = may.suits;
      fits = may.fits;
      faultless = moved_offence q tag vr size inner
          x.item above x.group x.vr_good may.is_inner x.sized;
      is_inner = may.is_inner;
    }

pub either_same : (b : Bool) (xs bs : Trees) (n : ℕ) (s : Syntax) (q : Option ℕ) → AreTrees xs n s q → AreTrees bs n s q
    → AreTrees (cond b xs bs) n s q
either_same true xs bs n s q a b = a
either_same false xs bs n s q a b = b

mutual
  kept_tree : (t : Tree) (n : ℕ) (s : Syntax) (p q : Option ℕ) → is_above q (tag_of t) ≡ true → IsTree t n s p
      → IsTree (converted_tree Explicit t) n s q
  kept_tree (leaf tag vr value) n s p q above may = moved s p q tag vr (length value) None above may
  kept_tree (node tag vr rows) n s p q above (inner, may, are) =
      (inner, moved s p q tag vr undefined_length (Some inner) above may, kept_rows rows n inner are)

  kept_rows : (rows : Rows) (n : ℕ) (s : Syntax) → AreRows rows n s → AreRows (converted_rows Explicit rows) n s
  kept_rows no_rows n s are = tt
  kept_rows (row ts rows) zero s (deep, are) = absurd deep
  kept_rows (row ts rows) (suc m) s (deep, are) = (
    kept_trees ts m s None None (λ tag above. above) deep,
    kept_rows
        rows (suc m) s are,
  )

  pub kept_trees : (ts : Trees) (n : ℕ) (s : Syntax) (p q : Option ℕ) → NoLater q p → AreTrees ts n s p
      → AreTrees (converted_trees Explicit ts) n s q
  kept_trees no_trees n s p q later are = tt
  kept_trees (tree t ts) n s p q later are =
      either_same (is_group_length (tag_of t)) (converted_trees Explicit ts)
      (tree (converted_tree Explicit t) (converted_trees Explicit ts)) n s q
      (kept_trees ts n s (Some (tag_of t)) q (skip q (tag_of t) (later (tag_of t) (tag_above s p t n are.0))) are.1) (
        kept_tree t n s p q (later (tag_of t) (tag_above s p t n are.0)) are.0,
        kept_trees ts n s (Some (tag_of t))
            (Some (tag_of (converted_tree Explicit t))) (λ tag above. subst (λ (x : ℕ). is_above (Some x) tag ≡ true)
            (converted_tag Explicit t) above) are.1,
      )

-- in its own syntax
pub own_tree : (s : Syntax) (t : Tree) (n : ℕ) (p q : Option ℕ) → is_above q (tag_of t) ≡ true → IsTree t n s p
    → IsTree (converted_tree s t) n s q
own_tree Implicit t n p q above is = implicit_tree t n Implicit p q above is
own_tree Explicit t n p q above is = kept_tree t n Explicit p q above is

pub own_trees : (s : Syntax) (ts : Trees) (n : ℕ) (p q : Option ℕ) → NoLater q p → AreTrees ts n s p
    → AreTrees (converted_trees s ts) n s q
own_trees Implicit ts n p q later are = implicit_trees ts n Implicit p q later are
own_trees Explicit ts n p q later are = kept_trees ts n Explicit p q later are

-- ---- whole data sets

-- A data set in the implicit syntax is one.
pub implicit_set : (s : Syntax) (ts : List Tree) → IsSet s ts → IsSet Implicit (converted Implicit ts)
unfolding IsSet
implicit_set s ts are =
    subst (λ (us : Trees). AreTrees us deepest Implicit None)
    (sym (trees_back (converted_trees Implicit (trees_of ts)))) (implicit_trees (trees_of ts) deepest s None
    None (λ tag above. above) are)
