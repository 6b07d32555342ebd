-- A value put into a data set in its place leaves a data set of the grammar.
use Rattle.std.proofs.Common.{◌≡◌, ℕ, ◌+◌, ◌%◌, ◌<◌, ◌≤◌, ◌^◌, Bool, true, false, cond, List, [], ◌∷◌, ◌++◌, length}
use Rattle.std.proofs.Common.{Option, Some, None, refl, sym, ap, subst, arith, length-append}
use Rattle.std.specs.Prelude.{◌==◌, nat_lt, not, ◌&&◌, ◌||◌, is_some}
use Rattle.std.specs.List.{list_all}
use Rattle.std.specs.Option.{option_map}
use Rattle.std.proofs.lemmas.Bool.{eqb-true, ltb-true, lt-ltb, le-ltb, and_parts, not-true, false_from_ne_true}
use Rattle.std.proofs.lemmas.Option.{same_Some as some_is}
use lib.Chars.{codes}
use Rattle.dictionary.specs.declared.role.Entity.{Entity}
use Rattle.dictionary.specs.Elements.{Line, table, vr_in_table, role_in_table}
use Rattle.dictionary.specs.Roles.{correction_of}
use Rattle.dictionary.proofs.Lines.{BearsOut, of_table}
use Rattle.data_set.specs.declared.syntax.Syntax.{Syntax}
use Rattle.data_set.specs.declared.syntax.Syntax.TheVariants.{Implicit, Explicit}
use Rattle.data_set.specs.Tree.{Tree, Trees, leaf, tree, tag_of, trees_of, list_trees}
use Rattle.dictionary.specs.Tags.{is_above}
use Rattle.data_set.specs.Tags.{is_group_length, is_item_tag, is_listed, is_reserved_group}
use Rattle.data_set.specs.Vr.{is_capital, is_name, is_short, undefined_length}
use Rattle.data_set.specs.Header.{offence}
use Rattle.data_set.specs.Texts.{deepest}
use Rattle.data_set.specs.Written.{AreTrees, IsSet, IsTree, MayStand}
use Rattle.data_set.specs.Values.{pad_of, padded}
use Rattle.data_set.specs.Converted.{vr_in, converted_tree, converted_trees, below, above, with_element}
use Rattle.data_set.specs.Corrections.{correction_vr_of}
use Rattle.data_set.proofs.Lists.{trees_back}
use Rattle.data_set.proofs.ConvertedLaws.{NoLater, skip, tag_above, converted_tag, own_tree, own_trees}

-- ---- what a correction puts in may stand anywhere behind a lesser tag

abbrev MayPut : ℕ → List ℕ → Type 0
MayPut tag vr = (s : Syntax) (q : Option ℕ) (size : ℕ) → is_above q tag ≡ true → size < 2 ^ 16
    → MayStand s q tag (vr_in s (Some vr)) size None

small : (size : ℕ) → size < 2 ^ 16 → (size == undefined_length) ≡ false
small size lt =
    false_from_ne_true (size == undefined_length) (λ e. omega (arith, eqb-true size undefined_length e))

may_put : (tag a b : ℕ) → tag < 2 ^ 32 → is_item_tag tag ≡ false → is_reserved_group tag ≡ false → is_listed tag ≡ false
    → is_capital a ≡ true → is_capital b ≡ true → is_short a b ≡ true → is_name a b (codes "SQ") ≡ false
    → is_name a b (codes "UN") ≡ false
    → MayPut tag (a ∷ b ∷ [])
unfolding offence
may_put tag a b lt item group listed cap_a cap_b short sq un Implicit q size above_q fits =
    record {
      tag_fits = lt;
      suits = tt;
      fits = omega arith;
      faultless =
          rw (item, above_q, group, small size fits, listed) (rw (small size fits) refl);
      is_inner =
          rw (small size fits, listed) refl;
    }
may_put tag a b lt item group listed cap_a cap_b short sq un Explicit q size above_q fits =
    record {
      tag_fits = lt;
      suits = tt;
      fits = rw short fits;
      faultless =
          rw (item, above_q, group, cap_a, cap_b, listed, sq, un, small size fits) refl;
      is_inner = rw (sq, un) refl;
    }

-- whether an attribute may stand anywhere with its value representation
abbrev may_stand : ℕ → List ℕ → Bool
may_stand tag [] = false
may_stand tag (a ∷ []) = false
may_stand tag (a ∷ b ∷ []) =
    nat_lt tag (2 ^ 32) && (not (is_item_tag tag) && (not (is_reserved_group tag) && (not (is_listed tag)
    && (is_capital a && (is_capital b && (is_short a b && (not (is_name a b (codes "SQ"))
    && not (is_name a b (codes "UN")))))))))
may_stand tag (a ∷ b ∷ c ∷ vr) = false

stands : (tag : ℕ) (vr : List ℕ) → may_stand tag vr ≡ true → MayPut tag vr
stands tag [] t = absurd cc
stands tag (a ∷ []) t = absurd cc
stands tag (a ∷ b ∷ []) t =
    let small = and_parts _ _ t in
    let item = and_parts _ _ small.1 in
    let group = and_parts _ _ item.1 in
    let listed = and_parts _ _ group.1 in
    let first = and_parts _ _ listed.1 in
    let second = and_parts _ _ first.1 in
    let short = and_parts _ _ second.1 in
    let names = and_parts _ _ short.1 in
    may_put tag a b (ltb-true tag (2 ^ 32) small.0) (not-true _ item.0) (not-true _ group.0) (not-true _ listed.0)
    first.0 second.0 short.0 (not-true _ names.0) (not-true _ names.1)
stands tag (a ∷ b ∷ c ∷ vr) t = absurd cc

-- a line of the table: where it may be corrected, it may stand anywhere
abbrev line_stands : Line → Bool
line_stands line = not (is_some (correction_of line.role)) || may_stand line.tag line.vr

all_stand : list_all line_stands table ≡ true
unfolding is_short
all_stand = refl

borne_out : BearsOut (λ tag vr role. MayPut tag vr) line_stands
borne_out line entity t is = stands line.tag line.vr
    (subst (λ (o : Option Entity). (not (is_some o) || may_stand line.tag line.vr) ≡ true) is t)

-- so it is of any attribute that may be corrected
corrected_stands : (tag : ℕ) (vr : List ℕ) → correction_vr_of tag ≡ Some vr → MayPut tag vr
corrected_stands tag vr e = by (correction_of (role_in_table tag)) refl e
  where
    by : (o : Option Entity) → correction_of (role_in_table tag) ≡ o → option_map (λ x. vr_in_table tag) o ≡ Some vr
        → MayPut tag vr
    by None is e = absurd cc
    by (Some entity) is e = subst (λ (v : List ℕ). MayPut tag v) (some_is (vr_in_table tag) vr e)
        (of_table (λ tag vr role. MayPut tag vr) line_stands borne_out all_stand tag entity is)

padded_length : (vr value : List ℕ) → length (padded vr value) ≤ length value + 1
padded_length vr value = by_test (length value % 2 == 0)
  where
    by_test : (b : Bool) → length (cond b value (value ++ (pad_of vr ∷ []))) ≤ length value + 1
    by_test true = omega arith
    by_test false = omega (arith, length-append value (pad_of vr ∷ []))

-- ---- in its place

-- behind a tag that is no less, all tags are greater
greater : (n : ℕ) (s : Syntax) (tag x : ℕ) (ts : List Tree) → tag ≤ x → AreTrees (trees_of ts) n s (Some x)
    → (below tag ts ≡ []) × (above tag ts ≡ ts)
greater n s tag x [] le are = (refl, refl)
greater n s tag x (t ∷ ts) le are =
    let lt : x < tag_of t = ltb-true x (tag_of t) (tag_above s (Some x) t n are.0) in
    let low : nat_lt (tag_of t) tag ≡ false = le-ltb (tag_of t) tag (omega arith) in
    let high : nat_lt tag (tag_of t) ≡ true = lt-ltb tag (tag_of t) (omega arith) in
    let more = greater n s tag (tag_of t) ts (omega arith) are.1 in
    (rw low more.0, rw high (ap (λ (us : List Tree). t ∷ us) more.1))

abbrev IsPut : ℕ → Syntax → Tree → Type 0
IsPut n s new = (q : Option ℕ) → is_above q (tag_of new) ≡ true → IsTree new n s q

abbrev placed : Syntax → Tree → Trees → Trees → List Tree
placed s new lesser rest = list_trees lesser ++ (new ∷ list_trees rest)

-- an element and those behind it, none of them a group length
converted_front : (s : Syntax) (n : ℕ) (t : Tree) (ts : Trees) (p q : Option ℕ) → is_above q (tag_of t) ≡ true
    → IsTree t n s p → AreTrees ts n s (Some (tag_of t)) → AreTrees (converted_trees s (tree t ts)) n s q
converted_front s n t ts p q up is are = by_test (is_group_length (tag_of t))
  where
    by_test : (b : Bool) → AreTrees (cond b (converted_trees s ts) (tree (converted_tree s t) (converted_trees s ts))) n
        s q
    by_test true = own_trees s ts n (Some (tag_of t)) q (skip q (tag_of t) up) are
    by_test false = (
      own_tree s t n p q up is,
      own_trees s ts n (Some (tag_of t)) (Some (tag_of (converted_tree s t)))
          (λ tag up'. subst (λ (x : ℕ). is_above (Some x) tag ≡ true) (converted_tag s t) up') are,
    )

-- one element more, in front
put_step : (n : ℕ) (s : Syntax) (new : Tree) → IsPut n s new → (t : Tree) (ts : List Tree) (p q : Option ℕ)
    → NoLater q p → is_above q (tag_of new) ≡ true → AreTrees (trees_of (t ∷ ts)) n s p
    → ((r : Option ℕ) → NoLater r (Some (tag_of t)) → is_above r (tag_of new) ≡ true
    → AreTrees (trees_of (with_element s new ts)) n s r)
    → AreTrees (trees_of (with_element s new (t ∷ ts))) n s q
put_step n s new put t ts p q later up are more = by_order (nat_lt (tag_of t) (tag_of new))
    (nat_lt (tag_of new) (tag_of t)) refl refl
  where
    here : is_above q (tag_of t) ≡ true
    here = later (tag_of t) (tag_above s p t n are.0)

    rest : NoLater q (Some (tag_of t))
    rest = skip q (tag_of t) here

    -- t is lesser: it stays, or is left out
    first : (b : Bool) → nat_lt (tag_of t) (tag_of new) ≡ true
        → AreTrees (trees_of (placed s new (cond b (converted_trees s (trees_of (below (tag_of new) ts)))
        (tree (converted_tree s t) (converted_trees s (trees_of (below (tag_of new) ts)))))
        (converted_trees s (trees_of (above (tag_of new) ts))))) n s q
    first true lt = more q rest up
    first false lt = (
      own_tree s t n p q here are.0,
      more (Some (tag_of (converted_tree s t)))
          (λ tag up'. subst (λ (x : ℕ). is_above (Some x) tag ≡ true) (converted_tag s t) up')
          (subst (λ (x : ℕ). is_above (Some x) (tag_of new) ≡ true) (converted_tag s t) lt),
    )

    by_order : (low high : Bool) → nat_lt (tag_of t) (tag_of new) ≡ low → nat_lt (tag_of new) (tag_of t) ≡ high
        → AreTrees (trees_of (with_element s new (t ∷ ts))) n s q
    by_order true high a b =
        let none : nat_lt (tag_of new) (tag_of t) ≡ false = le-ltb (tag_of new) (tag_of t)
        (omega (arith, ltb-true (tag_of t) (tag_of new) a)) in
        rw (a, none) (first (is_group_length (tag_of t)) a)
    by_order false false a b = rw (a, b) (more q rest up)
    by_order false true a b =
        let g = greater n s (tag_of new) (tag_of t) ts (omega (arith, ltb-true (tag_of new) (tag_of t) b)) are.1 in
        rw (a, b, g.0, g.1) (
          put q up,
          subst (λ (us : Trees). AreTrees us n s (Some (tag_of new)))
              (sym (trees_back (converted_trees s (tree t (trees_of ts))))) (converted_front s n t (trees_of ts)
              p (Some (tag_of new)) b are.0 are.1),
        )

put_are : (n : ℕ) (s : Syntax) (new : Tree) → IsPut n s new → (ts : List Tree) (p q : Option ℕ) → NoLater q p
    → is_above q (tag_of new) ≡ true → AreTrees (trees_of ts) n s p
    → AreTrees (trees_of (with_element s new ts)) n s q
put_are n s new put [] p q later up are = (put q up, tt)
put_are n s new put (t ∷ ts) p q later up are = put_step n s new put t ts p q later up
    are (λ r later' up'. put_are n s new put ts (Some (tag_of t)) r later' up' are.1)

-- a correction's value, in a data set
pub replaced_set : (s : Syntax) (ts : List Tree) (tag : ℕ) (vr value : List ℕ) → IsSet s ts
    → correction_vr_of tag ≡ Some vr → length value ≤ 64
    → IsSet s (with_element s (leaf tag (vr_in s (Some vr)) (padded vr value)) ts)
unfolding IsSet
replaced_set s ts tag vr value are corrected short =
    let new = leaf tag (vr_in s (Some vr)) (padded vr value) in
    let may : MayPut tag vr = corrected_stands tag vr corrected in
    let fits : length (padded vr value) < 2 ^ 16 = omega (arith, padded_length vr value) in
    put_are deepest s new (λ q up. may s q (length (padded vr value)) up fits) ts None None (λ tag' up. up) refl are
