-- What values and items are read from data sets that were made of others.
use Rattle.std.proofs.Common.{◌≡◌, ◌≢◌, ℕ, ◌+◌, ◌-◌, ◌%◌, ◌≤◌, Bool, true, false, cond, List, [], ◌∷◌, ◌++◌, length}
use Rattle.std.proofs.Common.{take, drop, Option, Some, None, refl, sym, ap, ◌∙◌, arith, length-append, true≢false}
use Rattle.std.specs.Prelude.{◌==◌, nat_lt, filter}
use Rattle.std.specs.Option.{option_map, option_or}
use Rattle.std.specs.List.{prefix_len, suffix_len}
use Rattle.std.proofs.lemmas.Bool.{eqb-true, ltb-true, ltb-false, lt-ltb, le-ltb}
use Rattle.std.proofs.lemmas.List.{reverse-append, take-append-le}
use Rattle.std.proofs.lemmas.List.Folds.{find-append}
use lib.Chars.{codes}
use Rattle.data_set.specs.declared.syntax.Syntax.{Syntax}
use Rattle.data_set.specs.Tree.{Tree, leaf, node, tag_of, trees_of, list_trees, list_rows}
use Rattle.data_set.specs.Tags.{is_group_length}
use Rattle.data_set.specs.Vr.{is_name}
use Rattle.octets.specs.Padding.{is_padding, is_space, without_padding, trimmed}
use Rattle.data_set.specs.Values.{pad_of, padded, value_of_tree, items_of_tree, with_tag, and_then, value_in, items_in}
use Rattle.data_set.specs.Converted.{vr_in, converted, converted_tree, converted_trees, converted_rows}
use Rattle.data_set.specs.Converted.{converted_items_of, below, above, with_element, with_value}
use Rattle.data_set.proofs.Lists.{rows_back}
use Rattle.data_set.proofs.ConvertedLaws.{converted_tag}

-- ---- elements by their tag

same_tag : (s : Syntax) (tag : ℕ) (t : Tree) → (tag_of (converted_tree s t) == tag) ≡ (tag_of t == tag)
same_tag s tag t = ap (λ (x : ℕ). x == tag) (sym (converted_tag s t))

-- a group length has another tag
differs : (t tag : ℕ) → is_group_length t ≡ true → is_group_length tag ≡ false → (t == tag) ≡ false
differs t tag yes_length no_length = by_test (t == tag) (eqb-true t tag)
  where
    by_test : (b : Bool) → (b ≡ true → t ≡ tag) → b ≡ false
    by_test true same = absurd (true≢false (sym yes_length ∙ ap is_group_length (same refl) ∙ no_length))
    by_test false same = refl

converted_one : (s : Syntax) (tag : ℕ) → is_group_length tag ≡ false → (t : Tree) (ts : List Tree)
    → with_tag tag (converted s ts) ≡ option_map (converted_tree s) (with_tag tag ts)
    → with_tag tag (converted s (t ∷ ts)) ≡ option_map (converted_tree s) (with_tag tag (t ∷ ts))
converted_one s tag plain t ts more = by_test (is_group_length (tag_of t)) refl
  where
    here : (b : Bool) → (tag_of t == tag) ≡ b → with_tag tag (converted_tree s t ∷ converted s ts) ≡ option_map
        (converted_tree s) (with_tag tag (t ∷ ts))
    here true is = rw (same_tag s tag t, is) refl
    here false is = rw (same_tag s tag t, is) more

    by_test : (b : Bool) → is_group_length (tag_of t) ≡ b
        → with_tag tag (list_trees (cond b (converted_trees s (trees_of ts))
        (Rattle.data_set.specs.Tree.tree (converted_tree s t) (converted_trees s (trees_of ts))))) ≡ option_map
        (converted_tree s) (with_tag tag (t ∷ ts))
    by_test true is = more ∙ sym (rw (differs (tag_of t) tag is plain) refl)
    by_test false is = here (tag_of t == tag) refl

converted_with_tag : (s : Syntax) (tag : ℕ) → is_group_length tag ≡ false → (ts : List Tree)
    → with_tag tag (converted s ts) ≡ option_map (converted_tree s) (with_tag tag ts)
converted_with_tag s tag plain [] = refl
converted_with_tag s tag plain (t ∷ ts) = converted_one s tag plain t ts (converted_with_tag s tag plain ts)

-- among the elements whose tag passes a test
filtered_one : (q : ℕ → Bool) (tag : ℕ) (t : Tree) (ts : List Tree) → with_tag tag (filter (λ u. q (tag_of u)) ts)
    ≡ cond (q tag) (with_tag tag ts) None
    → with_tag tag (filter (λ u. q (tag_of u)) (t ∷ ts)) ≡ cond (q tag) (with_tag tag (t ∷ ts)) None
filtered_one q tag t ts more = by_tests (q (tag_of t)) (tag_of t == tag) refl refl (eqb-true (tag_of t) tag)
  where
    by_tests : (passes same : Bool) → q (tag_of t) ≡ passes → (tag_of t == tag) ≡ same
        → ((tag_of t == tag) ≡ true → tag_of t ≡ tag) → with_tag tag (filter (λ u. q (tag_of u)) (t ∷ ts)) ≡ cond
        (q tag) (with_tag tag (t ∷ ts)) None
    by_tests true true a b is = rw (a, b, sym (ap q (is b)) ∙ a) refl
    by_tests true false a b is = rw (a, b) more
    by_tests false true a b is = rw (a, sym (ap q (is b)) ∙ a) (more ∙ rw (sym (ap q (is b)) ∙ a) refl)
    by_tests false false a b is = rw (a, b) more

filtered_with_tag : (q : ℕ → Bool) (tag : ℕ) (ts : List Tree) → with_tag tag (filter (λ u. q (tag_of u)) ts) ≡ cond
    (q tag) (with_tag tag ts) None
filtered_with_tag q tag [] = by_test (q tag)
  where
    by_test : (b : Bool) → None ≡ cond b (with_tag tag []) None
    by_test true = refl
    by_test false = refl
filtered_with_tag q tag (t ∷ ts) = filtered_one q tag t ts (filtered_with_tag q tag ts)

-- ---- with an element put in

-- where the elements of lesser and of greater tags were found, and the new one between them
put_with_tag : (s : Syntax) (new : Tree) (tag : ℕ) → is_group_length tag ≡ false → (ts : List Tree)
    → with_tag tag (with_element s new ts)
    ≡ option_or (option_map (converted_tree s) (cond (nat_lt tag (tag_of new)) (with_tag tag ts) None))
    (cond (tag_of new == tag) (Some new) (option_map (converted_tree s)
    (cond (nat_lt (tag_of new) tag) (with_tag tag ts) None)))
put_with_tag s new tag plain ts =
    let low = converted_with_tag s tag plain (below (tag_of new) ts) ∙ ap (option_map (converted_tree s))
    (filtered_with_tag (λ x. nat_lt x (tag_of new)) tag ts) in
    let high = converted_with_tag s tag plain (above (tag_of new) ts) ∙ ap (option_map (converted_tree s))
    (filtered_with_tag (λ x. nat_lt (tag_of new) x) tag ts) in
    find-append (λ t. tag_of t == tag) (converted s (below (tag_of new) ts)) (new ∷ converted s (above (tag_of new) ts))
    ∙ rw (low, high) refl

-- ---- values and items

kept_value : (s : Syntax) (found : Option Tree) → and_then value_of_tree (option_map (converted_tree s) found)
    ≡ and_then value_of_tree found
kept_value s None = refl
kept_value s (Some (leaf tag vr value)) = refl
kept_value s (Some (node tag vr rows)) = refl

kept_items : (s : Syntax) (found : Option Tree) → and_then items_of_tree (option_map (converted_tree s) found)
    ≡ option_map (converted_items_of s) (and_then items_of_tree found)
kept_items s None = refl
kept_items s (Some (leaf tag vr value)) = refl
kept_items s (Some (node tag vr rows)) = ap (λ r. Some (list_rows (converted_rows s r))) (sym (rows_back rows))

pub converted_value : (s : Syntax) (tag : ℕ) (ts : List Tree) → is_group_length tag ≡ false
    → value_in tag (converted s ts) ≡ value_in tag ts
converted_value s tag ts plain = ap (and_then value_of_tree) (converted_with_tag s tag plain ts)
    ∙ kept_value s (with_tag tag ts)

pub converted_items : (s : Syntax) (tag : ℕ) (ts : List Tree) → is_group_length tag ≡ false
    → items_in tag (converted s ts) ≡ option_map (converted_items_of s) (items_in tag ts)
converted_items s tag ts plain = ap (and_then items_of_tree) (converted_with_tag s tag plain ts)
    ∙ kept_items s (with_tag tag ts)

-- ---- padding

pad_pads : (vr : List ℕ) → is_padding (pad_of vr) ≡ true
pad_pads [] = refl
pad_pads (a ∷ []) = refl
pad_pads (a ∷ b ∷ []) = by_test (is_name a b (codes "UI"))
  where
    by_test : (b : Bool) → is_padding (cond b 0x00 0x20) ≡ true
    by_test true = refl
    by_test false = refl
pad_pads (a ∷ b ∷ c ∷ vr) = refl

suffix_more : (bytes : List ℕ) (pad : ℕ) → is_padding pad ≡ true → suffix_len is_padding (bytes ++ (pad ∷ [])) ≡ 1 +
    suffix_len is_padding bytes
suffix_more bytes pad is = ap (prefix_len is_padding) (reverse-append bytes (pad ∷ [])) ∙ rw is refl

without_more : (bytes : List ℕ) (pad : ℕ) → is_padding pad ≡ true
    → without_padding (bytes ++ (pad ∷ [])) ≡ without_padding bytes
without_more bytes pad is =
    let more = suffix_more bytes pad is in
    let counted : length (bytes ++ (pad ∷ [])) - suffix_len is_padding (bytes ++ (pad ∷ [])) ≡ length bytes - suffix_len
    is_padding bytes = omega (arith, more, length-append bytes (pad ∷ [])) in
    let le : length bytes - suffix_len is_padding bytes ≤ length bytes = omega arith in
    ap (λ n. take n (bytes ++ (pad ∷ []))) counted ∙ take-append-le (length bytes - suffix_len is_padding bytes)
    bytes (pad ∷ []) le

trimmed_padded : (vr value : List ℕ) → trimmed (padded vr value) ≡ trimmed value
trimmed_padded vr value = by_test (length value % 2 == 0)
  where
    by_test : (b : Bool) → trimmed (cond b value (value ++ (pad_of vr ∷ []))) ≡ trimmed value
    by_test true = refl
    by_test false = ap (λ (bytes : List ℕ). drop (prefix_len is_space bytes) bytes)
        (without_more value (pad_of vr) (pad_pads vr))

-- ---- a value that was put in

pub put_value : (s : Syntax) (tag : ℕ) (vr value : List ℕ) (ts : List Tree) → is_group_length tag ≡ false
    → value_in tag (with_value s tag vr value ts) ≡ Some (trimmed value)
put_value s tag vr value ts plain =
    let new = leaf tag (vr_in s (Some vr)) (padded vr value) in
    let low : nat_lt tag tag ≡ false = le-ltb tag tag (omega arith) in
    let same : (tag == tag) ≡ true = grind arith in
    ap (and_then value_of_tree) (put_with_tag s new tag plain ts) ∙ rw (low, same) (ap Some (trimmed_padded vr value))

or_none : (found : Option Tree) → option_or found None ≡ found
or_none None = refl
or_none (Some t) = refl

pub other_value : (s : Syntax) (tag other : ℕ) (vr value : List ℕ) (ts : List Tree) → is_group_length other ≡ false
    → other ≢ tag → value_in other (with_value s tag vr value ts) ≡ value_in other ts
other_value s tag other vr value ts plain apart =
    ap (and_then value_of_tree) (put_with_tag s (leaf tag (vr_in s (Some vr)) (padded vr value)) other plain ts)
    ∙ by_order (nat_lt other tag) refl
  where
    new : Tree
    new = leaf tag (vr_in s (Some vr)) (padded vr value)

    unequal : (b : Bool) → (b ≡ true → tag ≡ other) → b ≡ false
    unequal true same = absurd (apart (sym (same refl)))
    unequal false same = refl

    by_order : (lesser : Bool) → nat_lt other tag ≡ lesser
        → and_then value_of_tree (option_or (option_map (converted_tree s) (cond (nat_lt other tag) (with_tag other ts)
        None)) (cond (tag == other) (Some new) (option_map (converted_tree s)
        (cond (nat_lt tag other) (with_tag other ts) None)))) ≡ value_in other ts
    by_order true is =
        let high : nat_lt tag other ≡ false = le-ltb tag other (omega (arith, ltb-true other tag is)) in
        let not_same : (tag == other) ≡ false = unequal (tag == other) (eqb-true tag other) in
        rw (is, not_same, high) (ap (and_then value_of_tree)
        (or_none (option_map (converted_tree s) (with_tag other ts))) ∙ kept_value s (with_tag other ts))
    by_order false is =
        let high : nat_lt tag other ≡ true = lt-ltb tag other (omega (arith, ltb-false other tag is, apart)) in
        let not_same : (tag == other) ≡ false = unequal (tag == other) (eqb-true tag other) in
        rw (is, not_same, high) (kept_value s (with_tag other ts))
