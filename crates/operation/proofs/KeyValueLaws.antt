-- Values in one text: one more behind them, that one text alone has them at its places, how long they are, and that a
-- class and an instance are among them.
use Rattle.std.proofs.Common.{◌≡◌, ℕ, ◌<◌, ◌≤◌, ◌+◌, Bool, true, false, cond, List, [], ◌∷◌, ◌++◌, length, take, drop}
use Rattle.std.proofs.Common.{Option, Some, None, refl, sym, ap, ◌∙◌, arith}
use Rattle.std.specs.Prelude.{◌==◌, ◌-◌, get_or}
use Rattle.std.proofs.lemmas.List.{take_all, take-append-le, drop-append-le, take-append-drop, length-take-le}
use Rattle.std.proofs.lemmas.List.{at_drop_more, nil_from_length, length-drop, length-take}
use Rattle.std.specs.List.{filter_map, cons_option, prefix_len, suffix_len}
use Rattle.std.specs.Option.{option_map}
use Rattle.std.proofs.lemmas.Option.{same_Some as some_is, none-some as none_is}
use Rattle.std.proofs.lemmas.Bool.{and_parts as both}
use Rattle.dictionary.specs.declared.elements.TheConstants.{SOP_CLASS_UID, SOP_INSTANCE_UID, SPECIFIC_CHARACTER_SET}
use Rattle.octets.proofs.TextLemmas.{tied_texts}
use Rattle.octets.specs.Padding.{is_padding, is_space, without_padding, trimmed}
use Rattle.dictionary.specs.Roles.{kept_tags}
use Rattle.data_set.specs.Lengths.{FitsTree, FitsTrees}
use Rattle.data_set.specs.Tree.{Tree, leaf, node, tag_of, trees_of}
use Rattle.data_set.specs.Values.{value_of_tree, with_tag, and_then, value_in}
use Rattle.operation.specs.Contents.{is_value, names_itself, tagged, values_in}
use Rattle.operation.specs.KeyValues.{bytes_of, values_at}
use Rattle.operation.specs.Parts.{value_at, value_or_empty}

-- ---- one value more

-- a place more has its bytes more
pub bytes_put : (places : List (ℕ × ℕ)) (tag size : ℕ) → bytes_of (places ++ (tag, size) ∷ []) ≡ bytes_of places + size
bytes_put [] tag size = omega arith
bytes_put (place ∷ places) tag size = omega (arith, bytes_put places tag size)

-- bytes behind a text that is filled are a value behind the others
pub values_put : (places : List (ℕ × ℕ)) (text : List ℕ) (tag : ℕ) (value : List ℕ) → bytes_of places ≡ length text
    → values_at (places ++ (tag, length value) ∷ []) (text ++ value) ≡ values_at places text ++ (tag, value) ∷ []
values_put [] text tag value filled =
    let empty : text ≡ [] = nil_from_length text (sym filled) in
    ap (λ (bytes : List ℕ). (tag, take (length value) (bytes ++ value)) ∷ []) empty
    ∙ ap (λ (bytes : List ℕ). (tag, bytes) ∷ []) (take_all (length value) value (omega arith))
values_put (place ∷ places) text tag value filled =
    let within : place.1 ≤ length text = omega (arith, filled) in
    let left : bytes_of places ≡ length (drop place.1 text) = omega (arith, filled, length-drop place.1 text) in
    let more = values_put places (drop place.1 text) tag value left in
    ap (λ (bytes : List ℕ). (place.0, bytes) ∷ values_at (places ++ (tag, length value) ∷ [])
    (drop place.1 (text ++ value))) (take-append-le place.1 text value within)
    ∙ ap (λ (bytes : List ℕ). (place.0, take place.1 text) ∷ values_at (places ++ (tag, length value) ∷ []) bytes)
    (drop-append-le place.1 text value within)
    ∙ ap (λ (values : List (ℕ × List ℕ)). (place.0, take place.1 text) ∷ values) more

-- ---- one text

-- what two lists that are not empty have in common
record Same (a b : ℕ × List ℕ) (vs ws : List (ℕ × List ℕ)) : Type 0 where
  tag : a.0 ≡ b.0
  value : a.1 ≡ b.1
  rest : vs ≡ ws

same_lists : (a b : ℕ × List ℕ) (vs ws : List (ℕ × List ℕ)) → a ∷ vs ≡ b ∷ ws → Same a b vs ws
same_lists a b vs ws e = record { tag = cc; value = cc; rest = cc }

-- Equal values that fill their texts are of equal places in equal texts.
pub one_text : (places others : List (ℕ × ℕ)) (text other : List ℕ) → bytes_of places ≡ length text
    → bytes_of others ≡ length other → values_at places text ≡ values_at others other
    → (places ≡ others) × (text ≡ other)
one_text [] [] text other filled filled' e =
    (refl, nil_from_length text (sym filled) ∙ sym (nil_from_length other (sym filled')))
one_text [] (q ∷ qs) text other filled filled' e =
    absurd (apart (q.0, take q.1 other) (values_at qs (drop q.1 other)) e)
  where
    apart : (v : ℕ × List ℕ) (vs : List (ℕ × List ℕ)) → [] ≡ v ∷ vs → ⊥
    apart v vs e = cc
one_text (p ∷ ps) [] text other filled filled' e =
    absurd (apart (p.0, take p.1 text) (values_at ps (drop p.1 text)) e)
  where
    apart : (v : ℕ × List ℕ) (vs : List (ℕ × List ℕ)) → v ∷ vs ≡ [] → ⊥
    apart v vs e = cc
one_text (p ∷ ps) (q ∷ qs) text other filled filled' e =
    let same = same_lists (p.0, take p.1 text) (q.0, take q.1 other) (values_at ps (drop p.1 text))
    (values_at qs (drop q.1 other)) e in
    let size : p.1 ≡ q.1 = sym (length-take-le p.1 text (omega (arith, filled))) ∙ ap length same.value
    ∙ length-take-le q.1 other (omega (arith, filled')) in
    let left : bytes_of ps ≡ length (drop p.1 text) = omega (arith, filled, length-drop p.1 text) in
    let left' : bytes_of qs ≡ length (drop q.1 other) = omega (arith, filled', length-drop q.1 other) in
    let rest = one_text ps qs (drop p.1 text) (drop q.1 other) left left' same.rest in (
      λ i. (same.tag i, size i) ∷ rest.0 i,
      sym (take-append-drop p.1 text) ∙ (λ i. same.value i ++ rest.1 i) ∙ take-append-drop q.1 other,
    )

-- ---- the values of tags, one tag on

-- what is found under a tag, before other values
abbrev pub in_front : ℕ → Option (List ℕ) → List (ℕ × List ℕ) → List (ℕ × List ℕ)
in_front tag found values = cons_option (option_map (λ value. (tag, value)) found) values

-- What is found under a tag stands before the values of the tags behind it.
pub next_tag : (elements : List Tree) (tags : List ℕ) (i : ℕ) (found : Option (List ℕ)) → i < length tags
    → found ≡ value_in (get_or tags i 0) elements → filter_map (λ tag. tagged tag elements) (drop i tags) ≡ in_front
    (get_or tags i 0) found (filter_map (λ tag. tagged tag elements) (drop (i + 1) tags))
next_tag elements tags i found within is =
    at_drop_more (filter_map (λ tag. tagged tag elements)) tags i 0 within ∙ ap (λ (o : Option (List ℕ)). in_front
    (get_or tags i 0) o (filter_map (λ tag. tagged tag elements) (drop (i + 1) tags))) (sym is)

-- ---- lengths

trimmed_short : (value : List ℕ) → length (trimmed value) ≤ length value
trimmed_short value = omega (
  arith,
  length-drop (prefix_len is_space (without_padding value)) (without_padding value),
  length-take (length value - suffix_len is_padding value) value,
)

short_tree : (t : Tree) (value : List ℕ) → FitsTree t → value_of_tree t ≡ Some value → length value < 4294967296
short_tree (leaf tag vr stored) value fits is =
    let same : trimmed stored ≡ value = some_is (trimmed stored) value is in
    omega (arith, ap length same, trimmed_short stored, fits.1)
short_tree (node tag vr rows) value fits is = absurd (none_is value is)

short_found : (here : Bool) (t : Tree) (rest : Option Tree) (value : List ℕ) → FitsTree t
    → (and_then value_of_tree rest ≡ Some value → length value < 4294967296)
    → and_then value_of_tree (cond here (Some t) rest) ≡ Some value → length value < 4294967296
short_found true t rest value fits behind is = short_tree t value fits is
short_found false t rest value fits behind is = behind is

-- A value that a header spells has fewer than 2^32 bytes.
pub short_value : (tag : ℕ) (elements : List Tree) (value : List ℕ) → FitsTrees (trees_of elements)
    → value_in tag elements ≡ Some value → length value < 4294967296
short_value tag [] value fits is = absurd (none_is value is)
short_value tag (t ∷ ts) value fits is = short_found (tag_of t == tag) t (with_tag tag ts) value fits.0
    (short_value tag ts value fits.1) is

-- ---- class and instance

named_is : (text : List ℕ) (found : Option (List ℕ)) → is_value text found ≡ true → found ≡ Some text
named_is text None is = absurd cc
named_is text (Some value) is = ap Some (tied_texts value text is)

-- the value of a tag that has one is found behind what other tags have
own_class : (other : Option (List ℕ)) (behind : List (ℕ × List ℕ)) (class : List ℕ)
    → value_at SOP_CLASS_UID (in_front SPECIFIC_CHARACTER_SET other ((SOP_CLASS_UID, class) ∷ behind)) ≡ Some class
own_class None behind class = refl
own_class (Some value) behind class = refl

own_instance : (other class : Option (List ℕ)) (behind : List (ℕ × List ℕ)) (instance : List ℕ)
    → value_at SOP_INSTANCE_UID (in_front SPECIFIC_CHARACTER_SET other (in_front SOP_CLASS_UID class
    ((SOP_INSTANCE_UID, instance) ∷ behind))) ≡ Some instance
own_instance None None behind instance = refl
own_instance None (Some class) behind instance = refl
own_instance (Some value) None behind instance = refl
own_instance (Some value) (Some class) behind instance = refl

kept_class : (class instance : List ℕ) (elements : List Tree) → names_itself class instance elements ≡ true
    → value_at SOP_CLASS_UID (values_in elements) ≡ Some class
kept_class class instance elements names =
    let other = value_in SPECIFIC_CHARACTER_SET elements in
    let behind = filter_map (λ tag. tagged tag elements) (drop 2 kept_tags) in
    ap (λ (own : Option (List ℕ)). value_at SOP_CLASS_UID (in_front SPECIFIC_CHARACTER_SET other (in_front SOP_CLASS_UID
    own behind))) (named_is class (value_in SOP_CLASS_UID elements) (both _ _ names).0) ∙ own_class other behind class

kept_instance : (class instance : List ℕ) (elements : List Tree) → names_itself class instance elements ≡ true
    → value_at SOP_INSTANCE_UID (values_in elements) ≡ Some instance
kept_instance class instance elements names =
    let other = value_in SPECIFIC_CHARACTER_SET elements in
    let one = value_in SOP_CLASS_UID elements in
    let behind = filter_map (λ tag. tagged tag elements) (drop 3 kept_tags) in
    ap (λ (own : Option (List ℕ)). value_at SOP_INSTANCE_UID (in_front SPECIFIC_CHARACTER_SET other (in_front
    SOP_CLASS_UID one (in_front SOP_INSTANCE_UID own behind))))
    (named_is instance (value_in SOP_INSTANCE_UID elements) (both _ _ names).1) ∙ own_instance other one behind instance

-- The class and the instance that elements name are the values that are kept of SOP Class UID and SOP Instance UID.
pub kept_names : (class instance : List ℕ) (elements : List Tree) (values : List (ℕ × List ℕ))
    → values ≡ values_in elements → names_itself class instance elements ≡ true
    → (value_or_empty (value_at SOP_CLASS_UID values) ≡ class)
    × (value_or_empty (value_at SOP_INSTANCE_UID values) ≡ instance)
kept_names class instance elements values is names = (
  ap (λ (vs : List (ℕ × List ℕ)). value_or_empty (value_at SOP_CLASS_UID vs)) is
      ∙ ap value_or_empty (kept_class class instance elements names),
  ap (λ (vs : List (ℕ × List ℕ)). value_or_empty (value_at SOP_INSTANCE_UID vs)) is
      ∙ ap value_or_empty (kept_instance class instance elements names),
)
