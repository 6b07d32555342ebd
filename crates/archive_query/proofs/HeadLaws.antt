-- Where no count is asked, a row needs of its contents the first alone, so rows need the firsts.
use Rattle.std.proofs.Common.{◌≡◌, ℕ, Bool, true, false, cond, List, [], ◌∷◌, map, length, Option, Some, None}
use Rattle.std.proofs.Common.{refl, sym, ap, subst, ◌∙◌, inl, inr}
use Rattle.std.specs.Prelude.{◌==◌, ◌||◌, is_some, if◌then◌else◌}
use Rattle.std.proofs.lemmas.Bool.{eqb-true, false≢true, or_parts}
use Rattle.std.proofs.lemmas.Cmp.{upto}
use Rattle.std.specs.List.{filter, filter_map, list_any, join_with_byte}
use Rattle.std.specs.Option.{option_map}
use Rattle.std.specs.Ordering.{is_gt, ordering_reverse}
use Rattle.std.specs.declared.cmp.Ordering.{Ordering}
use Rattle.std.specs.declared.cmp.Ordering.TheVariants.{Less, Equal, Greater}
use Rattle.std.specs.Fmt.{decimal}
use Rattle.std.specs.Cmp.Lexicographic.{nat_list_cmp_total}
use Rattle.dictionary.specs.declared.elements.TheConstants.{MODALITIES_IN_STUDY, NUMBER_OF_SERIES_RELATED_INSTANCES}
use Rattle.dictionary.specs.declared.elements.TheConstants.{NUMBER_OF_STUDY_RELATED_INSTANCES}
use Rattle.dictionary.specs.declared.elements.TheConstants.{NUMBER_OF_STUDY_RELATED_SERIES, QUERY_RETRIEVE_LEVEL}
use Rattle.dictionary.specs.declared.elements.TheConstants.{RETRIEVE_AE_TITLE, SPECIFIC_CHARACTER_SET}
use Rattle.data_set.specs.Tree.{Tree}
use Rattle.data_set.specs.Set.{Set}
use Rattle.data_set.specs.declared.syntax.Syntax.TheVariants.{Explicit}
use Rattle.operation.specs.Parts.{ContentParts, value_at, own_value}
use Rattle.octets.specs.Members.{Has as IsOne}
use Rattle.octets.specs.Texts.{same, text_cmp, ascending}
use Rattle.archive_model.specs.Contents.{series_of}
use Rattle.archive_model.proofs.MemberLaws.{any_has, has_any, filter_has, has_filter, has_map, map_has}
use Rattle.archive_model.proofs.ModelLaws.{same_is, same_itself}
use Rattle.archive_model.specs.declared.key.Level.{Level}
use Rattle.archive_model.specs.declared.query.Query.{Query}
use Rattle.archive_model.specs.Key.{word_of}
use Rattle.archive_model.specs.Column.{columns}
use Rattle.archive_model.specs.Cell.{cell}
use Rattle.archive_model.specs.Rows.{uid_at, uids_at, is_at, contents_at, is_match_with, modalities_of, asked_value}
use Rattle.archive_model.specs.Rows.{is_unique_key}
use Rattle.archive_model.specs.Rows.{is_asked, value_in_row, cell_in_row, row_with, row_of_with, row_at_with, rows_with}
use Rattle.archive_query.specs.Firsts.{is_counted_tag, is_counted}
use Rattle.archive_query.specs.Grouping.{Ascends}
use Rattle.archive_query.proofs.AscendingLaws.{Text, Has, equal_is, itself, one_rising, ascending_rises, ascending_has}
use Rattle.archive_query.proofs.AscendingLaws.{has_ascending}
use Rattle.archive_query.proofs.CandidateLaws.{one_has, has_one}
use Rattle.archive_query.proofs.GroupingLaws.{AtLeast, at_least_first, ascends_tail}
use Rattle.archive_query.proofs.RowLaws.{filter_map_each}

none_of : {X : Type 0} (p : X → Bool) (xs : List X) → list_any p xs ≡ false → (x : X) → IsOne xs x → p x ≡ false
none_of p xs none x h = by (p x) refl
  where
    by : (b : Bool) → p x ≡ b → b ≡ false
    by true e = absurd (false≢true (sym none ∙ has_any p xs x h e))
    by false e = refl

-- ---- a row by its first content

module _ (value : ContentParts → ℕ → List ℕ) (called : List ℕ) (q : Query) (none : is_counted q ≡ false)
    (c : ContentParts) where
  not_counted : (tag : ℕ) → is_asked q tag ≡ true → is_counted_tag tag ≡ false
  not_counted tag asked =
      let at = any_has (λ a. a.tag == tag) q.asked asked in
      ap is_counted_tag (sym (eqb-true at.0.tag tag at.2))
      ∙ none_of (λ a. is_counted_tag a.tag) q.asked none at.0 at.1

  -- what is asked is an attribute of the first
  of_first : (cs : List ContentParts) (tag : ℕ) → is_asked q tag ≡ true → asked_value value cs c tag ≡ value c tag
  of_first cs tag asked =
      let outer = or_parts (tag == MODALITIES_IN_STUDY || tag == NUMBER_OF_STUDY_RELATED_SERIES ||
      tag == NUMBER_OF_STUDY_RELATED_INSTANCES) (tag == NUMBER_OF_SERIES_RELATED_INSTANCES) (not_counted tag asked) in
      let middle = or_parts (tag == MODALITIES_IN_STUDY || tag == NUMBER_OF_STUDY_RELATED_SERIES)
      (tag == NUMBER_OF_STUDY_RELATED_INSTANCES) outer.0 in
      let inner = or_parts (tag == MODALITIES_IN_STUDY) (tag == NUMBER_OF_STUDY_RELATED_SERIES) middle.0 in
      ap (λ b. if b then join_with_byte 0x5c (modalities_of cs)
      else if tag == NUMBER_OF_STUDY_RELATED_SERIES then decimal (length (ascending (map series_of cs)))
      else if tag == NUMBER_OF_STUDY_RELATED_INSTANCES || tag == NUMBER_OF_SERIES_RELATED_INSTANCES
      then decimal (length cs) else value c tag) inner.0
      ∙ ap (λ b. if b then decimal (length (ascending (map series_of cs)))
      else if tag == NUMBER_OF_STUDY_RELATED_INSTANCES || tag == NUMBER_OF_SERIES_RELATED_INSTANCES
      then decimal (length cs) else value c tag) inner.1
      ∙ ap (λ b. if b || tag == NUMBER_OF_SERIES_RELATED_INSTANCES then decimal (length cs) else value c tag) middle.1
      ∙ ap (λ b. if b then decimal (length cs) else value c tag) outer.1

  in_row : (cs ds : List ContentParts) (tag : ℕ)
      → value_in_row value called q cs c tag ≡ value_in_row value called q ds c tag
  in_row cs ds tag =
      ap (λ (r : Option (List ℕ)). if tag == SPECIFIC_CHARACTER_SET then value_at tag c.values
      else if tag == QUERY_RETRIEVE_LEVEL then Some (word_of q.level)
      else if tag == RETRIEVE_AE_TITLE then Some called
      else if is_unique_key tag then Some (own_value c tag)
      else r) (by (is_asked q tag) refl)
    where
      by : (b : Bool) → is_asked q tag ≡ b → (if b then Some (asked_value value cs c tag) else None)
          ≡ (if b then Some (asked_value value ds c tag) else None)
      by true e = ap Some (of_first cs tag e ∙ sym (of_first ds tag e))
      by false e = refl

  same_row : (cs ds : List ContentParts) → row_with value called q cs c ≡ row_with value called q ds c
  same_row cs ds = ap (λ (es : List Tree). record { syntax = Explicit; elements = es })
      (filter_map_each (cell_in_row value called q cs c) (cell_in_row value called q ds c)
      (λ tag. ap (option_map (cell tag)) (in_row cs ds tag)) (columns q.level))

-- ---- rows by the firsts

abbrev pub first : {X : Type 0} → List X → Option X
first [] = None
first (x ∷ xs) = Some x

abbrev row_by : (ContentParts → ℕ → List ℕ) → List ℕ → Query → Option ContentParts → Option Set
row_by value called q None = None
row_by value called q (Some c) = row_of_with value called q (c ∷ [])

by_first : (value : ContentParts → ℕ → List ℕ) (called : List ℕ) (q : Query) → is_counted q ≡ false
    → (cs : List ContentParts) → row_of_with value called q cs ≡ row_by value called q (first cs)
by_first value called q none [] = refl
by_first value called q none (c ∷ cs) = ap (λ (r : Set). if is_match_with value q c then Some r else None)
    (same_row value called q none c (c ∷ cs) (c ∷ []))

some_first : {X : Type 0} (xs : List X) (x : X) → IsOne xs x → is_some (first xs) ≡ true
some_first [] x h = absurd h
some_first (y ∷ xs) x h = refl

first_some : {X : Type 0} (xs : List X) → is_some (first xs) ≡ true → (x : X) × IsOne xs x
first_some [] e = absurd (false≢true e)
first_some (x ∷ xs) e = (x, inl refl)

abbrev AreAlike : Level → List ContentParts → List ContentParts → Type 0
AreAlike level cs ds = (uid : Text) → first (contents_at level uid cs) ≡ first (contents_at level uid ds)

uids_within : (level : Level) (cs ds : List ContentParts) → AreAlike level cs ds → (u : Text)
    → Has (uids_at level cs) u → Has (uids_at level ds) u
uids_within level cs ds alike u h =
    let from = map_has (uid_at level) cs u (has_one (map (uid_at level) cs) u (ascending_has (map (uid_at level) cs) u h)) in
    let here = has_filter (is_at level u) cs from.0 from.1 (same_itself (uid_at level from.0) u (sym from.2)) in
    let there = first_some (contents_at level u ds) (ap is_some (sym (alike u)) ∙ some_first (contents_at level u cs) from.0 here) in
    let at = filter_has (is_at level u) ds there.0 there.1 in
    subst (Has (uids_at level ds)) (same_is (uid_at level there.0) u at.1)
    (has_ascending (map (uid_at level) ds) (uid_at level there.0) (one_has (map (uid_at level) ds) (uid_at level there.0)
    (has_map (uid_at level) ds there.0 at.0)))

pub rows_by_firsts : (value : ContentParts → ℕ → List ℕ) (called : List ℕ) (q : Query) → is_counted q ≡ false
    → (cs ds : List ContentParts) → AreAlike q.level cs ds → rows_with value called q cs ≡ rows_with value called q ds
rows_by_firsts value called q none cs ds alike =
    filter_map_each (row_at_with value called q cs) (row_at_with value called q ds)
    (λ uid. by_first value called q none (contents_at q.level uid cs) ∙ ap (row_by value called q) (alike uid)
    ∙ sym (by_first value called q none (contents_at q.level uid ds))) (uids_at q.level cs)
    ∙ ap (filter_map (row_at_with value called q ds))
    (one_rising (uids_at q.level cs) (uids_at q.level ds) (ascending_rises (map (uid_at q.level) cs))
    (ascending_rises (map (uid_at q.level) ds)) (uids_within q.level cs ds alike)
    (uids_within q.level ds cs (λ uid. sym (alike uid))))

-- ---- firsts of what ascends

-- no key is above a later one
abbrev pub Up : {X : Type 0} → (X → Text) → List X → Type 0
Up key [] = Unit {0}
Up key (x ∷ xs) = AtLeast key (key x) xs × Up key xs

pub ups : {X : Type 0} (key : X → Text) (xs : List X) → Ascends key xs → Up key xs
ups key [] up = tt
ups key (x ∷ xs) up = (at_least_first key x xs up, ups key xs (ascends_tail key x xs up))

at_least_filter : {X : Type 0} (key : X → Text) (k : Text) (p : X → Bool) (xs : List X) → AtLeast key k xs
    → AtLeast key k (filter p xs)
at_least_filter key k p [] low = tt
at_least_filter {X} key k p (x ∷ xs) low = by (p x) (at_least_filter key k p xs low.1)
  where
    by : (b : Bool) → AtLeast key k (filter p xs) → AtLeast key k (cond b (x ∷ filter p xs) (filter p xs))
    by true rest = (low.0, rest)
    by false rest = rest

pub up_filter : {X : Type 0} (key : X → Text) (p : X → Bool) (xs : List X) → Up key xs → Up key (filter p xs)
up_filter key p [] up = tt
up_filter {X} key p (x ∷ xs) up = by (p x) (up_filter key p xs up.1)
  where
    by : (b : Bool) → Up key (filter p xs) → Up key (cond b (x ∷ filter p xs) (filter p xs))
    by true rest = (at_least_filter key (key x) p xs up.0, rest)
    by false rest = rest

at_least_has : {X : Type 0} (key : X → Text) (k : Text) (xs : List X) → AtLeast key k xs → (x : X) → IsOne xs x
    → is_gt (text_cmp k (key x)) ≡ false
at_least_has key k [] low x h = absurd h
at_least_has key k (y ∷ xs) low x (inl e) = ap (λ z. is_gt (text_cmp k (key z))) e ∙ low.0
at_least_has key k (y ∷ xs) low x (inr h) = at_least_has key k xs low.1 x h

first_by : {X : Type 0} (key : X → Text) (p : X → Bool) (y : X) (xs : List X) → AtLeast key (key y) xs → (h : X)
    (b : Bool) → p y ≡ b → first (cond b (y ∷ filter p xs) (filter p xs)) ≡ Some h → (x : X) → IsOne (y ∷ xs) x
    → p x ≡ true
    → (first (filter p xs) ≡ Some h → IsOne xs x → is_gt (text_cmp (key h) (key x)) ≡ false)
    → is_gt (text_cmp (key h) (key x)) ≡ false
first_by key p y xs low h true k f x (inl s) passes rest =
    let tie : y ≡ h = cc in
    ap (λ z. is_gt (text_cmp (key z) (key x))) (sym tie) ∙ ap (λ z. is_gt (text_cmp (key y) (key z))) s
    ∙ ap is_gt (itself (key y))
first_by key p y xs low h true k f x (inr m) passes rest =
    let tie : y ≡ h = cc in
    ap (λ z. is_gt (text_cmp (key z) (key x))) (sym tie) ∙ at_least_has key (key y) xs low x m
first_by key p y xs low h false k f x (inl s) passes rest = absurd (false≢true (sym k ∙ ap p (sym s) ∙ passes))
first_by key p y xs low h false k f x (inr m) passes rest = rest f m

-- the first that passes a test is no greater than another that does
first_low : {X : Type 0} (key : X → Text) (p : X → Bool) (xs : List X) → Up key xs → (h : X)
    → first (filter p xs) ≡ Some h → (x : X) → IsOne xs x → p x ≡ true → is_gt (text_cmp (key h) (key x)) ≡ false
first_low key p [] up h e x has passes = absurd has
first_low key p (y ∷ xs) up h e x has passes = first_by key p y xs up.0 h (p y) refl e x has passes
    (λ f m. first_low key p xs up.1 h f x m passes)

first_has : {X : Type 0} (xs : List X) (h : X) → first xs ≡ Some h → IsOne xs h
first_has [] h e = absurd cc
first_has (x ∷ xs) h e = inl (let tie : x ≡ h = cc in sym tie)

-- neither is greater
tied : (t u : Text) → is_gt (text_cmp t u) ≡ false → is_gt (text_cmp u t) ≡ false → t ≡ u
tied t u f g = by (text_cmp t u) refl
  where
    by : (o : Ordering) → text_cmp t u ≡ o → t ≡ u
    by Less e = absurd (false≢true (sym g ∙ ap is_gt (nat_list_cmp_total.antisymm u t ∙ ap ordering_reverse e)))
    by Equal e = equal_is t u e
    by Greater e = absurd (false≢true (sym f ∙ ap is_gt e))

-- some contents stand for these: of the same study and the same series, and with no greater SOP Instance UID
pub record StandsFor (level : Level) (ds : List ContentParts) (c : ContentParts) : Type 0 where
  pub other : ContentParts
  pub one : IsOne ds other
  pub uid : uid_at level other ≡ uid_at level c
  pub low : is_gt (text_cmp other.instance c.instance) ≡ false

module _ (level : Level) (cs ds : List ContentParts) (cs_up : Up (λ c. c.instance) cs)
    (ds_up : Up (λ c. c.instance) ds) (within : (d : ContentParts) → IsOne ds d → IsOne cs d)
    (single : (c d : ContentParts) → IsOne cs c → IsOne cs d → c.instance ≡ d.instance → c ≡ d)
    (stand : (c : ContentParts) → IsOne cs c → StandsFor level ds c) where
  pub firsts_alike : (uid : Text) → first (contents_at level uid cs) ≡ first (contents_at level uid ds)
  firsts_alike uid = by (first (contents_at level uid cs)) (first (contents_at level uid ds)) refl refl
    where
      by : (r s : Option ContentParts) → first (contents_at level uid cs) ≡ r → first (contents_at level uid ds) ≡ s
          → r ≡ s
      by None None e f = refl
      by None (Some d) e f =
          let at = filter_has (is_at level uid) ds d (first_has (contents_at level uid ds) d f) in
          absurd (false≢true (ap is_some (sym e) ∙ some_first (contents_at level uid cs) d
          (has_filter (is_at level uid) cs d (within d at.0) at.1)))
      by (Some c) None e f =
          let at = filter_has (is_at level uid) cs c (first_has (contents_at level uid cs) c e) in
          let s = stand c at.0 in
          absurd (false≢true (ap is_some (sym f) ∙ some_first (contents_at level uid ds) s.other
          (has_filter (is_at level uid) ds s.other s.one (ap (λ (t : Text). same t uid) s.uid ∙ at.1))))
      by (Some c) (Some d) e f =
          let c_at = filter_has (is_at level uid) cs c (first_has (contents_at level uid cs) c e) in
          let d_at = filter_has (is_at level uid) ds d (first_has (contents_at level uid ds) d f) in
          let s = stand c c_at.0 in
          let d_low : is_gt (text_cmp d.instance s.other.instance) ≡ false =
          first_low (λ x. x.instance) (is_at level uid) ds ds_up d f s.other s.one
          (ap (λ (t : Text). same t uid) s.uid ∙ c_at.1) in
          let c_low : is_gt (text_cmp c.instance d.instance) ≡ false =
          first_low (λ x. x.instance) (is_at level uid) cs cs_up c e d (within d d_at.0) d_at.1 in
          ap Some (single c d c_at.0 (within d d_at.0) (tied c.instance d.instance c_low
          (upto nat_list_cmp_total d.instance s.other.instance c.instance d_low s.low)))
