-- The rows need of a set what is shown, and the values that its corrections give to that.
use Rattle.std.proofs.Common.{◌≡◌, ℕ, Bool, true, false, ◌&&◌, ◌||◌, cond, List, [], ◌∷◌, map, length, Option, Some}
use Rattle.std.proofs.Common.{None, refl, ap, ◌∙◌, inl, inr}
use Rattle.std.specs.Prelude.{◌==◌, if◌then◌else◌}
use Rattle.std.specs.List.{filter, filter_map, cons_option, list_all, join_with_byte}
use Rattle.std.specs.Option.{option_map}
use Rattle.std.specs.Fmt.{decimal}
use Rattle.std.proofs.lemmas.Bool.{eq-eqb}
use Rattle.dictionary.specs.declared.elements.TheConstants.{MODALITIES_IN_STUDY, NUMBER_OF_SERIES_RELATED_INSTANCES}
use Rattle.dictionary.specs.declared.elements.TheConstants.{NUMBER_OF_STUDY_RELATED_INSTANCES}
use Rattle.dictionary.specs.declared.elements.TheConstants.{NUMBER_OF_STUDY_RELATED_SERIES, QUERY_RETRIEVE_LEVEL}
use Rattle.dictionary.specs.declared.elements.TheConstants.{RETRIEVE_AE_TITLE, SPECIFIC_CHARACTER_SET}
use Rattle.data_set.specs.Tree.{Tree}
use Rattle.data_set.specs.Set.{Set}
use Rattle.data_set.specs.declared.syntax.Syntax.TheVariants.{Explicit}
use Rattle.operation.specs.declared.op.Op.{Op}
use Rattle.operation.specs.Parts.{ContentParts, CorrectionParts, value_at, own_value}
use Rattle.octets.specs.Members.{Has}
use Rattle.archive_model.specs.Texts.{ascending}
use Rattle.archive_model.specs.Contents.{series_of}
use Rattle.archive_model.specs.Attributes.{corrections, corrects, greatest, corrected, attribute}
use Rattle.archive_model.proofs.MemberLaws.{has_any, filter_has}
use Rattle.archive_model.specs.declared.asked.Asked.{Asked}
use Rattle.archive_model.specs.declared.query.Query.{Query}
use Rattle.archive_model.specs.Key.{word_of}
use Rattle.key_matching.specs.Matches.{matches}
use Rattle.archive_model.specs.Column.{columns}
use Rattle.archive_model.specs.Cell.{cell}
use Rattle.archive_model.specs.Rows.{is_key_match_with, is_match_with, modalities_of, is_unique_key, is_asked, is_at}
use Rattle.archive_model.specs.Rows.{value_in_row, cell_in_row, row_with, row_of_with, row_at_with, rows_with}
use Rattle.archive_model.specs.Rows.{rows_among}
use Rattle.archive_model.specs.Rows.{uids_at, contents_at}

list_all_each : {X : Type 0} (p q : X → Bool) (xs : List X) → ((x : X) → Has xs x → p x ≡ q x)
    → list_all p xs ≡ list_all q xs
list_all_each p q [] e = refl
list_all_each p q (x ∷ xs) e = ap (λ (b : Bool). b && list_all p xs) (e x (inl refl)) ∙ ap (λ (b : Bool). q x && b)
    (list_all_each p q xs (λ y h. e y (inr h)))

pub filter_map_each : {X Y : Type 0} (f g : X → Option Y) → ((x : X) → f x ≡ g x) → (xs : List X)
    → filter_map f xs ≡ filter_map g xs
filter_map_each f g e [] = refl
filter_map_each {Y = Y} f g e (x ∷ xs) = ap (λ (o : Option Y). cons_option o (filter_map f xs)) (e x)
    ∙ ap (cons_option (g x)) (filter_map_each f g e xs)

-- what a row answers in a column, by the value that an attribute has, and whether it is asked
abbrev in_column : List ℕ → Query → List ContentParts → ContentParts → ℕ → List ℕ → Bool → Option (List ℕ)
in_column called q cs c tag own asked =
    if tag == SPECIFIC_CHARACTER_SET then value_at tag c.values
    else if tag == QUERY_RETRIEVE_LEVEL then Some (word_of q.level)
    else if tag == RETRIEVE_AE_TITLE then Some called
    else if is_unique_key tag then Some (own_value c tag)
    else if asked then Some (
    if tag == MODALITIES_IN_STUDY then join_with_byte 0x5c (modalities_of cs)
    else if tag == NUMBER_OF_STUDY_RELATED_SERIES then decimal (length (ascending (map series_of cs)))
    else if tag == NUMBER_OF_STUDY_RELATED_INSTANCES || tag == NUMBER_OF_SERIES_RELATED_INSTANCES then decimal
    (length cs)
    else own)
    else None

-- values that agree on what is asked of some contents
module _ (mine other : ContentParts → ℕ → List ℕ) (called : List ℕ) (q : Query) (cs : List ContentParts)
    (agree : (c : ContentParts) → Has cs c → (tag : ℕ) → is_asked q tag ≡ true → mine c tag ≡ other c tag) where
  match_alike : (c : ContentParts) → Has cs c → is_match_with mine q c ≡ is_match_with other q c
  match_alike c has = list_all_each (is_key_match_with mine c) (is_key_match_with other c) q.asked
      (λ asked there. ap (matches asked.matching asked.key) (agree c has asked.tag
      (has_any (λ (a : Asked). a.tag == asked.tag) q.asked asked there (eq-eqb asked.tag asked.tag refl))))

  value_alike : (of : List ContentParts) (c : ContentParts) → Has cs c → (tag : ℕ)
      → value_in_row mine called q of c tag ≡ value_in_row other called q of c tag
  value_alike of c has tag = by (is_asked q tag) refl
    where
      by : (b : Bool) → is_asked q tag ≡ b → in_column called q of c tag (mine c tag) b
          ≡ in_column called q of c tag (other c tag) b
      by true e = ap (λ (own : List ℕ). in_column called q of c tag own true) (agree c has tag e)
      by false e = refl

  row_alike : (of : List ContentParts) (c : ContentParts) → Has cs c → row_with mine called q of c
      ≡ row_with other called q of c
  row_alike of c has =
      ap (λ (ts : List Tree). record { syntax = Explicit; elements = ts })
      (filter_map_each (cell_in_row mine called q of c) (cell_in_row other called q of c)
      (λ tag. ap (option_map (cell tag)) (value_alike of c has tag)) (columns q.level))

  row_of_alike : (of : List ContentParts) → ((c : ContentParts) → Has of c → Has cs c)
      → row_of_with mine called q of ≡ row_of_with other called q of
  row_of_alike [] within = refl
  row_of_alike (c ∷ ds) within =
      ap (λ (b : Bool). cond b (Some (row_with mine called q (c ∷ ds) c)) None) (match_alike c (within c (inl refl)))
      ∙ ap (λ (s : Set). cond (is_match_with other q c) (Some s) None) (row_alike (c ∷ ds) c (within c (inl refl)))

  -- values that agree give the same rows
  pub rows_agree : rows_with mine called q cs ≡ rows_with other called q cs
  rows_agree = filter_map_each (row_at_with mine called q cs) (row_at_with other called q cs)
      (λ uid. row_of_alike (contents_at q.level uid cs) (λ c has. (filter_has (is_at q.level uid) cs c has).0))
      (uids_at q.level cs)

-- sets of the same corrections
module _ (ops others : List Op) (same_corrections : corrections others ≡ corrections ops) where
  attribute_alike : (c : ContentParts) (tag : ℕ) → attribute others c tag ≡ attribute ops c tag
  attribute_alike c tag = ap (λ (ks : List CorrectionParts). corrected (own_value c tag)
      (greatest (filter (corrects c tag) ks))) same_corrections

  pub rows_alike : (called : List ℕ) (q : Query) (cs : List ContentParts) → rows_among others called q cs ≡ rows_among
      ops called q cs
  rows_alike called q cs = rows_agree (attribute others) (attribute ops) called q cs
      (λ c has tag asked. attribute_alike c tag)
