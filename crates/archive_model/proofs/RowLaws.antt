-- Rows see no byte of a data set.
use Rattle.std.proofs.Common.{◌≡◌, ℕ, List, [], ◌∷◌, length, Some, None, refl, sym, ap, ◌∙◌, map}
use Rattle.std.specs.Prelude.{◌||◌, ◌==◌, not, if◌then◌else◌}
use Rattle.std.specs.List.{filter, filter_map, list_all, join_with_byte}
use Rattle.std.specs.Option.{option_map}
use Rattle.std.specs.Fmt.{decimal}
use Rattle.std.proofs.lemmas.List.{length-map}
use Rattle.dictionary.specs.declared.elements.TheConstants.{MODALITIES_IN_STUDY, NUMBER_OF_SERIES_RELATED_INSTANCES}
use Rattle.dictionary.specs.declared.elements.TheConstants.{NUMBER_OF_STUDY_RELATED_INSTANCES}
use Rattle.dictionary.specs.declared.elements.TheConstants.{NUMBER_OF_STUDY_RELATED_SERIES, QUERY_RETRIEVE_LEVEL}
use Rattle.dictionary.specs.declared.elements.TheConstants.{RETRIEVE_AE_TITLE, SPECIFIC_CHARACTER_SET}
use Rattle.data_set.specs.declared.syntax.Syntax.TheVariants.{Explicit}
use Rattle.octets.specs.Texts.{same, ascending}
use Rattle.operation.specs.Parts.{ContentParts, value_at, own_value}
use Rattle.operation.specs.RecordParts.{content_record}
use Rattle.archive_model.specs.Attributes.{attribute}
use Rattle.archive_model.specs.Contents.{modality_of, series_of}
use Rattle.archive_model.specs.Shown.{shown}
use Rattle.key_matching.specs.Matches.{matches}
use Rattle.archive_model.specs.declared.key.Level.{Level}
use Rattle.archive_model.specs.declared.key.Level.TheVariants.{Study, Series, Image}
use Rattle.archive_model.specs.declared.query.Query.{Query}
use Rattle.archive_model.specs.Cell.{cell}
use Rattle.archive_model.specs.Column.{columns}
use Rattle.archive_model.specs.Key.{word_of}
use Rattle.archive_model.specs.Rows.{asked_value, cell_in_row, contents_at, is_asked, is_at, is_match_with, is_named}
use Rattle.archive_model.specs.Rows.{is_unique_key, modalities_of, named, row_at_with, row_of_with, row_with, rows_of}
use Rattle.archive_model.specs.Rows.{rows_with, uid_at, uids_at}
use Rattle.archive_model.specs.RecordLaws as laws
use Rattle.archive_model.proofs.Keeping.{filter_kept, map_kept}
use Rattle.archive_model.proofs.Alike.{Alike, alike_filter, bare, same_correcting, same_shown, sees_attribute, stripped}

-- what gives the attributes of contents their values
abbrev Values : Type 0
Values = ContentParts → ℕ → List ℕ

pub sees_uid : (level : Level) (c : ContentParts) → uid_at level (bare c) ≡ uid_at level c
sees_uid Study c = refl
sees_uid Series c = refl
sees_uid Image c = refl

-- ---- a row of contents of no byte

module _ (value : Values) (sees : (c : ContentParts) (tag : ℕ) → value (bare c) tag ≡ value c tag) where
  bare_match : (q : Query) (c : ContentParts) → is_match_with value q (bare c) ≡ is_match_with value q c
  bare_match q c = λ i. list_all (λ asked. matches asked.matching asked.key (sees c asked.tag i)) q.asked

  bare_modalities : (cs : List ContentParts) → modalities_of (map bare cs) ≡ modalities_of cs
  bare_modalities cs =
      ap (λ (ms : List (List ℕ)). ascending (filter (λ m. not (length m == 0)) ms))
      (sym (map_kept bare modality_of modality_of (λ c. refl) cs))

  bare_series : (cs : List ContentParts) → map series_of (map bare cs) ≡ map series_of cs
  bare_series cs = sym (map_kept bare series_of series_of (λ c. refl) cs)

  bare_asked : (cs : List ContentParts) (c : ContentParts) (tag : ℕ)
      → asked_value value (map bare cs) (bare c) tag ≡ asked_value value cs c tag
  bare_asked cs c tag =
      let modalities : modalities_of (map bare cs) ≡ modalities_of cs = bare_modalities cs in
      let series : map series_of (map bare cs) ≡ map series_of cs = bare_series cs in
      let many : length (map bare cs) ≡ length cs = length-map cs bare in
      λ i. if tag == MODALITIES_IN_STUDY then join_with_byte 0x5c (modalities i)
      else if tag == NUMBER_OF_STUDY_RELATED_SERIES then decimal (length (ascending (series i)))
      else if tag == NUMBER_OF_STUDY_RELATED_INSTANCES || tag == NUMBER_OF_SERIES_RELATED_INSTANCES then decimal
      (many i)
      else sees c tag i

  bare_cell : (called : List ℕ) (q : Query) (cs : List ContentParts) (c : ContentParts) (tag : ℕ)
      → cell_in_row value called q (map bare cs) (bare c) tag ≡ cell_in_row value called q cs c tag
  bare_cell called q cs c tag =
      λ i. option_map (cell tag) (if tag == SPECIFIC_CHARACTER_SET then value_at tag c.values
      else if tag == QUERY_RETRIEVE_LEVEL then Some (word_of q.level)
      else if tag == RETRIEVE_AE_TITLE then Some called
      else if is_unique_key tag then Some (own_value c tag)
      else if is_asked q tag then Some (bare_asked cs c tag i)
      else None)

  bare_row : (called : List ℕ) (q : Query) (cs : List ContentParts) (c : ContentParts)
      → row_with value called q (map bare cs) (bare c) ≡ row_with value called q cs c
  bare_row called q cs c =
      λ i. record { syntax = Explicit; elements = filter_map (λ tag. bare_cell called q cs c tag i) (columns q.level) }

  bare_row_of : (called : List ℕ) (q : Query) (cs : List ContentParts)
      → row_of_with value called q (map bare cs) ≡ row_of_with value called q cs
  bare_row_of called q [] = refl
  bare_row_of called q (c ∷ cs) =
      λ i. if bare_match q c i then Some (bare_row called q (c ∷ cs) c i) else None

  bare_row_at : (called : List ℕ) (q : Query) (cs : List ContentParts) (uid : List ℕ)
      → row_at_with value called q (map bare cs) uid ≡ row_at_with value called q cs uid
  bare_row_at called q cs uid =
      ap (row_of_with value called q) (sym (filter_kept bare (is_at q.level uid) (is_at q.level uid)
      (λ c. ap (λ (u : List ℕ). same u uid) (sees_uid q.level c)) cs))
      ∙ bare_row_of called q (contents_at q.level uid cs)

  bare_uids : (level : Level) (cs : List ContentParts) → uids_at level (map bare cs) ≡ uids_at level cs
  bare_uids level cs = ap ascending (sym (map_kept bare (uid_at level) (uid_at level) (sees_uid level) cs))

  bare_rows : (called : List ℕ) (q : Query) (cs : List ContentParts)
      → rows_with value called q (map bare cs) ≡ rows_with value called q cs
  bare_rows called q cs =
      λ i. filter_map (λ uid. bare_row_at called q cs uid i) (bare_uids q.level cs i)

  -- contents of which the same is kept have the same rows
  alike_rows : (called : List ℕ) (q : Query) (cs ds : List ContentParts) → Alike cs ds
      → rows_with value called q cs ≡ rows_with value called q ds
  alike_rows called q cs ds alike =
      let stripping : (es : List ContentParts) → map bare es ≡ map stripped (map content_record es) =
      λ es. map_kept content_record bare stripped (λ c. refl) es in
      sym (bare_rows called q cs) ∙ ap (rows_with value called q) (stripping cs ∙ ap (map stripped) alike
      ∙ sym (stripping ds)) ∙ bare_rows called q ds

pub same_rows : laws.SameRows
unfolding rows_of
same_rows ops others view called q kept =
    alike_rows (attribute ops) (sees_attribute ops) called q (named q (shown view ops)) (named q (shown view others))
    (alike_filter (is_named q) (λ c. refl) (shown view ops) (shown view others) (same_shown ops others view kept))
    ∙ (λ i. rows_with (λ c tag. same_correcting ops others kept c tag i) called q (named q (shown view others)))
