-- The keys that are supported, and how each matches (PS3.4, C.6.2.1).
use Rattle.std.specs.Prelude.{ℕ, List, Bool, true, false, Option, Some, None, if◌then◌else◌, codes}
use Rattle.dictionary.specs.declared.role.Entity.{Entity}
use Rattle.dictionary.specs.declared.role.Entity.TheVariants.{Patient as a_patient, Study as a_study}
use Rattle.dictionary.specs.declared.role.Entity.TheVariants.{Series as a_series, Instance as an_instance}
use Rattle.dictionary.specs.declared.role.Matching.{Matching}
use Rattle.dictionary.specs.Elements.{role_in_table}
use Rattle.dictionary.specs.Roles.{key_of}
use Rattle.archive_model.specs.declared.key.Level.{Level}
use Rattle.archive_model.specs.declared.key.Level.TheVariants.{Study, Series, Image}

-- The keys of a level are those of one entity, but that STUDY has those of the patient too: not those of the levels
-- above.
abbrev pub has_keys_of : Level → Entity → Bool
has_keys_of Study a_patient = true
has_keys_of Study a_study = true
has_keys_of Study a_series = false
has_keys_of Study an_instance = false
has_keys_of Series a_patient = false
has_keys_of Series a_study = false
has_keys_of Series a_series = true
has_keys_of Series an_instance = false
has_keys_of Image a_patient = false
has_keys_of Image a_study = false
has_keys_of Image a_series = false
has_keys_of Image an_instance = true

abbrev pub matching_at : Level → Option (Entity × Matching) → Option Matching
matching_at level None = None
matching_at level (Some key) = if has_keys_of level key.0 then Some key.1 else None

-- how a key of the table matches, if it is supported at a level
abbrev pub matching_of : Level → ℕ → Option Matching
matching_of level tag = matching_at level (key_of (role_in_table tag))

-- the study is named above SERIES and IMAGE, the series above IMAGE (PS3.4, C.4.1.2.1)
abbrev pub has_study_above : Level → Bool
has_study_above Study = false
has_study_above Series = true
has_study_above Image = true

abbrev pub has_series_above : Level → Bool
has_series_above Study = false
has_series_above Series = false
has_series_above Image = true

-- the word in (0008,0052)
abbrev pub word_of : Level → List ℕ
word_of Study = codes "STUDY"
word_of Series = codes "SERIES"
word_of Image = codes "IMAGE"
