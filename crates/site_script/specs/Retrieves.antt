-- What a `get` line asks for: the keys of its identifier (PS3.4, C.4.3.1.3), and what it accepts.
use Rattle.std.specs.Prelude.{ℕ, List, [], ◌∷◌, true, false, codes, if◌then◌else◌}
use Rattle.std.specs.List.{join_with_byte}
use Rattle.octets.specs.Padding.{trimmed}
use Rattle.dictionary.specs.declared.elements.TheConstants.{QUERY_RETRIEVE_LEVEL, SERIES_INSTANCE_UID, SOP_INSTANCE_UID}
use Rattle.dictionary.specs.declared.elements.TheConstants.{STUDY_INSTANCE_UID}
use Rattle.dictionary.specs.declared.uids.TheConstants.{CT_IMAGE_STORAGE, KEY_OBJECT_SELECTION_DOCUMENT_STORAGE}
use Rattle.archive_model.specs.declared.accepts.Accepted.{Accepted}
use Rattle.archive_model.specs.declared.accepts.Accepts.{Accepts}
use Rattle.site_script.specs.declared.key.Key.{Key}
use Rattle.site_script.specs.Names.{is}

-- ---- lists of UIDs

-- some UIDs, with a backslash between each two
abbrev pub joined : List (List ℕ) → List ℕ
joined uids = join_with_byte 92 uids

-- the first, and nothing where there is none
abbrev pub first_in : List (List ℕ) → List ℕ
first_in [] = []
first_in (uid ∷ uids) = uid

abbrev pub behind_first : List (List ℕ) → List (List ℕ)
behind_first [] = []
behind_first (uid ∷ uids) = uids

-- ---- the keys, ascending by tag

abbrev pub key_at : ℕ → List ℕ → Key
key_at tag value = record { tag = tag; value = value }

-- all UIDs are of studies
abbrev pub study_keys : List ℕ → List (List ℕ) → List Key
study_keys level uids = key_at QUERY_RETRIEVE_LEVEL level ∷ key_at STUDY_INSTANCE_UID (joined uids) ∷ []

-- the study, and the rest are of series
abbrev pub series_keys : List ℕ → List (List ℕ) → List Key
series_keys level uids =
    key_at QUERY_RETRIEVE_LEVEL level ∷ key_at STUDY_INSTANCE_UID (first_in uids)
    ∷ key_at SERIES_INSTANCE_UID (joined (behind_first uids)) ∷ []

-- the study, the series, and the rest are of instances
abbrev pub image_keys : List ℕ → List (List ℕ) → List Key
image_keys level uids =
    key_at SOP_INSTANCE_UID (joined (behind_first (behind_first uids))) ∷ key_at QUERY_RETRIEVE_LEVEL level
    ∷ key_at STUDY_INSTANCE_UID (first_in uids) ∷ key_at SERIES_INSTANCE_UID (first_in (behind_first uids)) ∷ []

-- the keys of a level and of the UIDs behind it
unfoldable pub named_keys : List ℕ → List (List ℕ) → List Key
named_keys level uids =
    if is (trimmed level) (codes "SERIES") then series_keys level uids
    else if is (trimmed level) (codes "IMAGE") then image_keys level uids
    else study_keys level uids

-- ---- what is accepted

-- the implicit syntax alone
abbrev pub in_implicit : List ℕ → Accepted
in_implicit class = record { class = class; implicit = true; explicit = false }

-- what a script accepts: the classes of its contents
unfoldable pub SCRIPT_ACCEPTS : Accepts
SCRIPT_ACCEPTS = record { list = in_implicit CT_IMAGE_STORAGE ∷ in_implicit KEY_OBJECT_SELECTION_DOCUMENT_STORAGE ∷ [] }
