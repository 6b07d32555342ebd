-- The UIDs that the standard registers (PS3.6, annex A), each constant with its text.
use Rattle.std.specs.Prelude.{ℕ, List, [], ◌∷◌, codes}
use Rattle.dictionary.specs.declared.uids.TheConstants.{VERIFICATION, CT_IMAGE_STORAGE}
use Rattle.dictionary.specs.declared.uids.TheConstants.{KEY_OBJECT_SELECTION_DOCUMENT_STORAGE, STUDY_ROOT_FIND}
use Rattle.dictionary.specs.declared.uids.TheConstants.{STUDY_ROOT_GET, STORAGE_ROOT, IMPLICIT_VR_LITTLE_ENDIAN}
use Rattle.dictionary.specs.declared.uids.TheConstants.{EXPLICIT_VR_LITTLE_ENDIAN, APPLICATION_CONTEXT_NAME}

abbrev pub uids : List (List ℕ × List ℕ)
uids =
    (VERIFICATION, codes "1.2.840.10008.1.1")
    ∷ (CT_IMAGE_STORAGE, codes "1.2.840.10008.5.1.4.1.1.2")
    ∷ (KEY_OBJECT_SELECTION_DOCUMENT_STORAGE, codes "1.2.840.10008.5.1.4.1.1.88.59")
    ∷ (STUDY_ROOT_FIND, codes "1.2.840.10008.5.1.4.1.2.2.1")
    ∷ (STUDY_ROOT_GET, codes "1.2.840.10008.5.1.4.1.2.2.3")
    ∷ (STORAGE_ROOT, codes "1.2.840.10008.5.1.4.1.1.")
    ∷ (IMPLICIT_VR_LITTLE_ENDIAN, codes "1.2.840.10008.1.2")
    ∷ (EXPLICIT_VR_LITTLE_ENDIAN, codes "1.2.840.10008.1.2.1")
    ∷ (APPLICATION_CONTEXT_NAME, codes "1.2.840.10008.3.1.1.1")
    ∷ []
