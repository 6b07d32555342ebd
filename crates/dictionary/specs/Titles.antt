-- The document titles of rejection notes (PS3.16, CID 7010) and their coding scheme, each constant with its text.
use Rattle.std.specs.Prelude.{ℕ, List, [], ◌∷◌, codes}
use Rattle.dictionary.specs.declared.titles.TheConstants.{CODING_SCHEME_DCM, REJECTED_FOR_QUALITY_REASONS}
use Rattle.dictionary.specs.declared.titles.TheConstants.{REJECTED_FOR_PATIENT_SAFETY_REASONS}
use Rattle.dictionary.specs.declared.titles.TheConstants.{INCORRECT_MODALITY_WORKLIST_ENTRY}
use Rattle.dictionary.specs.declared.titles.TheConstants.{DATA_RETENTION_POLICY_EXPIRED}

abbrev pub titles : List (List ℕ × List ℕ)
titles =
    (CODING_SCHEME_DCM, codes "DCM")
    ∷ (REJECTED_FOR_QUALITY_REASONS, codes "113001")
    ∷ (REJECTED_FOR_PATIENT_SAFETY_REASONS, codes "113037")
    ∷ (INCORRECT_MODALITY_WORKLIST_ENTRY, codes "113038")
    ∷ (DATA_RETENTION_POLICY_EXPIRED, codes "113039")
    ∷ []
