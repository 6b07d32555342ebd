-- The one spelling of each operation, and its digest.
use Rattle.std.specs.Prelude.{ℕ, List, ◌∷◌, ◌++◌, length}
use Rattle.std.specs.Int.{w16, w32, w64, to_be_bytes}
use Rattle.sha2.specs.Sha256.{sha256}
use Rattle.operation.specs.declared.target.Target.{Target}
use Rattle.operation.specs.declared.target.Target.TheVariants.{Study, Patient, Series}
use Rattle.operation.specs.declared.op.Op.{Op}
use Rattle.operation.specs.declared.op.Op.TheVariants.{Content as a_content, Correction as a_correction}
use Rattle.operation.specs.Parts.{ContentParts, CorrectionParts}
use Rattle.operation.specs.Contents.{draft_of}
use Rattle.operation.specs.Drafts.{as_digest}
pub use Rattle.operation.specs.Drafts.{short_text, syntax_byte, draft_text}

-- the kind of a correction and its key: 02 for a study or a patient, which the next byte tells apart, 03 for a series
abbrev pub target_text : Target → List ℕ
target_text (Study key) = 2 ∷ (1 ∷ short_text key)
target_text (Patient key) = 2 ∷ (2 ∷ short_text key)
target_text (Series key) = 3 ∷ short_text key

-- kind and target, tag, the value behind its length, counter and site
abbrev pub correction_text : CorrectionParts → List ℕ
correction_text k =
    target_text k.target ++ (to_be_bytes w32 k.tag ++ (to_be_bytes w16 (length k.value)
    ++ (k.value ++ (to_be_bytes w64 k.stamp.counter ++ to_be_bytes w16 k.stamp.site))))

-- its kind, and the draft
abbrev pub content_text : ContentParts → List ℕ
content_text c = 1 ∷ draft_text (draft_of c)

-- the bytes of an operation
unfoldable pub spelling : Op → List ℕ
spelling (a_content c) = content_text c
spelling (a_correction c) = correction_text c

-- SHA-256 of the spelling (FIPS 180-4)
unfoldable pub hash_of : Op → List ℕ
hash_of op = sha256 (spelling op)

-- the digest, which a content has among its parts; of what a site can take it is the hash (`own_digest`)
unfoldable pub digest_of : Op → List ℕ
digest_of (a_content c) = as_digest c.digest
digest_of (a_correction k) = sha256 (correction_text k)
