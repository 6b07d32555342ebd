-- What is told of contents beside a log.
use Rattle.std.specs.Prelude.{◌≡◌, ◌⊎◌, List, [], ◌∷◌, None, map}
use Rattle.archive_model.specs.Contents.{contents}
use Rattle.operation.specs.declared.op.Op.{Op}
use Rattle.operation.specs.declared.op.Op.TheVariants.{Content as a_content, Correction as a_correction}
use Rattle.operation.specs.Parts.{ContentParts}
use Rattle.operation.specs.Spelling.{digest_of}
use Rattle.op_log.specs.declared.kept.Kept.{Kept}
use Rattle.op_log.specs.declared.kept.Kept.TheVariants.{New, Known}
use Rattle.op_log.specs.Told.{TellTrue}
use Rattle.record_log.specs.declared.log.RecordLog.{RecordLog}
use Rattle.record_log.specs.Entries.{without_notes}
use Rattle.records.specs.StandIn.{op_in}
use Rattle.site_state.specs.Laws.{after_taking}
use Rattle.site_state.specs.Site.{Map}
use Rattle.shelved_site.specs.declared.unreadable.Unreadable.{Unreadable}
use Rattle.shelved_site.specs.Sites.{IsSiteOf, after_recording}

-- what a file of records tells of some operations: what stands for each content, but for rejection notes
abbrev pub told_of : List Op → List ContentParts
told_of ops = without_notes (contents (map op_in ops))

-- those of a group of operations that are told to be new
abbrev pub new_among : List Op → List Kept → List Op
new_among [] told = []
new_among (op ∷ ops) [] = []
new_among (op ∷ ops) (New ∷ told) = op ∷ new_among ops told
new_among (op ∷ ops) (Known ∷ told) = new_among ops told

-- two contents have one digest
abbrev pub HaveOneDigest : ContentParts → ContentParts → Type 0
HaveOneDigest c d = digest_of (a_content c) ≡ digest_of (a_content d)

-- the first of these has the digest of a content, and the rest stand behind it
abbrev pub IsBehind : List ContentParts → ContentParts → List ContentParts → Type 0
IsBehind [] c rest = ⊥
IsBehind (first ∷ told) c rest = HaveOneDigest first c × (rest ≡ told)

-- an operation is a content, and has the digest of this one
abbrev pub IsNamedBy : Op → ContentParts → Type 0
IsNamedBy (a_content d) c = HaveOneDigest c d
IsNamedBy (a_correction k) c = ⊥

-- these contents have the digests of some of these operations, in their order
abbrev pub AreInOrder : List ContentParts → List Op → Type 0
AreInOrder [] ops = Unit {0}
AreInOrder (c ∷ cs) [] = ⊥
AreInOrder (c ∷ cs) (op ∷ ops) = (IsNamedBy op c × AreInOrder cs ops) ⊎ AreInOrder (c ∷ cs) ops

-- this content is not the one that is told next
abbrev pub IsOther : List ContentParts → ContentParts → Type 0
IsOther told c = (rest : List ContentParts) → ¬ IsBehind told c rest

-- The contents of some operations are those that are told, each by its digest and the first that has it, and these
-- others, both in the order of the operations.
abbrev pub AreOthers : List ContentParts → List Op → List ContentParts → Type 0
AreOthers told [] others = (told ≡ []) × (others ≡ [])
AreOthers told (a_content c ∷ ops) others =
    ((rest : List ContentParts) × IsBehind told c rest × AreOthers rest ops others)
    ⊎ ((behind : List ContentParts) × IsOther told c × (others ≡ c ∷ behind) × AreOthers told ops behind)
AreOthers told (a_correction k ∷ ops) others = AreOthers told ops others

-- a file of records is given up: nothing is added to it any more
abbrev pub IsGivenUp : {D : Type 0} → RecordLog D → Type 0
IsGivenUp records = records.file ≡ None

-- a site took records of what is told, or is read
pub record IsTakenOf (recorded : List Op → Type 0) (site : Map) : Type 0 where
  pub records : List Op
  pub are : recorded records
  pub took : site ≡ after_taking records

-- it is the site that took what stands for all operations of a store, where what is told of these is true
abbrev pub IsToldSiteOf : (List Op → Type 0) → List ContentParts → Map → Type 0
IsToldSiteOf lists told site = (ops : List Op) → lists ops → TellTrue told ops → site ≡ after_recording ops

-- It is the site of what can be read of a store; or, where all can be, it is that of the store if what is told of its
-- operations is true.
abbrev pub IsOpenedOn : (List Unreadable → List Op → Type 0) → List Unreadable → List ContentParts → Map → Type 0
IsOpenedOn shows unreadable told site =
    IsSiteOf (shows unreadable) site ⊎ (unreadable ≡ [] → IsToldSiteOf (shows []) told site)
