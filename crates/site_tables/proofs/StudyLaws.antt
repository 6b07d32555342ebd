-- What lies under a study is of the study.
use Rattle.std.proofs.Common.{◌≡◌, ℕ, Bool, true, false, cond, List, [], ◌∷◌, ◌++◌, map, length, refl, ap, ◌∙◌}
use Rattle.std.specs.Prelude.{codes}
use Rattle.std.specs.List.{filter}
use Rattle.std.specs.Fmt.{decimal}
use Rattle.dictionary.specs.declared.elements.TheConstants.{STUDY_INSTANCE_UID}
use Rattle.data_set.specs.Set.{Set}
use Rattle.operation.specs.Parts.{ContentParts}
use Rattle.octets.specs.Texts.{same}
use Rattle.archive_model.specs.Contents.{study_of}
use Rattle.archive_model.specs.Groups.{in_study}
use Rattle.archive_query.specs.Found.{rows_found}
use Rattle.operation.specs.declared.op.Op.{Op}
use Rattle.site_tables.specs.declared.studies.TakenStudies.{TakenStudies}
use Rattle.site_tables.specs.declared.under.Under.{Under}
use Rattle.site_tables.specs.Under.{is_at, held_under, Holds}
use Rattle.site_tables.specs.Studies.{study_pair, row_with, row_by, value_or_none, study_query, study_tags}
use Rattle.site_tables.specs.Studies.{rejected_picks, rows_taken, study_rows, AreTaken}
use Rattle.site_tables.proofs.UnderLaws.{map_each}

study_under : (uid : List ℕ) (cs : List ContentParts) → held_under uid (map study_pair cs) ≡ in_study uid cs
study_under uid [] = refl
study_under uid (c ∷ cs) = by (same (study_of c) uid) (study_under uid cs)
  where
    by : (b : Bool) → held_under uid (map study_pair cs) ≡ in_study uid cs
        → map (λ p. p.1)
        (cond b (study_pair c ∷ filter (is_at uid) (map study_pair cs)) (filter (is_at uid) (map study_pair cs)))
        ≡ cond b (c ∷ in_study uid cs) (in_study uid cs)
    by true rest = ap (λ (ds : List ContentParts). c ∷ ds) rest
    by false rest = rest

row_is : (tags : List ℕ) (rejected : List ContentParts) (entries : List (Under ContentParts))
    → Holds (map study_pair rejected) entries → (set : Set) → row_by tags entries set ≡ row_with tags rejected set
row_is tags rejected entries holds set =
    let uid = value_or_none STUDY_INSTANCE_UID set in
    ap (λ (cs : List ContentParts). map (λ tag. value_or_none tag set) tags ++ decimal (length cs) ∷ [])
    (holds.each uid ∙ study_under uid rejected)

pub rows_are : (tags : List ℕ) (rejected : List ContentParts) (entries : List (Under ContentParts)) (sets : List Set)
    → Holds (map study_pair rejected) entries → map (row_by tags entries) sets ≡ map (row_with tags rejected) sets
rows_are tags rejected entries sets holds =
    map_each (row_by tags entries) (row_with tags rejected) (row_is tags rejected entries holds) sets

-- what was taken tells the rows of all studies
pub taken_are : (ops : List Op) (taken : TakenStudies) → AreTaken study_query ops taken → rows_taken taken ≡ study_rows ops
taken_are ops taken are =
    ap (λ (cs : List ContentParts). map (row_with study_tags cs) (rows_found (codes "ARCHIVE") study_query taken.found))
    are.rejected
    ∙ ap (λ (sets : List Set). map (row_with study_tags (rejected_picks ops)) sets) (are.rows (codes "ARCHIVE"))
