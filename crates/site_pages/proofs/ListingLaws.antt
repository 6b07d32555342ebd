-- What stands at the front of a list and behind its end, and what a search finds by what was taken.
use Rattle.std.proofs.Common.{arith, ◌≡◌, ◌∙◌, ◌≤◌, ℕ, List, [], length, take, drop, sym, ap}
use Rattle.std.specs.Prelude.{codes}
use Rattle.std.proofs.lemmas.List.{take_all, drop_all}
use Rattle.data_set.specs.Set.{Set}
use Rattle.operation.specs.declared.op.Op.{Op}
use Rattle.operation.specs.Parts.{ContentParts}
use Rattle.archive_model.specs.declared.view.View.TheVariants.{Archive}
use Rattle.archive_model.specs.declared.query.Query.{Query}
use Rattle.archive_model.specs.Rows.{rows_of}
use Rattle.archive_query.specs.Found.{rows_found}
use Rattle.archive_page.specs.declared.search.Search.{Search}
use Rattle.site_tables.specs.declared.studies.TakenStudies.{TakenStudies}
use Rattle.site_tables.specs.Studies.{rejected_picks, AreTaken}
use Rattle.site_pages.specs.StudiesPages.{query_of, of_modality, listing_with, listing_of}

pub all_taken : {X : Type 0} (n : ℕ) (xs : List X) → length xs ≤ n → xs ≡ take n xs
all_taken n xs low = sym (take_all n xs low)

pub none_left : {X : Type 0} (n k : ℕ) (xs : List X) → length xs ≤ n → [] ≡ take k (drop n xs)
none_left {X} n k xs low =
    sym (ap (λ (ys : List X). take k ys) (drop_all n xs low) ∙ take_all k [] (omega arith))

-- what a search finds of what was taken is what it finds in the set
pub listed_is : (search : Search) (ops : List Op) (taken : TakenStudies) (q : Query) → q ≡ query_of search
    → AreTaken q ops taken
    → listing_with taken.rejected search (of_modality search (rows_found (codes "ARCHIVE") q taken.found))
    ≡ listing_of search ops
listed_is search ops taken q e are =
    ap (λ (cs : List ContentParts). listing_with cs search
    (of_modality search (rows_found (codes "ARCHIVE") q taken.found))) are.rejected
    ∙ ap (λ (sets : List Set). listing_with (rejected_picks ops) search (of_modality search sets))
    (are.rows (codes "ARCHIVE") ∙ ap (λ (x : Query). rows_of Archive (codes "ARCHIVE") x ops) e)
