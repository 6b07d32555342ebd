use Rattle.std.proofs.Common.{ap}
use Rattle.std.specs.Cmp.Lexicographic.{nat_list_cmp_total}
use Rattle.std.specs.FinMap.{same_map, nat_cmp-IsAntisymmetric, slice_cmp-IsAntisymmetric}
use Rattle.site_state.specs.Site.{ops_of}
use Rattle.archive_model.specs.Rows.{rows_of}
use Rattle.archive_query.proofs.laws.same_sites_answer_alike.Goals as goal

-- Two sites that hold the same operation under each digest have the same rows.
pub returns : goal.returns
returns c view called query one other same =
    ap (λ site. rows_of view called query (ops_of site))
    (same_map nat_list_cmp_total (slice_cmp-IsAntisymmetric nat_cmp-IsAntisymmetric) one other same)
