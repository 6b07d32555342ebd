use Rattle.std.proofs.Common.{List, ap, subst, ◌∙◌}
use Rattle.archive_model.specs.declared.listed.Listed.{Listed}
use Rattle.association_services.specs.Accepted.{carried_of, BringsEach}
use Rattle.association_services.proofs.WayLaws.{carried_is_sent}
use Rattle.association_run.proofs.laws.a_get_carries_what_is_sent_of_the_set.Goals as goal

-- The port replied what is listed of its set, and what is sent is made of that and of what was loaded.
pub returns : goal.returns
returns g c contexts before after getting listed replies gets brings =
    ap (λ (l : List Listed). carried_of contexts l replies) gets.replied
    ∙ carried_is_sent contexts getting.view getting.selection (g.P.Port.ops after) replies
    (subst (λ (l : List Listed). BringsEach (g.P.Port.ops after) contexts l replies) gets.replied brings)
