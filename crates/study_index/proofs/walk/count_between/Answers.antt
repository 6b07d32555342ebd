use Rattle.std.proofs.Common.{rules, ◌≡◌, ◌∙◌, ap, sym, map, length}
use Rattle.std.specs.List.{filter}
use Rattle.std.specs.Map.Iter.{deref}
use Rattle.std.proofs.lemmas.Map.Iter.{iter_end}
use Rattle.std.proofs.lemmas.List.{length-map}
use Rattle.study_index.specs.Leads.{is_between}
use Rattle.study_index.proofs.LeadLaws.{none_counted}
use Rattle.study_index.proofs.walk.count_between.Goals as goal

-- Nothing stands between them.
pub returns-then-is_gt-clause-counted : goal.returns-then-is_gt-clause-counted
returns-then-is_gt-clause-counted c = λ l. search (rules, none_counted)

-- All of them came.
pub returns-clause-counted : goal.returns-clause-counted
returns-clause-counted c = λ l.
    let all : map deref c.loop.yielded ≡ filter (is_between c.args.front c.args.end) c.args.leads.now.keys =
    search (rules, iter_end) in
    c.loop.invariant.0 ∙ sym (length-map c.loop.yielded deref) ∙ ap length all
