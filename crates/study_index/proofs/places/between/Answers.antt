use Rattle.std.proofs.Common.{rules, ◌≡◌, ◌∙◌, ap, map}
use Rattle.std.specs.List.{filter}
use Rattle.std.specs.Map.Iter.{deref}
use Rattle.std.proofs.lemmas.Map.Iter.{iter_end}
use Rattle.study_index.specs.Live.{is_between}
use Rattle.study_index.proofs.places.between.Goals as goal

-- All places of the range came.
pub returns : goal.returns
returns c =
    let all : map deref c.loop-place.yielded ≡ filter (is_between c.args.front c.args.end) c.args.tree.now.keys =
    search (rules, iter_end) in
    ap (map deref) c.loop-place.invariant ∙ all
