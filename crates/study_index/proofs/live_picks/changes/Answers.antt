use Rattle.std.proofs.Common.{rules, ◌≡◌, ◌∙◌, ap, map}
use Rattle.std.specs.Map.Iter.{deref_pair}
use Rattle.std.proofs.lemmas.Map.Iter.{iter_end}
use Rattle.study_index.specs.Live.{gains, losses}
use Rattle.study_index.proofs.live_picks.changes.Goals as goal

-- These are the places that the list gains where all other picks come in.
pub returns-clause-fresh : goal.returns-clause-fresh
returns-clause-fresh c =
    let all : map deref_pair c.loop-instance.yielded ≡ c.args.other.now.entries = search (rules, iter_end) in
    c.loop-instance.invariant.fresh ∙ ap (gains c.args.picks.now) all

-- These are the places that the list loses where all other picks come in.
pub returns-clause-stale : goal.returns-clause-stale
returns-clause-stale c =
    let all : map deref_pair c.loop-instance.yielded ≡ c.args.other.now.entries = search (rules, iter_end) in
    c.loop-instance.invariant.stale ∙ ap (losses c.args.picks.now) all
