use Rattle.std.proofs.Common.{rules, ◌≡◌, ◌∙◌, ap, map}
use Rattle.std.specs.Map.{keys_of}
use Rattle.std.specs.Map.Iter.{deref_pair}
use Rattle.std.proofs.lemmas.Map.Iter.{iter_end}
use Rattle.octets.specs.Texts.{text_cmp}
use Rattle.join_laws.specs.GrowSet.{union_of}
use Rattle.study_index.proofs.live_picks.put_keys.Goals as goal

-- All entries came.
pub returns : goal.returns
returns c =
    let all : map deref_pair c.loop-instance.yielded ≡ c.args.picks.now.entries = search (rules, iter_end) in
    c.loop-instance.invariant ∙ ap (λ es. union_of text_cmp c.args.uids.now.keys (keys_of es)) all
