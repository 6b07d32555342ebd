use Rattle.std.proofs.Common.{◌≡◌, ℕ, List}
use Rattle.std.specs.Prelude.{◌&&◌, ◌||◌}
use Rattle.octets.specs.Texts.{text_cmp}
use Rattle.study_index.specs.Keys.{has}
use Rattle.study_index.specs.Live.{pick_at, is_of_series}
use Rattle.archive_query.proofs.candidates.put_instances.Given as goal

-- what is in, with what the instances that are left bring, is all
abbrev pub invariant-loop-one : goal.invariant-loop-one
invariant-loop-one l = (uid : List ℕ)
    → (has text_cmp l.uids.keys uid || (is_of_series l.study l.series (pick_at uid l.index.picks)
    && has text_cmp l.one-iterator uid))
    ≡ (has text_cmp l.initial.uids.keys uid || (is_of_series l.study l.series (pick_at uid l.index.picks)
    && has text_cmp l.initial.one-iterator uid))
