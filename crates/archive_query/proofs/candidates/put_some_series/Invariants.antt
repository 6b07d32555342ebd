use Rattle.std.proofs.Common.{◌≡◌, ◌≤◌, ℕ, List, length, take}
use Rattle.std.specs.Prelude.{◌||◌}
use Rattle.octets.specs.Texts.{text_cmp}
use Rattle.study_index.specs.Keys.{has}
use Rattle.study_index.specs.Live.{pick_at}
use Rattle.archive_query.specs.Candidates.{is_of_some_series}
use Rattle.archive_query.proofs.candidates.put_some_series.Given as goal

-- what is of the series so far is in
abbrev pub invariant-loop-one : goal.invariant-loop-one
invariant-loop-one l = (l.one-index ≤ length l.series)
    × ((uid : List ℕ) → has text_cmp l.uids.keys uid ≡ (has text_cmp l.initial.uids.keys uid || is_of_some_series
    l.study (take l.one-index l.series) (pick_at uid l.index.picks)))
