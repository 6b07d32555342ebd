use Rattle.std.proofs.Common.{◌≡◌, ◌≤◌, ℕ, List, length, take}
use Rattle.std.specs.Prelude.{◌||◌}
use Rattle.octets.specs.Texts.{text_cmp}
use Rattle.study_index.specs.Keys.{has}
use Rattle.study_index.specs.Live.{pick_at}
use Rattle.archive_query.specs.Candidates.{is_of_some}
use Rattle.archive_query.proofs.candidates.put_studies.Given as goal

-- what is of the studies so far is in
abbrev pub invariant-loop-study : goal.invariant-loop-study
invariant-loop-study l = (l.study-index ≤ length l.studies)
    × ((uid : List ℕ) → has text_cmp l.uids.keys uid ≡ (has text_cmp l.initial.uids.keys uid || is_of_some
    (take l.study-index l.studies) (pick_at uid l.index.picks)))
