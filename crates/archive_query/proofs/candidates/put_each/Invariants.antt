use Rattle.std.proofs.Common.{◌≡◌, ℕ, List}
use Rattle.std.specs.Prelude.{◌||◌}
use Rattle.std.specs.List.{list_any}
use Rattle.octets.specs.Texts.{text_cmp}
use Rattle.study_index.specs.Keys.{has}
use Rattle.study_index.specs.Live.{pick_at, is_of_study}
use Rattle.archive_query.proofs.candidates.put_each.Given as goal

-- what is in, with what is of the studies that are left, is all
abbrev pub invariant-loop-study : goal.invariant-loop-study
invariant-loop-study l = (uid : List ℕ)
    → (has text_cmp l.uids.keys uid || list_any (λ study. is_of_study study
    (pick_at uid l.index.picks)) l.study-iterator)
    ≡ (has text_cmp l.initial.uids.keys uid
    || list_any (λ study. is_of_study study (pick_at uid l.index.picks)) l.initial.study-iterator)
