use Rattle.std.proofs.Common.{◌≡◌, List, ℕ, None}
use Rattle.std.specs.Prelude.{◌||◌}
use Rattle.std.specs.Option.{option_copied}
use Rattle.octets.specs.Texts.{text_cmp}
use Rattle.study_index.specs.Keys.{has}
use Rattle.study_index.proofs.Doubles.{repeats}
use Rattle.study_index.proofs.copies.put_doubled.Given as goal

-- what was put in, with what the copies behind still bring, is all
abbrev pub invariant-loop-copy : goal.invariant-loop-copy
invariant-loop-copy l = (uid : List ℕ) → (has text_cmp l.uids.keys uid || repeats (option_copied l.before)
    l.copy-iterator uid) ≡ (has text_cmp l.fn.uids.keys uid || repeats None l.initial.copy-iterator uid)
