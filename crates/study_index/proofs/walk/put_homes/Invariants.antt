use Rattle.std.proofs.Common.{◌≡◌, List, ℕ, map}
use Rattle.std.specs.Prelude.{◌||◌}
use Rattle.std.specs.List.{list_any}
use Rattle.std.specs.Map.Iter.{deref}
use Rattle.octets.specs.Texts.{text_cmp}
use Rattle.study_index.specs.Keys.{has}
use Rattle.study_index.specs.Leads.{is_key}
use Rattle.study_index.proofs.walk.put_homes.Given as goal

-- what the leads so far come to is in
abbrev pub invariant-loop-lead : goal.invariant-loop-lead
invariant-loop-lead l = (s : List ℕ) → has text_cmp l.studies.keys s ≡ (has text_cmp l.initial.studies.keys
    s || list_any (is_key s) (map deref l.yielded))
