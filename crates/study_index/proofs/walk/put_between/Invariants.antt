use Rattle.std.proofs.Common.{◌≡◌, List, ℕ, map}
use Rattle.std.specs.Prelude.{◌&&◌, ◌||◌}
use Rattle.std.specs.List.{list_any}
use Rattle.std.specs.Map.Iter.{deref}
use Rattle.octets.specs.Texts.{text_cmp}
use Rattle.study_index.specs.Keys.{has}
use Rattle.study_index.specs.Leads.{may_have, leads_to}
use Rattle.study_index.proofs.walk.put_between.Given as goal

-- what the leads so far come to, where the needle may stand in their values, is in
abbrev pub invariant-loop-lead : goal.invariant-loop-lead
invariant-loop-lead l = (s : List ℕ) → has text_cmp l.studies.keys s ≡ (has text_cmp l.initial.studies.keys
    s || list_any (λ lead. may_have l.needle lead.value && leads_to l.leads.keys s lead)
    (map deref l.yielded))
