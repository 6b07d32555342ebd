use Rattle.std.proofs.Common.{◌≡◌, drop, map}
use Rattle.join_laws.specs.GrowSet.{union_of}
use Rattle.study_index.specs.Leads.{lead_cmp, stored_lead}
use Rattle.study_index.proofs.walk.add_stored.Given as goal

-- with what is left, the leads of all tags are in
abbrev pub invariant-loop-tag : goal.invariant-loop-tag
invariant-loop-tag l = union_of lead_cmp l.leads (map (stored_lead l.content) (drop l.tag-index l.tags)) ≡ union_of
    lead_cmp l.initial.leads (map (stored_lead l.content) l.tags)
