use Rattle.std.proofs.Common.{rules, ◌≡◌, ◌∙◌, ap, map}
use Rattle.std.specs.Prelude.{◌||◌}
use Rattle.std.specs.List.{filter, list_any}
use Rattle.std.specs.Map.Iter.{deref}
use Rattle.std.proofs.lemmas.Map.Iter.{iter_end}
use Rattle.std.specs.Ordering.{is_gt}
use Rattle.std.specs.BTreeMap.{is_at}
use Rattle.octets.specs.Texts.{text_cmp}
use Rattle.study_index.specs.Keys.{has}
use Rattle.study_index.specs.Leads.{Lead, lead_cmp, is_between, is_key, home_front}
use Rattle.study_index.proofs.LeadLaws.{one_step, homes_in_order}
use Rattle.study_index.proofs.walk.put_homes.Goals as goal

-- The front of a patient's studies is before their end.
pub range-lead-items-requires : goal.range-lead-items-requires
range-lead-items-requires c =
    ap (λ (l : Lead). is_gt (lead_cmp l c.in_ok-end.end)) c.in_ok-front.ensures
    ∙ ap (λ (l : Lead). is_gt (lead_cmp (home_front c.args.patient.now) l)) c.in_ok-end.ensures
    ∙ homes_in_order c.args.patient.now

-- One study more is in.
pub loop-lead-preserved : goal.loop-lead-preserved
loop-lead-preserved c = λ s. one_step (is_key s) (has text_cmp c.args.studies.now.keys s)
    (has text_cmp c.loop-lead.studies.keys s) (has text_cmp c.put.new.studies.keys s) c.loop-lead.yielded
    c.in-Some.lead (c.loop-lead.invariant s)
    (c.in_ok-put.ensures s ∙ ap (λ k. has text_cmp c.loop-lead.studies.keys s || is_at (text_cmp s) k) c.key.ensures)

-- All of them came.
pub returns : goal.returns
returns c = λ s.
    let all : map deref c.loop-lead.yielded ≡ filter (is_between c.in_ok-front.front c.in_ok-end.end)
    c.args.leads.now.keys = search (rules, iter_end) in
    let old = has text_cmp c.args.studies.now.keys s in
    c.loop-lead.invariant s ∙ ap (λ ls. old || list_any (is_key s) ls) all
    ∙ ap (λ (l : Lead). old || list_any (is_key s) (filter (is_between l c.in_ok-end.end) c.args.leads.now.keys))
    c.in_ok-front.ensures
    ∙ ap (λ (l : Lead). old || list_any (is_key s) (filter (is_between (home_front c.args.patient.now) l)
    c.args.leads.now.keys)) c.in_ok-end.ensures
