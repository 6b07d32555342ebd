use Rattle.std.proofs.Common.{rules, ◌≡◌, ◌∙◌, ap, map}
use Rattle.std.specs.Prelude.{◌&&◌, ◌||◌}
use Rattle.std.specs.List.{filter, list_any}
use Rattle.std.specs.Map.Iter.{deref}
use Rattle.std.proofs.lemmas.Map.Iter.{iter_end}
use Rattle.octets.specs.Texts.{text_cmp}
use Rattle.study_index.specs.Keys.{has}
use Rattle.study_index.specs.Leads.{Lead, is_between, may_have, leads_to}
use Rattle.study_index.proofs.LeadLaws.{one_step, none_led, any_and}
use Rattle.study_index.proofs.walk.put_between.Goals as goal

-- What one lead more comes to is in.
pub loop-lead-preserved : goal.loop-lead-preserved
loop-lead-preserved c = λ s. one_step
    (λ lead. may_have c.args.needle.now lead.value && leads_to c.args.leads.now.keys s lead)
    (has text_cmp c.args.studies.now.keys s) (has text_cmp c.loop-lead.studies.keys s)
    (has text_cmp c.put_near.new.studies.keys s) c.loop-lead.yielded c.in-Some.lead (c.loop-lead.invariant s)
    (c.in_ok-put_near.ensures s)

-- Nothing stands between them.
pub returns-then-is_gt : goal.returns-then-is_gt
returns-then-is_gt c = λ s. search (rules, none_led)

-- All of them came.
pub returns : goal.returns
returns c = λ s.
    let front = c.args.front in
    let end = c.args.end in
    let needle = c.args.needle.now in
    let leads = c.args.leads.now.keys in
    let near = λ (lead : Lead). may_have needle lead.value && leads_to leads s lead in
    let all : map deref c.loop-lead.yielded ≡ filter (is_between front end) leads = search (rules, iter_end) in
    c.loop-lead.invariant s ∙ ap (λ ls. has text_cmp c.args.studies.now.keys s || list_any near ls) all
    ∙ ap (λ b. has text_cmp c.args.studies.now.keys s || b)
    (any_and (is_between front end) (λ lead. may_have needle lead.value) (leads_to leads s) leads)
