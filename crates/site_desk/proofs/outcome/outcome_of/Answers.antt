use Rattle.std.proofs.Common.{rules, ◌≡◌, None, subst, sym, ◌∙◌, ap, length}
use Rattle.std.specs.Prelude.{◌==◌}
use Rattle.std.proofs.lemmas.Option.{none-some, same_Some}
use Rattle.site_desk.specs.Answers.{refusal_line, stamp_line}
use Rattle.site_desk.specs.Heard.{HasBody}
use Rattle.site_desk.specs.Outcomes.{all_faults, fault_by}
use Rattle.site_desk.proofs.OutcomeLaws.{no_fault, empty_is}
use Rattle.site_desk.proofs.outcome.outcome_of.Goals as goal

-- A response that is there in whole has a body.
pub returns-in_default-clause-refused : goal.returns-in_default-clause-refused
returns-in_default-clause-refused c = (
  λ fault it. none-some _ (c.in_default.ensures.only (refusal_line fault) it),
  λ made is it. none-some _ (c.in_default.ensures.only (stamp_line made) it),
  λ it. none-some _ (c.in_default.ensures.only _ it.has_body),
)

-- A response without a body, whose status is that, says nothing else.
pub returns-in-None-clause-refused : goal.returns-in-None-clause-refused
returns-in-None-clause-refused c =
    let line = c.in-Some.line.now in record {
      has_status = search rules;
      has_body = subst (HasBody c.args.text.now) (empty_is line (sym c.is_empty.ensures ∙ c.if-is_empty.true))
          c.in-Some.ensures.found;
    }

-- The body is the line of no reason and of no stamp, and a response has one body; its status is another,
pub returns-in-None-2-clause-refused : goal.returns-in-None-2-clause-refused
returns-in-None-2-clause-refused c = (
  λ fault it.
      let first : fault_by c.in-Some.line.now all_faults ≡ None = search rules in
      no_fault c.in-Some.line.now fault first (same_Some _ _ (c.in-Some.ensures.only (refusal_line fault) it)),
  λ made is it.
      let found = c.in_ok-made.ensures.only made is (same_Some _ _ (c.in-Some.ensures.only (stamp_line made) it)) in
      none-some _ (sym c.in_default-2.is ∙ found),
  λ it. search rules,
)

-- or it has a body.
pub returns-in-None-2-2-clause-refused : goal.returns-in-None-2-2-clause-refused
returns-in-None-2-2-clause-refused c = (
  λ fault it.
      let first : fault_by c.in-Some.line.now all_faults ≡ None = search rules in
      no_fault c.in-Some.line.now fault first (same_Some _ _ (c.in-Some.ensures.only (refusal_line fault) it)),
  λ made is it.
      let found = c.in_ok-made.ensures.only made is (same_Some _ _ (c.in-Some.ensures.only (stamp_line made) it)) in
      none-some _ (sym c.in_default-2.is ∙ found),
  λ it.
      let none = same_Some _ _ (c.in-Some.ensures.only _ it.has_body) in
      let long = sym c.if-is_empty.false ∙ c.is_empty.ensures ∙ ap (λ (l : _). length l == 0) none in cc,
)
