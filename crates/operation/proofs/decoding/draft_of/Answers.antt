use Rattle.std.proofs.Common.{◌≡◌, ◌-◌, ℕ, Ok, length, drop, sym, subst, ap, ◌∙◌}
use Rattle.operation.specs.declared.draft.Draft.{Draft}
use Rattle.operation.specs.Front.{drafted_front}
use Rattle.operation.specs.Spelling.{draft_text}
use Rattle.operation.proofs.ReadingLaws.{body_behind}
use Rattle.operation.proofs.decoding.draft_of.Goals as goal

-- the draft that was read, and that is answered
made : (c : goal.After-advance) → Draft
made c = record {
  class = c.in_ok-class.class;
  instance = c.in_ok-instance.instance;
  syntax =
      c.in_ok-front.front.syntax;
  body = c.advance.new.self;
}

spelled : (c : goal.After-advance) → c.args.text ≡ draft_text (drafted_front c.in_ok-front.front)
spelled c = rw c.as_slice.ensures at c.in_ok-front.ensures.spelled

same : (c : goal.After-advance) → drafted_front c.in_ok-front.front ≡ made c
unfolding made
same c =
    let front = drafted_front c.in_ok-front.front in
    let behind : drop (c.len.result - length front.body) c.args.text ≡ front.body =
    ap (λ (n : ℕ). drop (n - length front.body) c.args.text) c.len.ensures.value ∙ body_behind front c.args.text
    (spelled c)
    in
    let class : front.class ≡ c.in_ok-class.class = sym c.in_ok-class.ensures in
    let instance : front.instance ≡ c.in_ok-instance.instance = sym c.in_ok-instance.ensures in
    let body : front.body ≡ c.advance.new.self = sym (c.advance.ensures ∙ behind) in
    λ i. record { class = class i; instance = instance i; syntax = front.syntax; body = body i }

-- The draft that was read is the one that is answered: its data set is what stands behind the rest.
pub returns-clause-exact : goal.returns-clause-exact
unfolding made
returns-clause-exact c = (rw c.as_slice.ensures at c.in_ok-front.ensures.exact) ∙ ap (λ (d : Draft). Ok d) (same c)

-- The text spells the draft that was read, and that is the one that is answered.
pub returns-clause-spelled : goal.returns-clause-spelled
unfolding made
returns-clause-spelled c = subst (λ (d : Draft). c.args.text ≡ draft_text d) (same c) (spelled c)
