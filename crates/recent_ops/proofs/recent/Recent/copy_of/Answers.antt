use Rattle.std.proofs.Common.{◌≡◌, Option, Some, None, sym, ap, ◌∙◌}
use Rattle.std.specs.Option.{option_copied}
use Rattle.std.specs.Prelude.{option_map}
use Rattle.operation.specs.declared.op.Op.{Op}
use Rattle.recent_ops.specs.Recent.{Held}
use Rattle.recent_ops.proofs.Lookups.{shows}
use Rattle.recent_ops.proofs.recent.Recent.copy_of.Goals as goal

-- What was found is there.
pub returns-in_err-copy-in-Some-clause-none : goal.returns-in_err-copy-in-Some-clause-none
returns-in_err-copy-in-Some-clause-none c none =
    let there = shows c.self.inside.ops.entries c.args.self.now c.self.inside.room c.as_bytes.result.now c.args.digest.now
    c.self.invariant.0 c.self.view_is c.as_bytes.ensures in
    let never : Some c.in-Some.held.now.op ≡ None =
    ap (λ (o : Option Held). option_map (λ h. h.op) o) (ap option_copied (sym c.in-Some.is) ∙ c.peek.ensures ∙ there) ∙ none in
    absurd cc

-- The copy is of what the table has under the digest.
pub returns-in_ok-copy-in-Some-clause-found : goal.returns-in_ok-copy-in-Some-clause-found
returns-in_ok-copy-in-Some-clause-found c =
    let there = shows c.self.inside.ops.entries c.args.self.now c.self.inside.room c.as_bytes.result.now c.args.digest.now
    c.self.invariant.0 c.self.view_is c.as_bytes.ensures in
    ap (λ (op : Op). Some op) c.in_ok-copy-in-Some.ensures ∙ ap (λ (h : Held). Some h.op) c.held.view_is
    ∙ ap (λ (o : Option Held). option_map (λ h. h.op) o) (ap option_copied (sym c.in-Some.is) ∙ c.peek.ensures ∙ there)

pub returns-in_ok-copy-in-Some-clause-none : goal.returns-in_ok-copy-in-Some-clause-none
returns-in_ok-copy-in-Some-clause-none c none =
    let there = shows c.self.inside.ops.entries c.args.self.now c.self.inside.room c.as_bytes.result.now c.args.digest.now
    c.self.invariant.0 c.self.view_is c.as_bytes.ensures in
    let never : Some c.in-Some.held.now.op ≡ None =
    ap (λ (o : Option Held). option_map (λ h. h.op) o) (ap option_copied (sym c.in-Some.is) ∙ c.peek.ensures ∙ there) ∙ none in
    absurd cc

-- What the table does not have is not held.
pub returns-in-None-clause-found : goal.returns-in-None-clause-found
returns-in-None-clause-found c =
    let there = shows c.self.inside.ops.entries c.args.self.now c.self.inside.room c.as_bytes.result.now c.args.digest.now
    c.self.invariant.0 c.self.view_is c.as_bytes.ensures in
    ap (λ (o : Option Held). option_map (λ h. h.op) o) (ap option_copied (sym c.in-None.is) ∙ c.peek.ensures ∙ there)
