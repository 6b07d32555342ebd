use Rattle.std.proofs.Common.{◌≡◌, Option, Result, IfOk, sym, subst, ap, ◌∙◌}
use Rattle.std.specs.declared.alloc.AllocError.{AllocError}
use Rattle.std.specs.Prelude.{option_map}
use Rattle.operation.specs.declared.op.Op.{Op}
use Rattle.operation.specs.Spelling.{digest_of}
use Rattle.recent_ops.specs.Recent.{Held, RecentOps, op_under}
use Rattle.recent_ops.proofs.Answering.{the_same, holds_of}
use Rattle.recent_ops.proofs.Lookups.{told, still_under}
use Rattle.recent_ops.proofs.recent.Recent.find.Goals as goal

-- What is found under a digest has it.
pub returns-clause-told : goal.returns-clause-told
returns-clause-told c =
    let digest = c.args.digest.now in
    holds_of (λ op. digest_of op ≡ digest) c.copy_of.result (op_under digest c.use_last.new.self.held) (told digest c.use_last.new.self.held) c.copy_of.ensures.found

-- The operation is found where it was.
pub returns-clause-found : goal.returns-clause-found
returns-clause-found c =
    let digest = c.args.digest.now in
    the_same c.copy_of.result (op_under digest c.use_last.new.self.held) (op_under digest c.args.self.now.held)
    (ap (λ (r : RecentOps). op_under digest r.held) c.use_last.ensures
    ∙ ap (λ (o : Option Held). option_map (λ h. h.op) o) (still_under digest c.args.self.now.held)) c.copy_of.ensures.found

-- Where nothing has the digest nothing is copied, which takes no memory.
pub returns-clause-none : goal.returns-clause-none
returns-clause-none c =
    let digest = c.args.digest.now in (
      λ is. sym (subst (λ (r : Result (Option Op) AllocError). IfOk r (λ found. found ≡ op_under digest c.args.self.now.held)) is (returns-clause-found c)),
      λ none. c.copy_of.ensures.none (ap (λ (r : RecentOps). op_under digest r.held) c.use_last.ensures
          ∙ ap (λ (o : Option Held). option_map (λ h. h.op) o) (still_under digest c.args.self.now.held) ∙ none),
    )
