use Rattle.std.proofs.Common.{Ok, Err, ◌≡◌, subst}
use Rattle.octets.specs.Gives.{Tells}
use Rattle.operation.specs.declared.draft.Draft.{Draft}
use Rattle.operation.specs.Fault.{is_memory}
use Rattle.operation.specs.Contents.{IsOutcome, drafted}
use Rattle.operation.proofs.ContentLaws.{only_outcome}
use Rattle.operation.proofs.contents.content_of.Goals as goal

told : (c : goal.After-content_from) → Tells is_memory (λ x. x) c.content_from.result
    (IsOutcome (drafted c.args.class c.args.instance c.args.syntax c.args.body))
told c =
    let given : Draft = record {
      class = c.unpadded.result;
      instance = c.unpadded-2.result;
      syntax = c.args.syntax;
      body = c.args.body;
    } in
    let e : given ≡ drafted c.args.class c.args.instance c.args.syntax c.args.body = cc in
    subst (λ (d : Draft). Tells is_memory (λ x. x) c.content_from.result (IsOutcome d)) e c.content_from.ensures

-- A draft has one outcome, and the content is one.
pub returns-clause-only : goal.returns-clause-only
returns-clause-only c = λ content is e.
    only_outcome (drafted c.args.class c.args.instance c.args.syntax c.args.body) c.content_from.result (Ok content)
    (told c) (e, is)

-- A draft has one outcome, and its refusal is one.
pub returns-clause-faulty : goal.returns-clause-faulty
returns-clause-faulty c = λ f refused.
    only_outcome (drafted c.args.class c.args.instance c.args.syntax c.args.body) c.content_from.result (Err f) (told c)
    refused
