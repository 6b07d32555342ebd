use Rattle.std.proofs.Common.{Ok, Err}
use Rattle.octets.specs.Gives.{Tells}
use Rattle.exchange_frames.specs.Fault.{is_memory}
use Rattle.exchange_frames.specs.Reading.{IsOutcome}
use Rattle.exchange_frames.proofs.Outcomes.{only_outcome, found_text, body_is}
use Rattle.exchange_frames.proofs.reader.read_frame_body.Goals as goal

told : (c : goal.After-body_of) → Tells is_memory (λ f. f) c.body_of.result (IsOutcome c.args.header.now.kind
    c.args.body)
told c = rw c.kind.ensures at c.body_of.ensures

-- What came of the body is told of the text.
pub returns-clause-found : goal.returns-clause-found
returns-clause-found c = found_text c.args.header.now c.args.body c.body_of.result c.requires (told c)

-- A frame that the text spells is the outcome of its body.
pub returns-clause-only : goal.returns-clause-only
returns-clause-only c = λ f is e. only_outcome c.args.header.now.kind c.args.body c.body_of.result (Ok f) (told c)
    (body_is c.args.header.now c.args.body f is e)

-- A fault is an outcome, and there is one.
pub returns-clause-faulty : goal.returns-clause-faulty
returns-clause-faulty c = λ e has. only_outcome c.args.header.now.kind c.args.body c.body_of.result (Err e) (told c) has
