use Rattle.std.proofs.Common.{inr, Option, refl, subst}
use Rattle.operation.specs.declared.op.Op.{Op}
use Rattle.exchange_frames.specs.declared.frame.Frame.TheVariants.{Give}
use Rattle.exchange.specs.Held.{IsLoaded}
use Rattle.exchange.proofs.Gifts.{loaded_for, spoke_next, unread_here}
use Rattle.exchange.proofs.Writings.{speaks_one}
use Rattle.exchange.proofs.saying.load_and_give.Goals as goal

-- What was loaded is written, or a front of it.
pub returns-in-Ok-Some-clause-speaks : goal.returns-in-Ok-Some-clause-speaks
returns-in-Ok-Some-clause-speaks g c = λ spare stands.
    let looks = c.in-Ok-Some.ensures in
    let loaded = subst (λ (r : Option Op). IsLoaded looks.had c.args.digest.now r) c.in-Ok-Some.field-0-is looks.answers
    in
    spoke_next _ _ _ _ _ _ c.say_give.result (
      c.in-Ok-Some.op,
      loaded_for _ looks.had looks.was_had.since c.args.digest.now spare c.in-Ok-Some.op stands loaded,
      speaks_one _ _ (Give c.in-Ok-Some.op) c.say_give.result c.say_give.ensures.ok c.say_give.ensures.err
          c.say_give.ensures.why c.say_give.ensures.sayable,
    )

-- What the holder can't read is passed over.
pub returns-in_ok-push-in-Err-Unreadable-clause-speaks : goal.returns-in_ok-push-in-Err-Unreadable-clause-speaks
returns-in_ok-push-in-Err-Unreadable-clause-speaks g c = λ spare stands.
    inr (record {
      refused = unread_here g.H.Holder.holds g.H.Holder.alone g.H.Holder.refuses_load c.args.holder.now c.load.new.self
          c.args.digest.now c.in-Err-Unreadable.field-0 c.in-Err-Unreadable.field-0-is c.in-Err-Unreadable.ensures;
      wrote = refl;
      passed = c.in_ok-push-in-Err-Unreadable.ensures;
    })
