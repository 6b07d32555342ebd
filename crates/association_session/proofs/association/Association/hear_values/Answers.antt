use Rattle.std.proofs.Common.{◌++◌, ◌∙◌, Option, Result, Ok, Err, refl, ap, subst}
use Rattle.std.specs.Prelude.{option_to_list}
use Rattle.pdu.specs.declared.pdv.Pdv.{Pdv}
use Rattle.dimse.specs.declared.fault.DimseFault.{DimseFault}
use Rattle.dimse.specs.declared.message.Message.{Message}
use Rattle.dimse.specs.Assembly.{Feeds}
use Rattle.association_session.specs.inner.Association.{assembly_in}
use Rattle.association_session.proofs.HearLaws.{ok_map, fed_start, fed_on, took, broke, broke_fewer, all_heard}
use Rattle.association_session.proofs.HearLaws.{both_map, on_ok_map, at_state, at_within, at_awaited, at_queue}
use Rattle.association_session.proofs.association.Association.hear_values.Goals as goal

-- No value was put together yet.
pub loop-value-init : goal.loop-value-init
loop-value-init c = fed_start _ _ refl

-- A value more ended no message.
pub loop-value-preserved : goal.loop-value-preserved
loop-value-preserved c =
    fed_on c.args.self.now _ c.loop-value.self c.in-Some.value c.pop_front.new.self.items c.feed.new.self c.self.view_is
    c.loop-value.invariant
    (c.pop_front.ensures.items ∙ ap (λ (o : Option Pdv). option_to_list o ++ c.pop_front.new.self.items) c.in-Some.is)
    (subst (λ (r : Result (Option Message) DimseFault). Feeds (assembly_in c.self.inside.link) c.in-Some.value
    r (assembly_in c.feed.new.self))
    (c.in-Ok-None.is ∙ ap (λ (m : Option Message). Ok m) c.in-Ok-None.field-0-is) c.in_ok-answer.ensures.fed)
    c.feed.ensures.limit

-- A value ended a message, which is answered.
pub returns-in-Ok-Some-clause-turned : goal.returns-in-Ok-Some-clause-turned
returns-in-Ok-Some-clause-turned c =
    ok_map c.attend.result _ _
    (λ deeds answered. took c.args.titles.now.list c.args.self.now _ c.loop-value.self c.in-Some.value
    c.pop_front.new.self.items c.feed.new.self c.in-Ok-Some.message deeds _ c.self.view_is c.loop-value.invariant
    (c.pop_front.ensures.items ∙ ap (λ (o : Option Pdv). option_to_list o ++ c.pop_front.new.self.items) c.in-Some.is)
    (subst (λ (r : Result (Option Message) DimseFault). Feeds (assembly_in c.self.inside.link) c.in-Some.value
    r (assembly_in c.feed.new.self))
    (c.in-Ok-Some.is ∙ ap (λ (m : Option Message). Ok m) c.in-Ok-Some.field-0-is) c.in_ok-answer.ensures.fed)
    c.feed.ensures.limit c.requires.idle answered)
    c.attend.ensures.answered

-- A value is refused, and the local user aborts.
pub returns-in-Err : goal.returns-in-Err
returns-in-Err c =
    let established = at_state _ _ c.self.view_is ∙ at_within _ _ c.loop-value.invariant.within ∙ c.requires.established
    in
    let idle = at_awaited _ _ c.self.view_is ∙ c.loop-value.invariant.awaited ∙ c.requires.idle in
    record {
      turned = both_map c.abort.result _ _ _
          (λ deeds sent next. broke c.args.titles.now.list c.args.self.now _ c.loop-value.self c.in-Some.value
          c.pop_front.new.self.items c.feed.new.self c.in-Err._fault deeds c.abort.new.self c.self.view_is
          c.loop-value.invariant
          (c.pop_front.ensures.items ∙ ap (λ (o : Option Pdv). option_to_list o ++ c.pop_front.new.self.items)
          c.in-Some.is)
          (subst (λ (r : Result (Option Message) DimseFault). Feeds (assembly_in c.self.inside.link) c.in-Some.value
          r (assembly_in c.feed.new.self)) c.in-Err.is c.in_ok-answer.ensures.fed)
          (λ e. c.in_ok-answer.ensures.memory (c.in-Err.is ∙ ap (λ (f : DimseFault). Err f) e))
          c.feed.ensures.limit established idle sent next)
          c.abort.ensures.sent c.abort.ensures.next;
      fewer = on_ok_map c.abort.result _ _ (λ next some. broke_fewer c.args.titles.now.list _ _ c.args.self.now.queue
          established (at_queue _ _ next) some) c.abort.ensures.next;
      writable = c.abort.ensures.writable;
    }

-- No value is there any more.
pub returns-clause-turned : goal.returns-clause-turned
returns-clause-turned c =
    all_heard c.args.titles.now.list c.args.self.now _ c.loop-value.self c.pop_front.new.self.items c.new.result
    c.self.view_is c.loop-value.invariant c.requires.idle
    (c.pop_front.ensures.items ∙ ap (λ (o : Option Pdv). option_to_list o ++ c.pop_front.new.self.items)
    c.in_default.is) c.new.ensures
