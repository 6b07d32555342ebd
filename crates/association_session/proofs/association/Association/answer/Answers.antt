use Rattle.std.proofs.Common.{◌∙◌, refl, sym, subst}
use Rattle.association_session.proofs.HearLaws.{ok_map, answered_told, at_contexts, at_limit}
use Rattle.association_session.proofs.SendLaws.{answered_store, answered_find, answered_get}
use Rattle.association_services.proofs.ServiceLaws.{IsServed, can_respond}
use Rattle.association_session.proofs.association.Association.answer.Goals as goal

-- The message is responded on the link that was agreed.
pub returns-in-Responded-clause-answered : goal.returns-in-Responded-clause-answered
returns-in-Responded-clause-answered c =
    ok_map c.respond.result _ _
    (λ deeds told. answered_told c.args.titles.now.list c.args.self.now _ c.args.message c.in-Responded.status
    c.in_ok-service.service _ c.contexts.result.now c.limit-limit.result deeds
    c.requires.established c.requires.idle c.requires.none refl
    c.settled.ensures
    (c.contexts.ensures ∙ at_contexts _ _ c.self.view_is)
    (c.limit-limit.ensures.limit ∙ at_limit _ _ c.self.view_is)
    c.in-Responded.is c.in_ok-service.ensures told)
    c.respond.ensures.told

-- The port is asked to store a content.
pub returns-in-Asked-clause-answered : goal.returns-in-Asked-clause-answered
returns-in-Asked-clause-answered c =
    ok_map c.asks.result _ _
    (λ deeds asked. answered_store c.args.titles.now.list c.args.self.now _ c.args.message c.in-Asked.content
    c.in_ok-service.service _ c.contexts.result.now c.limit-limit.result deeds
    c.requires.established c.requires.idle c.requires.none
    c.owe.ensures c.settled.ensures
    (c.contexts.ensures ∙ at_contexts _ _ c.self.view_is)
    (c.limit-limit.ensures.limit ∙ at_limit _ _ c.self.view_is) c.in-Asked.is c.in_ok-service.ensures
    asked)
    c.asks.ensures

-- The port is asked for rows.
pub returns-in-Queried-clause-answered : goal.returns-in-Queried-clause-answered
returns-in-Queried-clause-answered c =
    ok_map c.one.result _ _
    (λ deeds asked. answered_find c.args.titles.now.list c.args.self.now _ c.args.message c.in-Queried.finding
    c.in-Queried.kind c.in_ok-service.service _ c.contexts.result.now c.limit-limit.result deeds
    c.requires.established c.requires.idle c.requires.none
    c.owe-in-Queried.ensures c.settled.ensures
    (c.contexts.ensures ∙ at_contexts _ _ c.self.view_is)
    (c.limit-limit.ensures.limit ∙ at_limit _ _ c.self.view_is) c.in-Queried.is c.in_ok-service.ensures
    asked)
    c.one.ensures

-- The port is asked for what is to be sent.
pub returns-in-Fetched-clause-answered : goal.returns-in-Fetched-clause-answered
returns-in-Fetched-clause-answered c =
    ok_map c.one-in-Fetched.result _ _
    (λ deeds asked. answered_get c.args.titles.now.list c.args.self.now _ c.args.message c.in-Fetched.getting
    c.in-Fetched.syntax c.in_ok-service.service _ c.contexts.result.now c.limit-limit.result deeds
    c.requires.established c.requires.idle c.requires.none
    c.owe-in-Fetched.ensures c.settled.ensures
    (c.contexts.ensures ∙ at_contexts _ _ c.self.view_is)
    (c.limit-limit.ensures.limit ∙ at_limit _ _ c.self.view_is) c.in-Fetched.is c.in_ok-service.ensures
    asked)
    c.one-in-Fetched.ensures

-- Its service is no response's and no C-CANCEL's.
pub invariant_of-awaited-in-Asked : goal.invariant_of-awaited-in-Asked
invariant_of-awaited-in-Asked c = can_respond _ _ c.args.message c.limit-limit.result c.in_ok-service.service
    c.requires.whole c.limit-limit.ensures.fits c.in_ok-service.ensures (subst IsServed (sym c.in-Asked.is) tt)

-- Its service is no response's and no C-CANCEL's.
pub invariant_of-awaited-in-Queried : goal.invariant_of-awaited-in-Queried
invariant_of-awaited-in-Queried c = can_respond _ _ c.args.message c.limit-limit.result c.in_ok-service.service
    c.requires.whole c.limit-limit.ensures.fits c.in_ok-service.ensures (subst IsServed (sym c.in-Queried.is) tt)

-- Its service is no response's and no C-CANCEL's.
pub invariant_of-awaited-in-Fetched : goal.invariant_of-awaited-in-Fetched
invariant_of-awaited-in-Fetched c = can_respond _ _ c.args.message c.limit-limit.result c.in_ok-service.service
    c.requires.whole c.limit-limit.ensures.fits c.in_ok-service.ensures (subst IsServed (sym c.in-Fetched.is) tt)
