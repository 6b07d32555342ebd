use Rattle.association_session.proofs.HearLaws.{ok_map}
use Rattle.association_session.proofs.RowLaws.{met_only, heard_on}
use Rattle.association_session.proofs.association.Association.hear.Goals as goal

-- The values that are handed on are heard.
pub returns-then-is_left-clause-turned : goal.returns-then-is_left-clause-turned
returns-then-is_left-clause-turned c =
    ok_map c.hear_values.result _ _
    (λ deeds turned. heard_on c.args.titles.now.list c.args.self.now c.meet.new.self c.hear_values.new.self c.args.event
    deeds c.requires c.in_ok-deeds.ensures.next
    (cc (c.is_left.ensures, c.if-is_left.true)) turned)
    c.hear_values.ensures.turned

-- The row is all that is done.
pub returns-clause-turned : goal.returns-clause-turned
returns-clause-turned c = met_only c.args.titles.now.list c.args.self.now _ c.args.event c.in_ok-deeds.deeds
    c.requires c.in_ok-deeds.ensures.next c.in_ok-deeds.ensures.row
