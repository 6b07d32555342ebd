use Rattle.std.proofs.Common.{◌≡◌, ℕ, true, sym, subst}
use Rattle.ul_state.specs.Table.{opens}
use Rattle.association_services.specs.Response.{FitsLimit}
use Rattle.association_session.proofs.TurnLaws.{agreed_fits, some_same}
use Rattle.association_session.proofs.row.turn.Goals as goal

-- What is admitted takes a fragment.
pub agree-requires : goal.agree-requires
agree-requires c = λ opened some.
    let is_opened : opens c.args.acceptor.now.state c.on.new.self.state ≡ true =
    cc (c.is_opened-opened.ensures, c.state-before.ensures, c.state.ensures, opened) in
    subst (λ (n : ℕ). FitsLimit n) (sym c.limit_of-limit.ensures)
    (agreed_fits c.args.titles.now.list c.args.acceptor.now.state c.on.new.self.state c.args.event
    c.args.acceptor.now.settled c.on.new.self.settled
    c.in_ok-action.ensures.next c.in_ok-action.ensures.settled is_opened (some_same _ _ c.accepted.ensures some))
