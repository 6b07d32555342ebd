use Rattle.std.proofs.Common.{◌≡◌, ◌-◌, ℕ, List, false, Option, None, Some, refl, sym, ap, ◌∙◌, arith}
use Rattle.std.specs.Prelude.{is_some}
use Rattle.operation.specs.Spelling.{digest_of}
use Rattle.recent_ops.specs.Recent.{Held, RecentOps, held_under, total_of}
use Rattle.recent_ops.proofs.Fitting.{none_stays, fits}
use Rattle.recent_ops.proofs.recent.Recent.keep.Goals as goal

-- What was not held is not among those that stay.
pub add-requires-clause-new : goal.add-requires-clause-new
add-requires-clause-new c =
    let digest = digest_of c.args.op in
    ap (λ (r : RecentOps). held_under digest r.held) c.make_room.ensures
    ∙ none_stays digest (c.args.self.now.room - c.args.weight) c.args.self.now.held
    (none (held_under digest c.args.self.now.held)
    (sym (ap (λ (d : List ℕ). is_some (held_under d c.args.self.now.held)) c.digest.ensures.own) ∙ sym c.holds.ensures ∙ c.if-holds.false))
  where
    none : (o : Option Held) → is_some o ≡ false → o ≡ None
    none None is = refl
    none (Some h) is = absurd cc

-- Those that stay leave room for it.
pub add-requires-clause-fits : goal.add-requires-clause-fits
add-requires-clause-fits c =
    let low = fits (c.args.self.now.room - c.args.weight) c.args.self.now.held in
    let sum = ap (λ (r : RecentOps). total_of r.held) c.make_room.ensures in
    let room = ap (λ (r : RecentOps). r.room) c.make_room.ensures in
    let within = c.if-weight-self.false in
    let now = ap (λ (r : RecentOps). r.room) c.self.view_is in
    omega (arith, low, sum, room, within, now)
