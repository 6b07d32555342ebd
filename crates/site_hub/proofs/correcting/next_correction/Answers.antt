use Rattle.std.proofs.Common.{◌≡◌, ◌+◌, true, false, refl, sym, ap, ◌∙◌, arith, rules}
use Rattle.std.specs.Prelude.{◌==◌}
use Rattle.site_state.specs.Site.{ops_of, top_counter_of}
use Rattle.site_hub.specs.Stamps.{LAST_COUNTER}
use Rattle.site_hub.proofs.Stamping.{next_bad, next_spent, next_made}
use Rattle.site_hub.proofs.correcting.next_correction.Goals as goal

-- No correction of these parts may be made, with whatever counter.
pub returns-in_default : goal.returns-in_default
returns-in_default c =
    next_bad c.args.number c.args.number c.saturating_add.result
    c.args.site.now c.args.target c.args.tag c.args.value
    refl (omega (arith, c.saturating_add.ensures)) c.in_default.field-0 c.in_default.ensures

-- The greatest counter is the last one.
pub returns-then-top : goal.returns-then-top
returns-then-top c =
    let m = c.args.site.now in
    let top : c.top_counter-top.result ≡ top_counter_of (ops_of m) = search rules in
    let last : (c.top_counter-top.result == LAST_COUNTER) ≡ true = search rules in
    next_spent c.args.number c.args.number c.saturating_add.result m c.args.target c.args.tag c.args.value
    refl (omega (arith, c.saturating_add.ensures)) c.in-Ok.made c.in-Ok.ensures
    (ap (λ t. t == LAST_COUNTER) (sym top) ∙ last)

-- Its counter is one more than the greatest.
pub returns : goal.returns
returns c =
    let m = c.args.site.now in
    let top : c.top_counter-top.result ≡ top_counter_of (ops_of m) = search rules in
    let more : (c.top_counter-top.result == LAST_COUNTER) ≡ false = search rules in
    let next : c.saturating_add.result ≡ c.top_counter-top.result + 1 =
    omega (arith, c.saturating_add.ensures, c.if-top.false) in
    next_made c.args.number c.args.number c.saturating_add.result m c.args.target c.args.tag c.args.value
    refl (omega (arith, c.saturating_add.ensures)) c.in-Ok.made c.in-Ok.ensures
    (next ∙ ap (λ t. t + 1) top) (ap (λ t. t == LAST_COUNTER) (sym top) ∙ more)
