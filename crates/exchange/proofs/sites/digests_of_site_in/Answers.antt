use Rattle.std.proofs.Common.{◌≡◌, ◌++◌, sym, ap, ◌∙◌, arith, append-nil, true, false}
use Rattle.std.specs.Prelude.{filter}
use Rattle.exchange.specs.Held.{is_in, offered}
use Rattle.exchange.proofs.Places.{from_place, first_place, place_done, last_place}
use Rattle.exchange.proofs.sites.digests_of_site_in.Goals as goal

-- None was found yet.
pub loop-place-init : goal.loop-place-init
loop-place-init c =
    ap (λ ds. ds ++ filter (is_in c.args.places.now) (filter (from_place 0) (offered c.args.version c.args.site.now)))
    c.in_ok-digests.ensures ∙ first_place c.args.version c.args.places.now c.args.site.now

-- The byte is none of the places.
pub loop-place-preserved-then-not-has_place : goal.loop-place-preserved-then-not-has_place
loop-place-preserved-then-not-has_place c = place_done c.args.version c.args.places.now c.args.site.now
    c.loop-place.place false c.loop-place.digests c.loop-place.digests _
    (sym c.has_place.ensures ∙ c.if-not-has_place.true) (sym (append-nil c.loop-place.digests))
    c.loop-place.invariant

-- It is one, and its digests were put in.
pub loop-place-preserved : goal.loop-place-preserved
loop-place-preserved c = place_done c.args.version c.args.places.now c.args.site.now c.loop-place.place true
    c.loop-place.digests _ _ (sym c.has_place.ensures ∙ c.if-not-has_place.false) c.in_ok-put_in_place.ensures
    c.loop-place.invariant

-- All places were seen.
pub returns : goal.returns
returns c =
    let end : c.loop-place.place ≡ 256 = omega (arith, c.loop-place-test.false, c.loop-place.auto.place-end) in
    c.in_ok-frozen.ensures ∙ last_place c.args.version c.args.places.now c.args.site.now c.loop-place.place
    c.loop-place.digests _ c.see_lawful.ensures.own end c.loop-place.invariant
