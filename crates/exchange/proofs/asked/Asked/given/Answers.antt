use Rattle.std.proofs.Common.{◌<◌, length, Some, false, sym, ap, ◌∙◌, arith}
use Rattle.std.proofs.lemmas.List.{get_or_default}
use Rattle.exchange.specs.Asked.{place_in}
use Rattle.exchange.specs.Round.{asked_in}
use Rattle.exchange.proofs.Askings.{told_of, told_at, place_within}
use Rattle.exchange.proofs.asked.Asked.given.Goals as goal

-- There is a flag for each digest.
pub index-requires : goal.index-requires
index-requires c =
    let placed = ap (place_in c.args.digest.now) (sym c.as_arrays.ensures) ∙ sym c.place_of.ensures ∙ c.in-Some.is in
    omega (arith, place_within c.args.digest.now c.self.inside.digests c.in-Some.at placed, c.self.invariant.each)

-- Its flag tells it.
pub returns-in-Some : goal.returns-in-Some
returns-in-Some c =
    let x = c.args.digest.now in
    let ds = c.self.inside.digests in
    let gs = c.self.inside.flags.items in
    let at = c.in-Some.at in
    let placed = ap (place_in x) (sym c.as_arrays.ensures) ∙ sym c.place_of.ensures ∙ c.in-Some.is in
    let within : at < length gs = omega (arith, place_within x ds at placed, c.self.invariant.each) in
    sym (ap (asked_in x) (sym c.self.view_is) ∙ told_of x ds gs c.self.invariant.each ∙ ap (told_at gs) placed
    ∙ ap Some (get_or_default gs at false c.index.result.now within ∙ sym c.index.ensures))

-- It was not asked for.
pub returns-in-None : goal.returns-in-None
returns-in-None c =
    let ds = c.self.inside.digests in
    let gs = c.self.inside.flags.items in
    let placed = ap (place_in c.args.digest.now) (sym c.as_arrays.ensures) ∙ sym c.place_of.ensures ∙ c.in-None.is in
    sym (ap (asked_in c.args.digest.now) (sym c.self.view_is) ∙ told_of c.args.digest.now ds gs c.self.invariant.each
    ∙ ap (told_at gs) placed)
