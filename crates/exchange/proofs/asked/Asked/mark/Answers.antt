use Rattle.std.proofs.Common.{true, sym, ap, ◌∙◌, arith}
use Rattle.std.specs.BTreeMap.{is_at}
use Rattle.std.specs.Map.{set_value}
use Rattle.site_state.specs.Site.{digest_cmp}
use Rattle.exchange.specs.Asked.{asked_of, place_in}
use Rattle.exchange.proofs.Askings.{marked, told_then, place_within}
use Rattle.exchange.proofs.asked.Asked.mark.Goals as goal

-- There is a flag for each digest.
pub index_mut-requires : goal.index_mut-requires
index_mut-requires c =
    let placed = ap (place_in c.args.digest.now) (sym c.as_arrays.ensures) ∙ sym c.place_of.ensures ∙ c.in-Some.is in
    omega (arith, place_within c.args.digest.now c.self.inside.digests c.in-Some.at placed, c.self.invariant.each)

-- Its flag is set.
pub returns-in-Some : goal.returns-in-Some
returns-in-Some c =
    let digest = c.args.digest.now in
    let ds = c.self.inside.digests in
    let gs = c.self.inside.flags.items in
    let placed = ap (place_in digest) (sym c.as_arrays.ensures) ∙ sym c.place_of.ensures ∙ c.in-Some.is in
    sym (ap (λ es. set_value (is_at (digest_cmp digest)) es true) (sym c.self.view_is)
    ∙ marked digest ds gs c.self.invariant.each ∙ ap (λ p. asked_of ds (told_then gs p)) placed)

-- There is nothing to set.
pub returns-in-None : goal.returns-in-None
returns-in-None c =
    let digest = c.args.digest.now in
    let ds = c.self.inside.digests in
    let gs = c.self.inside.flags.items in
    let placed = ap (place_in digest) (sym c.as_arrays.ensures) ∙ sym c.place_of.ensures ∙ c.in-None.is in
    sym (ap (λ es. set_value (is_at (digest_cmp digest)) es true) (sym c.self.view_is)
    ∙ marked digest ds gs c.self.invariant.each ∙ ap (λ p. asked_of ds (told_then gs p)) placed ∙ c.self.view_is)
