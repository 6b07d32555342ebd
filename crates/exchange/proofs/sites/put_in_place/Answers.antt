use Rattle.std.proofs.Common.{◌≡◌, ◌++◌, sym, ap, ◌∙◌, append-nil}
use Rattle.std.specs.Prelude.{filter}
use Rattle.std.specs.BTreeMap.Range.{entries_between}
use Rattle.std.specs.declared.ops.Bound.TheVariants.{Included}
use Rattle.site_state.specs.Site.{digest_cmp}
use Rattle.exchange.specs.Held.{spoken_of}
use Rattle.exchange.specs.Places.{front_at, end_at}
use Rattle.exchange.proofs.Places.{at_place, of_place}
use Rattle.exchange.proofs.sites.put_in_place.Goals as goal

-- The whole range was seen, and in it all digests of the place.
pub returns : goal.returns
returns c =
    let version = c.args.version in
    let place = c.args.place in
    let old = c.args.digests.now in
    let tree = c.tree.result.now.entries in
    let whole : c.into_iter-digest-iterator.result ≡ entries_between digest_cmp (Included (front_at place))
    (end_at place) tree =
    c.into_iter-digest-iterator.ensures.into_iter_gives ∙ c.range-digest-items.ensures.between tt
    ∙ ap (λ a. entries_between digest_cmp (Included a) c.end_of.result tree) c.front_of.ensures
    ∙ ap (λ b. entries_between digest_cmp (Included (front_at place)) b tree) c.end_of.ensures
    in
    sym (append-nil c.loop-digest.digests)
    ∙ ap (λ es. c.loop-digest.digests ++ filter (at_place place) (spoken_of version es))
    (sym c.in-None.ensures.steps.0)
    ∙ c.loop-digest.invariant
    ∙ ap (λ es. old ++ filter (at_place place) (spoken_of version es)) whole
    ∙ ap (λ ds. old ++ ds) (of_place version c.args.site.now place tree c.see_lawful.ensures.own c.tree.ensures)
