use Rattle.std.proofs.Common.{ap, sym, ◌∙◌, List, ℕ, Some, refl}
use Rattle.std.specs.FinMap as map
use Rattle.operation.specs.Spelling.{digest_of}
use Rattle.records.specs.StandIn.{op_in}
use Rattle.records.proofs.StandInLaws.{digest_kept}
use Rattle.std.specs.BTreeMap.{is_at}
use Rattle.std.specs.Map.{lookup}
use Rattle.site_state.specs.Site.{Map, digest_cmp, held_at, of_entries}
use Rattle.site_state.proofs.Maps.{one_more, one_more_is_site, found_at, get_held}
use Rattle.site_state.proofs.Takings.{no_room}
use Rattle.site_state.proofs.Wholes.{recorded_more, unheld}
use Rattle.site_state.proofs.whole_site.WholeSite.take_once.Goals as goal

-- The operation itself is held under its digest, and the site stays as it was.
pub returns-then-equals : goal.returns-then-equals
returns-then-equals c = (
  ap (held_at c.args.self.now) (sym c.digest.ensures.own) ∙ found_at c.args.self.now c.self.inside.operations.entries
      c.digest.result.now (Some c.in-Some.held.now) c.self.view_is c.in-Some.ensures.value
      ∙ ap Some (c.equals.ensures.0 c.if-equals.true ∙ c.op.ensures),
  refl,
)

-- Another operation is held under the digest, and the site stays as it was.
pub returns-in-Some : goal.returns-in-Some
returns-in-Some c = (
  (
    c.in-Some.held.now,
    ap (held_at c.args.self.now) (sym c.digest.ensures.own) ∙ found_at c.args.self.now c.self.inside.operations.entries
        c.digest.result.now (Some c.in-Some.held.now) c.self.view_is c.in-Some.ensures.value,
    λ q. let t = c.equals.ensures.1 (q ∙ sym c.op.ensures) in let f = c.if-equals.false in cc,
  ),
  refl,
)

-- Memory was refused to the record: nothing is held under the digest.
pub returns-in_err-recorded : goal.returns-in_err-recorded
returns-in_err-recorded c =
    no_room c.args.self.now _ c.args.digested c.from_residual.result c.from_residual.ensures.1
    (ap (held_at c.args.self.now) (sym c.digest.ensures.own) ∙ found_at c.args.self.now c.self.inside.operations.entries
    c.digest.result.now _ c.self.view_is c.in_default.ensures.value)
    refl

-- The record has the digest of the operation.
pub put_in-requires-clause-own : goal.put_in-requires-clause-own
put_in-requires-clause-own c =
    c.into_parts-digest.ensures.digest
    ∙ sym (digest_kept c.args.digested)
    ∙ ap digest_of (sym c.in_ok-recorded.ensures.stands)

-- The site of records has nothing where nothing is held.
pub put_in-requires-clause-unknown : goal.put_in-requires-clause-unknown
put_in-requires-clause-unknown c =
    let es = c.self.inside.operations.entries in
    let one = c.digest.ensures.own ∙ sym c.into_parts-digest.ensures.digest in
    ap (λ (m : Map). held_at m c.into_parts-digest.result.0) c.self.invariant.1
    ∙ unheld (of_entries es) c.into_parts-digest.result.0 (get_held es c.into_parts-digest.result.0
    ∙ ap (λ (d : List ℕ). lookup (is_at (digest_cmp d)) es) (sym one) ∙ sym c.in_default.ensures.value)

-- Memory was refused: nothing is held under the digest, and the site stays as it was.
pub returns-in_err-put_in : goal.returns-in_err-put_in
returns-in_err-put_in c =
    no_room c.args.self.now _ c.args.digested c.from_residual-in_err-put_in.result
    c.from_residual-in_err-put_in.ensures.1
    (ap (held_at c.args.self.now) (sym c.digest.ensures.own) ∙ found_at c.args.self.now c.self.inside.operations.entries
    c.digest.result.now _ c.self.view_is c.in_default.ensures.value)
    (c.in_err-put_in.ensures.kept ∙ c.self.view_is)

-- With the operation put in, each lies under its own digest, and its record is in the site.
pub invariant_of-self-2 : goal.invariant_of-self-2
invariant_of-self-2 c =
    let es = c.self.inside.operations.entries in
    let fs = c.put_in.new.tree.entries in
    let digest = c.into_parts-digest.result.0 in
    let op = c.into_parts-digest.result.1 in
    let held = c.in_ok-put_in.ensures.held in (
      one_more_is_site es fs digest op held (c.into_parts-digest.ensures.digest
          ∙ ap digest_of (sym c.into_parts-digest.ensures.op)) c.self.invariant.0,
      recorded_more es fs digest op held c.self.inside.site c.put_in.new.site c.self.invariant.1
          (c.in_ok-put_in.ensures.taken ∙ ap (map.insert c.self.inside.site digest) (c.in_ok-recorded.ensures.stands
          ∙ ap op_in (sym c.into_parts-digest.ensures.op))),
    )

-- Nothing was held under the digest, and the site holds what it held, with this operation.
pub returns : goal.returns
returns c =
    let digest = c.into_parts-digest.result.0 in (
      ap (held_at c.args.self.now) (sym c.digest.ensures.own) ∙ found_at c.args.self.now c.self.inside.operations.entries
          c.digest.result.now _ c.self.view_is c.in_default.ensures.value,
      one_more c.self.inside.operations.entries c.put_in.new.tree.entries digest c.into_parts-digest.result.1
          c.in_ok-put_in.ensures.held
          ∙ ap (λ m. map.insert m digest c.into_parts-digest.result.1) c.self.view_is
          ∙ ap (map.insert c.args.self.now digest) c.into_parts-digest.ensures.op
          ∙ ap (λ d. map.insert c.args.self.now d c.args.digested) c.into_parts-digest.ensures.digest,
    )
