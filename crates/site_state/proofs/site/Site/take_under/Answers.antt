use Rattle.std.proofs.Common.{ap, sym, ◌∙◌, Some, refl, subst}
use Rattle.std.specs.FinMap as map
use Rattle.site_state.specs.Site.{held_at, IsSite, HasTop, HasLawful}
use Rattle.site_state.proofs.Maps.{one_more, one_more_is_site, found_at}
use Rattle.site_state.proofs.Takings.{no_room}
use Rattle.site_state.proofs.Tops.{top_taken}
use Rattle.site_state.proofs.Indexed.{index_taken, index_kept}
use Rattle.site_state.proofs.Lawful.{one_more_lawful}
use Rattle.site_state.proofs.site.Site.take_under.Goals as goal

-- With the operation taken in, each lies under its own digest, and top and index are those of all.
pub invariant_of-self-2 : goal.invariant_of-self-2
invariant_of-self-2 c =
    let es = c.self.inside.operations.entries in
    let fs = c.take_in.new.tree.entries in (
      one_more_is_site es fs c.args.digest c.args.op c.in_ok-take_in.ensures.held c.requires c.self.invariant.0,
      top_taken es fs c.args.digest c.args.op c.self.inside.top c.counter_of-counter.result c.max-self-inside.result
          c.in_ok-take_in.ensures.held c.requires c.in_default.ensures.value c.self.invariant.1
          c.counter_of-counter.ensures c.max-self-inside.ensures,
      index_taken es fs c.args.digest c.args.op c.self.inside.index c.take_in.new.index c.in_ok-take_in.ensures.held
          c.requires c.in_default.ensures.value c.self.invariant.2 c.in_ok-take_in.ensures.indexed,
      one_more_lawful es fs c.args.digest c.args.op c.in_ok-take_in.ensures.held c.see_lawful.ensures
          c.self.invariant.3,
    )

-- A refusal left the tree and the index as they were.
pub invariant_of-self : goal.invariant_of-self
invariant_of-self c = (
  subst IsSite (sym c.in_err-take_in.ensures.kept) c.self.invariant.0,
  subst (λ m. HasTop m c.self.inside.top) (sym c.in_err-take_in.ensures.kept) c.self.invariant.1,
  index_kept _ _ _ _ c.in_err-take_in.ensures.kept c.in_err-take_in.ensures.index_kept c.self.invariant.2,
  subst HasLawful (sym c.in_err-take_in.ensures.kept) c.self.invariant.3,
)

-- take_in is called where nothing is held.
pub take_in-requires-clause-absent : goal.take_in-requires-clause-absent
take_in-requires-clause-absent c = sym c.in_default.ensures.value

-- The operation itself is held under its digest, and the site stays as it was.
pub returns-then-equals : goal.returns-then-equals
returns-then-equals c = (
  ap (held_at c.args.self.now) (sym c.requires) ∙ found_at c.args.self.now c.self.inside.operations.entries
      c.args.digest (Some c.in-Some.held.now) c.self.view_is c.in-Some.ensures.value
      ∙ ap Some (c.equals.ensures.0 c.if-equals.true),
  refl,
)

-- Another operation is held under the digest, and the site stays as it was.
pub returns-in-Some : goal.returns-in-Some
returns-in-Some c = (
  (
    c.in-Some.held.now,
    ap (held_at c.args.self.now) (sym c.requires) ∙ found_at c.args.self.now c.self.inside.operations.entries
        c.args.digest (Some c.in-Some.held.now) c.self.view_is c.in-Some.ensures.value,
    λ q. let t = c.equals.ensures.1 q in let f = c.if-equals.false in cc,
  ),
  refl,
)

-- Memory was refused: nothing is held under the digest, and the site stays as it was.
pub returns-in_err-take_in : goal.returns-in_err-take_in
returns-in_err-take_in c =
    no_room c.args.self.now _ c.args.op c.from_residual.result c.from_residual.ensures.1
    (ap (held_at c.args.self.now) (sym c.requires) ∙ found_at c.args.self.now c.self.inside.operations.entries
    c.args.digest _ c.self.view_is c.in_default.ensures.value)
    (c.in_err-take_in.ensures.kept ∙ c.self.view_is)

-- Nothing was held under the digest, and the site holds what it held, with this operation.
pub returns : goal.returns
returns c = (
  ap (held_at c.args.self.now) (sym c.requires) ∙ found_at c.args.self.now c.self.inside.operations.entries
      c.args.digest _ c.self.view_is c.in_default.ensures.value,
  one_more c.self.inside.operations.entries c.take_in.new.tree.entries c.args.digest c.args.op
      c.in_ok-take_in.ensures.held
      ∙ ap (λ m. map.insert m c.args.digest c.args.op) c.self.view_is ∙ ap (λ d. map.insert c.args.self.now d c.args.op)
      c.requires,
)
