use Rattle.std.proofs.Common.{ℕ, List, ap, sym, ◌∙◌, subst}
use Rattle.std.specs.Map.{keys_of}
use Rattle.std.specs.List.Sorted.{IsStrictlySortedBy}
use Rattle.operation.specs.declared.op.Op.{Op}
use Rattle.site_state.specs.Site.{digest_cmp}
use Rattle.site_state.proofs.Maps.{get_held, held}
use Rattle.site_state.proofs.Unions.{AgreeOver, agree_more, agree_none, agreed, first_held, rest_held, rest_sorted}
use Rattle.site_state.proofs.tree.do_clash.Goals as goal

-- The entries of the second tree ascend by digest, and all of them are left.
pub loop-digest-init : goal.loop-digest-init
loop-digest-init c = record {
  sorted = subst (λ (es : List (List ℕ × Op)). IsStrictlySortedBy digest_cmp (keys_of es))
      (sym (c.into_iter-digest-iterator.ensures.into_iter_gives ∙ c.iter-digest-items.ensures.rest))
      c.iter-digest-items.ensures.ordered;
  of_all = λ d o here. here;
  agree = λ agree. agree;
}

-- The first entry is not held otherwise in the first tree, so all agree if those behind it do.
pub loop-digest-preserved : goal.loop-digest-preserved
loop-digest-preserved c =
    let before = c.loop-digest.invariant in
    let parts = c.in-Some.ensures.steps in
    record {
      sorted = rest_sorted c.loop-digest.digest-iterator c.next.new.self c.in-Some.digest.now c.in-Some.op.now parts
          before.sorted;
      of_all = λ d o here. before.of_all d o (rest_held c.loop-digest.digest-iterator c.next.new.self
          c.in-Some.digest.now c.in-Some.op.now parts before.sorted d o here);
      agree = λ agree. before.agree (agree_more c.args.these.now.entries c.loop-digest.digest-iterator c.next.new.self
          c.in-Some.digest.now c.in-Some.op.now parts c.if-has_other.ensures agree);
    }

-- Both trees hold this digest, with different operations.
pub returns-then-has_other : goal.returns-then-has_other
returns-then-has_other c =
    let other = c.if-has_other.ensures in
    let d = c.in-Some.digest.now in
    let first = first_held c.loop-digest.digest-iterator c.next.new.self d c.in-Some.op.now c.in-Some.ensures.steps in
    let all = c.into_iter-digest-iterator.ensures.into_iter_gives ∙ c.iter-digest-items.ensures.rest in (
      d,
      other.0,
      c.in-Some.op.now,
      other.1,
      get_held c.args.those.now.entries d ∙ ap (λ es. held es d) (sym all) ∙ c.loop-digest.invariant.of_all d
          c.in-Some.op.now first,
      other.2,
    )

-- No entry of the second tree is held otherwise in the first, so the trees agree.
pub returns : goal.returns
returns c =
    let all = c.into_iter-digest-iterator.ensures.into_iter_gives ∙ c.iter-digest-items.ensures.rest in
    let es = c.args.these.now.entries in
    agreed es c.args.those.now.entries (subst (AgreeOver es)
    all (c.loop-digest.invariant.agree (agree_none es c.loop-digest.digest-iterator c.in-None.ensures.steps.0)))
