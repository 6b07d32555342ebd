use Rattle.std.proofs.Common.{rules, ◌≡◌, ◌+◌, ℕ, List, [], ◌++◌, All, length, length-append, append_assoc}
use Rattle.std.proofs.Common.{append-nil, sym, ap, subst, ◌∙◌, arith}
use Rattle.std.proofs.lemmas.List.{nil_from_length}
use Rattle.std.proofs.lemmas.Result.{err_from_is_err_and}
use Rattle.std.specs.Slice.Iter.{chunks_rest}
use Rattle.operation.specs.declared.op.Op.{Op}
use Rattle.shelved_site.specs.Moving.{AreBrought}
use Rattle.shelved_site.specs.Readable.{Shown}
use Rattle.shelved_site.specs.Recorded.{HasOperation}
use Rattle.shelved_site.proofs.Loaded.{brought_more, brought_some, none_brought, of_group, same_long}
use Rattle.shelved_site.proofs.Moves.{few_put}
use Rattle.shelved_site.proofs.moving.move_groups.Goals as goal

-- None was brought.
pub loop-group-init : goal.loop-group-init
loop-group-init g c = record {
  next = search rules;
  finite = tt;
  clean = λ clean. clean;
  same = λ clean first same. same;
  put = (
    [],
    search rules,
    λ clean up first same.
        none_brought (Shown (g.F.Store.shows first)) (g.T.Keep.holds c.args.to.now) (g.T.Keep.lasts c.args.to.now),
  );
  up = λ up. up;
  kept = λ up op was. was;
}

-- One group more was brought, and all others last as they did.
pub loop-group-preserved : goal.loop-group-preserved
loop-group-preserved g c =
    let was = c.loop-group.invariant in
    let call = c.move_group.ensures in
    let steps = c.in-Some.ensures.steps in
    let group = c.in-Some.group.now in
    let done = was.put.0 in
    let rest = chunks_rest c.next.new.self in
    let parts = append_assoc done group rest ∙ ap (λ (ops : List Op). done ++ ops) (sym steps.1.0) ∙ was.put.1 in
    record {
      next = search rules;
      finite = tt;
      clean = λ clean. was.clean (call.clean clean);
      same = λ clean first same. c.in_ok-more.ensures.same clean first (was.same (call.clean clean) first same);
      put = (
        done ++ group,
        parts,
        λ clean up first same.
            let lists = Shown (g.F.Store.shows first) in
            let old = g.T.Keep.holds c.args.to.now in
            let mid = g.T.Keep.holds c.loop-group.to in
            let new = g.T.Keep.holds c.move_group.new.to in
            let lasts = g.T.Keep.lasts c.move_group.new.to in
            let more = c.in_ok-more.more in
            let before = was.put.2 (call.clean clean) (call.up up) first same in
            let next = c.in_ok-more.ensures.moved clean up first (was.same (call.clean clean) first same) in
            let both = brought_more lists old mid new (g.T.Keep.lasts c.loop-group.to) lasts done group c.loop-group.new more
            (call.kept up) before next in
            let few = few_put old new both.ops (c.loop-group.new + more) both.put in
            let long = same_long lists (done ++ group) both.ops both.loaded in
            let many = sym (length-append (done ++ group) rest) ∙ ap length parts in
            let sum : c.saturating_add-new.result ≡ c.loop-group.new + more =
            omega (arith, few, long, many, c.saturating_add-new.ensures) in
            subst (λ (n : ℕ). AreBrought lists old new lasts (done ++ group) n) (sym sum) both,
      );
      up = λ up. was.up (call.up up);
      kept = λ up op it. call.kept up op (was.kept (call.up up) op it);
    }

-- A refused group changes nothing, and those before it were brought.
pub returns-in_err-more-clause-part : goal.returns-in_err-more-clause-part
returns-in_err-more-clause-part g c clean up first same =
    let was = c.loop-group.invariant in
    let call = c.move_group.ensures in
    let before = was.put.2 (call.clean clean) (call.up up) first same in
    let out = err_from_is_err_and c.from_residual.result c.from_residual.ensures.1 in
    rw out.1 (brought_some (Shown (g.F.Store.shows first)) (g.T.Keep.holds c.args.to.now) (g.T.Keep.holds c.loop-group.to)
    (g.T.Keep.holds c.move_group.new.to) (g.T.Keep.lasts c.loop-group.to) was.put.0 (chunks_rest c.loop-group.group-iterator)
    c.args.recorded.items c.loop-group.new (g.met.T.Store.alike c.args.to.now) was.put.1 before (c.in_err-more.ensures.refused up))

-- What lasted before the group lasts behind it, refused or not.
pub returns-in_err-more-clause-kept : goal.returns-in_err-more-clause-kept
returns-in_err-more-clause-kept g c up op it =
    c.move_group.ensures.kept up op (c.loop-group.invariant.kept (c.move_group.ensures.up up) op it)

-- The first store was only read.
pub returns-in_err-more-clause-read : goal.returns-in_err-more-clause-read
returns-in_err-more-clause-read g c clean first same =
    c.move_group.ensures.read clean first (c.loop-group.invariant.same (c.move_group.ensures.clean clean) first same)

-- All groups came.
pub returns-clause-moved : goal.returns-clause-moved
returns-clause-moved g c clean up first same =
    let was = c.loop-group.invariant in
    let none = nil_from_length (chunks_rest c.loop-group.group-iterator) c.in-None.ensures.steps.1.0 in
    let all = sym (append-nil was.put.0) ∙ ap (λ (ops : List Op). was.put.0 ++ ops) (sym none) ∙ was.put.1 in
    subst (λ (rs : List Op). AreBrought (Shown (g.F.Store.shows first)) (g.T.Keep.holds c.args.to.now) (g.T.Keep.holds c.loop-group.to)
    (g.T.Keep.lasts c.loop-group.to) rs c.loop-group.new) all (was.put.2 clean up first same)

-- The first was read alone, all the way.
pub returns-clause-read : goal.returns-clause-read
returns-clause-read g c clean first same =
    g.met.F.Store.same_spared first c.loop-group.from (c.loop-group.invariant.same clean first same)

-- The first refused a load of the group only where it had cause to.
pub returns-in_err-more-clause-unread : goal.returns-in_err-more-clause-unread
returns-in_err-more-clause-unread g c clean first same have =
    let out = err_from_is_err_and c.from_residual.result c.from_residual.ensures.1 in
    let was = c.loop-group.invariant in
    let lists = Shown (g.F.Store.shows first) in
    let group = c.in-Some.group.now in
    let rest = chunks_rest c.next.new.self in
    let parts = ap (λ (ops : List Op). was.put.0 ++ ops) (sym c.in-Some.ensures.steps.1.0) ∙ was.put.1 in
    let mine = of_group lists (HasOperation lists) was.put.0 group rest
    (subst (λ (rs : List Op). All (HasOperation lists) rs) (sym parts) have) in
    rw (out.1, out.2) (c.in_err-more.ensures.unread clean first (was.same (c.move_group.ensures.clean clean) first same) mine)
