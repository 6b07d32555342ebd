use Rattle.std.proofs.Common.{rules, ◌+◌, ℕ, List, take, sym, subst}
use Rattle.std.proofs.lemmas.List.Elements.{All-get_or}
use Rattle.std.proofs.lemmas.Result.{err_from_is_err_and}
use Rattle.operation.specs.declared.op.Op.{Op}
use Rattle.shelved_site.specs.Recorded.{AreLoaded, HasOperation}
use Rattle.shelved_site.specs.Readable.{Shown}
use Rattle.shelved_site.proofs.Loaded.{has_on, loaded_more, loaded_on, shown_on}
use Rattle.shelved_site.proofs.moving.load_group.Goals as goal

-- One operation more was loaded.
pub loop-one-preserved : goal.loop-one-preserved
loop-one-preserved g c =
    let was = c.loop-one.invariant in
    let mid = c.loop-one.from in
    let new = c.load_recorded.new.self in
    let read = c.in_ok-op.ensures in
    record {
      clean = λ clean. was.clean (c.load_recorded.ensures.clean clean);
      same = λ clean first same. g.met.F.Store.same_same first mid new
          (was.same (c.load_recorded.ensures.clean clean) first same) (read.same clean);
      loaded = λ clean first same.
          let early = c.load_recorded.ensures.clean clean in
          let here = shown_on (g.F.Store.shows first) (g.F.Store.shows mid)
          (g.met.F.Store.same_shows first mid (was.same early first same)) in
          let one = loaded_on (Shown (g.F.Store.shows first)) (Shown (g.F.Store.shows mid)) c.one-item.result c.in_ok-op.op here (read.loaded clean) in
          let more = loaded_more (Shown (g.F.Store.shows first)) c.args.recorded.now c.loop-one.one-index _
          c.one-item.result c.loop-one.ops.items c.in_ok-op.op (search rules) c.one-item.is (was.loaded early first same) one in
          subst (λ (ops : List Op). AreLoaded (Shown (g.F.Store.shows first)) (take (c.loop-one.one-index + 1) c.args.recorded.now) ops)
          (sym c.in_ok-push.ensures.items) more;
    }

-- What is refused leaves the store as what was read before.
pub returns-in_err-op-clause-refused : goal.returns-in_err-op-clause-refused
returns-in_err-op-clause-refused g c clean first same =
    let out = err_from_is_err_and c.from_residual.result c.from_residual.ensures.1 in
    let here = c.loop-one.invariant.same (c.load_recorded.ensures.clean clean) first same in
    rw out.1 (g.met.F.Store.same_spares first c.loop-one.from c.load_recorded.new.self here (c.in_err-op.ensures.refused clean))

-- It had cause to refuse, since the operation is listed.
pub returns-in_err-op-clause-why : goal.returns-in_err-op-clause-why
returns-in_err-op-clause-why g c clean first same have =
    let out = err_from_is_err_and c.from_residual.result c.from_residual.ensures.1 in
    let mid = c.loop-one.from in
    let new = c.load_recorded.new.self in
    let lists = Shown (g.F.Store.shows first) in
    let here = c.loop-one.invariant.same (c.load_recorded.ensures.clean clean) first same in
    let it = subst (HasOperation lists) (sym c.one-item.is)
    (All-get_or (HasOperation lists) c.args.recorded.now c.loop-one.one-index _ (search rules) have) in
    let there = has_on lists (Shown (g.F.Store.shows mid)) c.one-item.result (shown_on (g.F.Store.shows first) (g.F.Store.shows mid) (g.met.F.Store.same_shows first mid here)) it in
    let why = c.in_err-op.ensures.why clean there in
    rw (out.1, out.2) (record {
      before = mid;
      same = here;
      op = it.0;
      among = it.1;
      cause = subst (λ (digest : List ℕ). g.F.Keep.refuses_load mid new digest c.in_err-op.field-0.0) (sym it.2) why;
    })

-- Want of memory leaves it as it was read.
pub returns-in_err-push-clause-refused : goal.returns-in_err-push-clause-refused
returns-in_err-push-clause-refused g c clean first same =
    let out = err_from_is_err_and c.from_residual-in_err-push.result c.from_residual-in_err-push.ensures.1 in
    let mid = c.loop-one.from in
    let new = c.load_recorded.new.self in
    let here = c.loop-one.invariant.same (c.load_recorded.ensures.clean clean) first same in
    rw out.1 (g.met.F.Store.same_spares first mid new here (g.met.F.Store.same_spared mid new (c.in_ok-op.ensures.same clean)))

-- It is the cause for which any store may refuse.
pub returns-in_err-push-clause-why : goal.returns-in_err-push-clause-why
returns-in_err-push-clause-why g c clean first same have =
    let out = err_from_is_err_and c.from_residual-in_err-push.result c.from_residual-in_err-push.ensures.1 in
    let mid = c.loop-one.from in
    let new = c.load_recorded.new.self in
    let here = c.loop-one.invariant.same (c.load_recorded.ensures.clean clean) first same in
    let lists = Shown (g.F.Store.shows first) in
    let it = subst (HasOperation lists) (sym c.one-item.is)
    (All-get_or (HasOperation lists) c.args.recorded.now c.loop-one.one-index _ (search rules) have) in
    rw (out.1, out.2) (record {
      before = mid;
      same = here;
      op = it.0;
      among = it.1;
      cause = g.met.F.Store.memory_refuses mid new _;
    })
