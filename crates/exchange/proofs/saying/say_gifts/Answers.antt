use Rattle.std.proofs.Common.{inl, ◌≡◌, ◌+◌, ℕ, List, ◌∷◌, drop, sym, ap, subst, ◌∙◌, arith, refl, Result, Ok, Err}
use Rattle.std.proofs.lemmas.List.{drop_more, drop_all}
use Rattle.std.proofs.lemmas.Result.{err_from_is_err_and}
use Rattle.exchange_frames.specs.declared.frame.Frame.TheVariants.{End}
use Rattle.exchange.specs.declared.fault.ExchangeFault.{ExchangeFault}
use Rattle.exchange.specs.declared.fault.ExchangeFault.TheVariants.{Memory}
use Rattle.exchange.specs.declared.side.Said.TheVariants as says
use Rattle.exchange.specs.Course.{HoldsGifts}
use Rattle.exchange.proofs.Gifts.{gave_none, gave_one, gave_front, gave_last, gave_no_more, unread_since, idles_then}
use Rattle.exchange.proofs.Holders.{idles_same}
use Rattle.exchange.proofs.Writings.{speaks_one, wrote_nothing}
use Rattle.exchange.proofs.saying.say_gifts.Goals as goal

abbrev err_of : ExchangeFault → Result (List (List ℕ)) ExchangeFault
err_of fault = Err fault

abbrev ok_of : List (List ℕ) → Result (List (List ℕ)) ExchangeFault
ok_of unread = Ok unread

-- None is written yet.
pub loop-bytes-init : goal.loop-bytes-init
loop-bytes-init g c = record {
  gave = λ can. rw c.in_ok-unread.ensures (gave_none _ _ _ _ can);
  write = refl;
  idle = idles_same g.H.Holder.holds g.H.Holder.alone _ _ refl;
}

-- One more is written, or passed over.
pub loop-bytes-preserved : goal.loop-bytes-preserved
loop-bytes-preserved g c =
    let arrays = c.as_arrays-arrays.result.now in
    let i = c.loop-bytes.bytes-index in
    let next : drop i arrays ≡ c.of.result ∷ drop (i + 1) arrays =
    drop_more arrays i _ c.loop-bytes-test.true
    ∙ ap (λ (d : List ℕ). d ∷ drop (i + 1) arrays) (sym c.of.ensures) in
    let grown = c.loop-bytes.invariant.idle.grown in
    record {
      gave = λ can. let so = c.loop-bytes.invariant.gave can in
          gave_one _ _ _ _ arrays (drop i arrays) (drop (i + 1) arrays) _ c.of.result next so _ grown _ _
          (unread_since g.H.Holder.holds g.H.Holder.alone g.H.Holder.refuses_load _ _ grown) _ _
          c.in_ok-load_and_give.ensures.speaks;
      write = c.in_ok-load_and_give.ensures.failed ∙ c.loop-bytes.invariant.write;
      idle = idles_then c.loop-bytes.invariant.idle c.in_ok-load_and_give.ensures.idle;
    }

-- Of one a front was written, or it was not loaded.
pub returns-in_err-load_and_give-clause-speaks : goal.returns-in_err-load_and_give-clause-speaks
returns-in_err-load_and_give-clause-speaks g c =
    let e = err_from_is_err_and c.from_residual-in_err-load_and_give.result
    c.from_residual-in_err-load_and_give.ensures.1 in
    let arrays = c.as_arrays-arrays.result.now in
    let i = c.loop-bytes.bytes-index in
    let next : drop i arrays ≡ c.of.result ∷ drop (i + 1) arrays =
    drop_more arrays i _ c.loop-bytes-test.true
    ∙ ap (λ (d : List ℕ). d ∷ drop (i + 1) arrays) (sym c.of.ensures) in
    λ can. let so = c.loop-bytes.invariant.gave (subst (λ (ds : List (List ℕ)).
    HoldsGifts (g.H.Holder.holds c.args.holder.now) (says.Gifts ds)) (sym c.as_arrays-arrays.ensures) can) in
    rw (← c.as_arrays-arrays.ensures, e.1, e.2) (gave_front _ _ _ _ arrays (drop i arrays) (drop (i + 1) arrays) _
    c.of.result next so _ c.loop-bytes.invariant.idle.grown _ _ c.in_err-load_and_give.ensures.speaks)

-- There was no memory for what can't be read, before the first,
pub returns-in_err-unread-clause-speaks : goal.returns-in_err-unread-clause-speaks
returns-in_err-unread-clause-speaks g c =
    let e = err_from_is_err_and c.from_residual.result c.from_residual.ensures.1 in
    λ can. rw (e.1, e.2) (gave_no_more _ _ _ _ can)

-- or behind the last.
pub returns-in_err-unread-2-clause-speaks : goal.returns-in_err-unread-2-clause-speaks
returns-in_err-unread-2-clause-speaks g c =
    let e = err_from_is_err_and c.from_residual-in_err-unread-2.result c.from_residual-in_err-unread-2.ensures.1 in
    let arrays = c.as_arrays-arrays.result.now in
    let i = c.loop-bytes.bytes-index in
    λ can. let so = c.loop-bytes.invariant.gave (subst (λ (ds : List (List ℕ)).
    HoldsGifts (g.H.Holder.holds c.args.holder.now) (says.Gifts ds)) (sym c.as_arrays-arrays.ensures) can) in
    rw (← c.as_arrays-arrays.ensures, e.1, e.2) (gave_last _ _ _ _ _ arrays (drop i arrays) _ (Err Memory)
    (drop_all i arrays (omega (arith, c.loop-bytes-test.false))) so (wrote_nothing _ _, inl tt) tt)

-- All are written, and a front of END.
pub returns-in_err-say_frame-clause-speaks : goal.returns-in_err-say_frame-clause-speaks
returns-in_err-say_frame-clause-speaks g c =
    let e = err_from_is_err_and c.from_residual-in_err-say_frame.result c.from_residual-in_err-say_frame.ensures.1 in
    let arrays = c.as_arrays-arrays.result.now in
    let i = c.loop-bytes.bytes-index in
    let last = c.in_err-say_frame.ensures in
    λ can. let so = c.loop-bytes.invariant.gave (subst (λ (ds : List (List ℕ)).
    HoldsGifts (g.H.Holder.holds c.args.holder.now) (says.Gifts ds)) (sym c.as_arrays-arrays.ensures) can) in
    rw (← c.as_arrays-arrays.ensures, e.1, e.2) (gave_last _ _ _ _ _ arrays (drop i arrays) _
    (Err c.in_err-say_frame.field-0.0) (drop_all i arrays (omega (arith, c.loop-bytes-test.false))) so
    (speaks_one _ _ End (err_of c.in_err-say_frame.field-0.0) tt last.err last.why tt) tt)

-- All are written, and END.
pub returns-clause-speaks : goal.returns-clause-speaks
returns-clause-speaks g c =
    let arrays = c.as_arrays-arrays.result.now in
    let i = c.loop-bytes.bytes-index in
    let last = c.in_ok-say_frame.ensures in
    λ can. let so = c.loop-bytes.invariant.gave (subst (λ (ds : List (List ℕ)).
    HoldsGifts (g.H.Holder.holds c.args.holder.now) (says.Gifts ds)) (sym c.as_arrays-arrays.ensures) can) in
    rw (← c.as_arrays-arrays.ensures) (gave_last _ _ _ _ _ arrays (drop i arrays) _ (Ok c.in_ok-unread-2.unread)
    (drop_all i arrays (omega (arith, c.loop-bytes-test.false))) so
    (speaks_one _ _ End (ok_of c.in_ok-unread-2.unread) last.ok tt tt last.sayable) c.in_ok-unread-2.ensures)
