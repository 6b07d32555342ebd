use Rattle.std.proofs.Common.{◌∙◌, Ok, refl, ap}
use Rattle.std.proofs.lemmas.List.Elements.{All-rest}
use Rattle.std.proofs.lemmas.Result.{err_from_is_err_and}
use Rattle.association_session.specs.Session.{IsWritable}
use Rattle.association_run.proofs.DeedLaws.{sides_start, sides_send, sides_reach, sides_ask, sides_close, sides_all}
use Rattle.association_run.proofs.DeedLaws.{sides_broke, sides_broke_at, sides_stopped, next_is, first_writable}
use Rattle.association_run.proofs.act.act.Goals as goal

-- Nothing was done yet.
pub loop-deed-init : goal.loop-deed-init
loop-deed-init g c = record {
  did = sides_start g.P.Port.ops g.P.Port.own _ _ _ c.args.deeds.now _ c.clear.ensures.at c.clear.ensures.empty refl
      c.requires.halts;
  writable = c.requires.writable;
  write = c.clear.ensures.write;
  same = c.clear.ensures.same;
}

-- Memory was refused for the next PDU: the deeds before it are done but for what was held.
pub returns-in_err-deed-clause-err : goal.returns-in_err-deed-clause-err
returns-in_err-deed-clause-err g c =
    let e = err_from_is_err_and c.from_residual.result c.from_residual.ensures.1 in
    rw e.1 (sides_stopped g.P.Port.ops g.P.Port.own _ _ _ c.args.deeds.now _ c.loop-deed.invariant.did)

-- The next deed is one of those that can be written.
pub send-requires : goal.send-requires
send-requires g c = first_writable c.loop-deed.deeds c.next.new.self c.in-Some.deed
    c.in-Send.pdu (next_is c.loop-deed.deeds c.next.new.self c.in_ok-deed.field-0 c.in-Some.deed
    c.in_ok-deed.ensures.parts c.in-Some.is) c.in-Send.is c.loop-deed.invariant.writable

-- The writer failed, or memory was refused: the deeds before this one are done but for what was held, of which and of
-- its bytes a front was written.
pub returns-in_err-send-in-Send-clause-err : goal.returns-in_err-send-in-Send-clause-err
returns-in_err-send-in-Send-clause-err g c =
    let e = err_from_is_err_and c.from_residual-in_err-send-in-Send.result
    c.from_residual-in_err-send-in-Send.ensures.1 in
    rw e.1 (sides_broke_at g.P.Port.ops g.P.Port.own _ _ _ _ c.args.deeds.now _ c.in-Some.deed c.in-Send.pdu _
    (next_is _ _ _ _ c.in_ok-deed.ensures.parts c.in-Some.is) c.in-Send.is c.loop-deed.invariant.did
    c.in_err-send-in-Send.ensures.only c.in_err-send-in-Send.ensures.err)

-- A PDU more is sent, and the others end as before.
pub loop-deed-preserved-in-Continue-branch-3 : goal.loop-deed-preserved-in-Continue-branch-3
loop-deed-preserved-in-Continue-branch-3 g c = record {
  did = sides_send g.P.Port.ops g.P.Port.own _ _ _ _ _ c.args.deeds.now _ c.in-Some.deed c.in-Send.pdu _
      (next_is _ _ _ _ c.in_ok-deed.ensures.parts c.in-Some.is) c.in-Send.is c.loop-deed.invariant.did
      c.in_ok-send-in-Send.ensures.only c.in_ok-send-in-Send.ensures.ok;
  writable = All-rest IsWritable c.in-Some.deed c.next.new.self c.loop-deed.deeds
      (next_is _ _ _ _ c.in_ok-deed.ensures.parts c.in-Some.is) c.loop-deed.invariant.writable;
  write = c.in_ok-send-in-Send.ensures.write ∙ c.loop-deed.invariant.write;
  same = c.in_ok-send-in-Send.ensures.same ∙ c.loop-deed.invariant.same;
}

-- Of what was held a front was written.
pub returns-in_err-flush-in-Reach-clause-err : goal.returns-in_err-flush-in-Reach-clause-err
returns-in_err-flush-in-Reach-clause-err g c =
    let e = err_from_is_err_and c.from_residual-in_err-flush-in-Reach.result
    c.from_residual-in_err-flush-in-Reach.ensures.1 in
    rw e.1 (sides_broke g.P.Port.ops g.P.Port.own _ _ _ _ c.args.deeds.now _ c.loop-deed.invariant.did
    c.in_err-flush-in-Reach.ensures.only c.in_err-flush-in-Reach.ensures.err)

-- The gate is reached, and the others end as before.
pub loop-deed-preserved : goal.loop-deed-preserved
loop-deed-preserved g c = record {
  did = sides_reach g.P.Port.ops g.P.Port.own _ _ _ _ _ _ c.args.deeds.now _ c.in-Some.deed c.in-Reach.moment _
      (next_is _ _ _ _ c.in_ok-deed.ensures.parts c.in-Some.is) c.in-Reach.is c.loop-deed.invariant.did
      c.in_ok-flush-in-Reach.ensures.only c.in_ok-flush-in-Reach.ensures.ok
      (c.reach.ensures.held ∙ c.in_ok-flush-in-Reach.ensures.empty) c.reach.ensures.reaches;
  writable = All-rest IsWritable c.in-Some.deed c.next.new.self c.loop-deed.deeds
      (next_is _ _ _ _ c.in_ok-deed.ensures.parts c.in-Some.is) c.loop-deed.invariant.writable;
  write = c.reach.ensures.write ∙ c.in_ok-flush-in-Reach.ensures.write ∙ c.loop-deed.invariant.write;
  same = c.reach.ensures.same ∙ c.in_ok-flush-in-Reach.ensures.same ∙ c.loop-deed.invariant.same;
}

-- Of what was held a front was written.
pub returns-in_err-flush-in-Ask-clause-err : goal.returns-in_err-flush-in-Ask-clause-err
returns-in_err-flush-in-Ask-clause-err g c =
    let e = err_from_is_err_and c.from_residual-in_err-flush-in-Ask.result c.from_residual-in_err-flush-in-Ask.ensures.1
    in
    rw e.1 (sides_broke g.P.Port.ops g.P.Port.own _ _ _ _ c.args.deeds.now _ c.loop-deed.invariant.did
    c.in_err-flush-in-Ask.ensures.only c.in_err-flush-in-Ask.ensures.err)

-- The call was the last deed.
pub returns-in-Ask-clause-ok : goal.returns-in-Ask-clause-ok
returns-in-Ask-clause-ok g c =
    sides_ask g.P.Port.ops g.P.Port.own _ _ _ _ _ c.args.deeds.now _ c.in-Some.deed c.in-Ask.call c.ask.result _
    (next_is _ _ _ _ c.in_ok-deed.ensures.parts c.in-Some.is) c.in-Ask.is c.loop-deed.invariant.did
    c.in_ok-flush-in-Ask.ensures.only c.in_ok-flush-in-Ask.ensures.ok c.ask.ensures.asks

-- Of what was held a front was written.
pub returns-in_err-flush-in-Close-clause-err : goal.returns-in_err-flush-in-Close-clause-err
returns-in_err-flush-in-Close-clause-err g c =
    let e = err_from_is_err_and c.from_residual-in_err-flush-in-Close.result
    c.from_residual-in_err-flush-in-Close.ensures.1 in
    rw e.1 (sides_broke g.P.Port.ops g.P.Port.own _ _ _ _ c.args.deeds.now _ c.loop-deed.invariant.did
    c.in_err-flush-in-Close.ensures.only c.in_err-flush-in-Close.ensures.err)

-- So was the close.
pub returns-in-Close-clause-ok : goal.returns-in-Close-clause-ok
returns-in-Close-clause-ok g c =
    sides_close g.P.Port.ops g.P.Port.own _ _ _ _ c.args.deeds.now _ c.in-Some.deed _
    (next_is _ _ _ _ c.in_ok-deed.ensures.parts c.in-Some.is) c.in-Close.is c.loop-deed.invariant.did
    c.in_ok-flush-in-Close.ensures.only c.in_ok-flush-in-Close.ensures.ok

-- Of what was held a front was written.
pub returns-in_err-flush-clause-err : goal.returns-in_err-flush-clause-err
returns-in_err-flush-clause-err g c =
    let e = err_from_is_err_and c.from_residual-in_err-flush.result c.from_residual-in_err-flush.ensures.1 in
    rw e.1 (sides_broke g.P.Port.ops g.P.Port.own _ _ _ _ c.args.deeds.now _ c.loop-deed.invariant.did
    c.in_err-flush.ensures.only c.in_err-flush.ensures.err)

-- No deed is left, and no byte is held.
pub returns-clause-ok : goal.returns-clause-ok
returns-clause-ok g c = sides_all g.P.Port.ops g.P.Port.own _ _ _ _ c.args.deeds.now
    _ (c.in_ok-deed.ensures.none (ap (λ next. Ok next) c.in_default.is)) c.loop-deed.invariant.did
    c.in_ok-flush.ensures.only c.in_ok-flush.ensures.ok
