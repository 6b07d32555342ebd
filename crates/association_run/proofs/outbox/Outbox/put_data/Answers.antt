use Rattle.std.proofs.Common.{◌∙◌, arith}
use Rattle.std.proofs.lemmas.Result.{err_from_is_err_and}
use Rattle.pdu.specs.Spelling.{pdv_text}
use Rattle.pdu.proofs.Lists.{text_at}
use Rattle.association_run.proofs.OutboxLaws.{broke_data, broke_value, put_value, put_all_values}
use Rattle.association_run.proofs.outbox.Outbox.put_data.Goals as goal

-- Of the header a front was put.
pub returns-in_err-put-clause-err : goal.returns-in_err-put-clause-err
returns-in_err-put-clause-err g c =
    let e = err_from_is_err_and c.from_residual.result c.from_residual.ensures.1 in
    let put = rw c.head_of_data.ensures at c.in_err-put.ensures.err in
    rw e.1 (broke_data _ _ c.args.self.now c.args.values.now put)

-- A value is no longer than the body.
pub put_pdv-requires : goal.put_pdv-requires
put_pdv-requires g c = omega (
  arith,
  c.requires,
  text_at pdv_text c.args.values.now c.loop-value.value-index
      c.value-item.result c.loop-value-test.true c.value-item.is,
)

-- Of the value a front was put.
pub returns-in_err-put_pdv-clause-err : goal.returns-in_err-put_pdv-clause-err
returns-in_err-put_pdv-clause-err g c =
    let e = err_from_is_err_and c.from_residual-in_err-put_pdv.result c.from_residual-in_err-put_pdv.ensures.1 in
    rw e.1 (broke_value _ _ _ c.args.self.now c.loop-value.self c.args.values.now c.loop-value.value-index
    c.value-item.result c.loop-value-test.true c.value-item.is c.loop-value.invariant.puts
    c.in_err-put_pdv.ensures.err)

-- The value goes behind the others.
pub loop-value-preserved : goal.loop-value-preserved
loop-value-preserved g c = record {
  puts = put_value _ _ _ c.args.self.now c.loop-value.self c.put_pdv.new.self c.args.values.now c.loop-value.value-index
      c.value-item.result c.loop-value-test.true c.value-item.is c.loop-value.invariant.puts c.in_ok-put_pdv.ensures.ok;
  write = c.in_ok-put_pdv.ensures.write ∙ c.loop-value.invariant.write;
}

-- The header and all values are put.
pub returns-clause-ok : goal.returns-clause-ok
returns-clause-ok g c = put_all_values _ _ c.args.self.now c.loop-value.self c.args.values.now c.loop-value.value-index
    c.loop-value-test.false c.loop-value.invariant.puts
