use Rattle.std.proofs.Common.{sym, arith}
use Rattle.std.proofs.lemmas.List.{take_all, length-take-le}
use Rattle.study_index.proofs.short_text.front.Goals as goal

-- The first 64 bytes of a longer text are 64.
pub slice_bounds-result-end : goal.slice_bounds-result-end
slice_bounds-result-end c = sym (length-take-le 64 c.args.text.now (omega (arith, c.if-text-gt-LONGEST.true)))

-- So they are no more than 64.
pub returns-then-text-gt-LONGEST-clause-short : goal.returns-then-text-gt-LONGEST-clause-short
returns-then-text-gt-LONGEST-clause-short c =
    let is = length-take-le 64 c.args.text.now (omega (arith, c.if-text-gt-LONGEST.true)) in omega (arith, is)

-- A text of no more than 64 bytes is all of its first 64.
pub returns-clause-value : goal.returns-clause-value
returns-clause-value c = sym (take_all 64 c.args.text.now c.if-text-gt-LONGEST.false)
