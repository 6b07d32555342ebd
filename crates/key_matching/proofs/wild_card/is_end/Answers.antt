use Rattle.std.proofs.Common.{arith, ◌∙◌, ap, sym}
use Rattle.key_matching.specs.WildCardFront.{is_front}
use Rattle.key_matching.proofs.Runs.{too_few, at_end}
use Rattle.key_matching.proofs.wild_card.is_end.Goals as goal

-- A run that is longer than the value ends none.
pub returns-then-value-run : goal.returns-then-value-run
returns-then-value-run c = sym (too_few c.args.folds c.args.run.now c.args.value.now c.requires (omega arith))

-- The run is a front of as much of the value's end as it is long.
pub returns : goal.returns
returns c =
    c.is_front.ensures
    ∙ ap (is_front c.args.folds c.args.run.now) c.behind.ensures
    ∙ sym (at_end c.args.folds c.args.run.now c.args.value.now c.requires (omega arith))
