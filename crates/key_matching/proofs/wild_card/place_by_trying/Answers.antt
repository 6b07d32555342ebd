use Rattle.std.proofs.Common.{arith, ◌∙◌, ap, sym}
use Rattle.key_matching.specs.WildCardFront.{is_front}
use Rattle.key_matching.proofs.Runs.{front_fits}
use Rattle.key_matching.proofs.wild_card.place_by_trying.Goals as goal

-- A run that matches at a place has room there.
pub returns-then-is_front-clause-within : goal.returns-then-is_front-clause-within
returns-then-is_front-clause-within c =
    front_fits c.args.folds c.args.run.now c.args.value.now c.loop-at.at
    (sym (c.if-is_front.ensures ∙ ap (is_front c.args.folds c.args.run.now) c.behind.ensures)) (omega arith)
