use Rattle.std.proofs.Common.{arith, refl, sym}
use Rattle.key_matching.proofs.WildCards.{alone_within, alone_at_end}
use Rattle.key_matching.proofs.wild_card.is_wild_match.Goals as goal

-- No star stands in front, and the front does not match.
pub returns-then-n-value : goal.returns-then-n-value
returns-then-n-value c = sym (alone_within c.args.folds c.matching_front-n.result c.args.key.now c.args.value.now
    (omega arith) c.matching_front-n.ensures.stuck (c.if-is_star_at.ensures.other refl) c.matching_front-n.ensures.rest)

-- The front matches up to a star, and the rest is matched behind it.
pub returns : goal.returns
returns c = sym (alone_at_end c.args.folds c.matching_front-n.result c.args.key.now c.args.value.now
    c.matching_front-n.ensures.within_key (omega arith) (c.if-is_star_at.ensures.other refl)
    c.matching_front-n.ensures.rest)
