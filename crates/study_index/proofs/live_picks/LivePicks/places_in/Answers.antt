use Rattle.std.proofs.Common.{subst, sym}
use Rattle.std.specs.BTreeMap.Range.{IsLeBy}
use Rattle.study_index.specs.Live.{Place, place_cmp, front_of}
use Rattle.study_index.proofs.Studies.{front_before_end}
use Rattle.study_index.proofs.live_picks.LivePicks.places_in.Goals as goal

-- The front of a study stands before its end.
pub between-requires : goal.between-requires
between-requires c =
    subst (λ (p : Place). IsLeBy place_cmp p c.in_ok-end.end) (sym c.in_ok-front.ensures)
    (subst (λ (p : Place). IsLeBy place_cmp (front_of c.args.study.now) p) (sym c.in_ok-end.ensures)
    (front_before_end c.args.study.now))
