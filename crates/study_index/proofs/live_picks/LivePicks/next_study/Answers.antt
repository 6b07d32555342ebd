use Rattle.std.proofs.Common.{◌∙◌, ap, sym, subst, None, Some}
use Rattle.std.specs.Option.{option_copied}
use Rattle.std.specs.BTreeMap.Range.{IsFromStart}
use Rattle.study_index.specs.Keys.{has}
use Rattle.study_index.specs.Live.{Text, place_cmp, IsNext, HasStudy}
use Rattle.study_index.proofs.Walks.{no_study, a_study}
use Rattle.study_index.proofs.live_picks.LivePicks.next_study.Goals as goal

-- Nothing stands from there on.
pub returns-in-None : goal.returns-in-None
returns-in-None c = subst (λ picks. IsNext (HasStudy picks) (option_copied c.args.after) None) c.self.view_is
    (no_study c.self.inside.picks c.held.ensures.0 (option_copied c.args.after)
    (λ q from. ap (λ ks. has place_cmp ks q) (sym c.self.invariant) ∙ c.in-None.ensures.none
    q (subst (λ b. IsFromStart place_cmp b q) (sym c.in_ok-start.ensures) from)))

-- The first place from there on has the study.
pub returns-in-Some : goal.returns-in-Some
returns-in-Some c =
    subst (λ (t : Text). IsNext (HasStudy c.args.self.now) (option_copied c.args.after) (Some t))
    (sym (c.whole.ensures ∙ c.study.ensures.value))
    (subst (λ picks. IsNext (HasStudy picks) (option_copied c.args.after)
    (Some c.in-Some.place.now.study)) c.self.view_is
    (a_study c.self.inside.picks c.held.ensures.0 (option_copied c.args.after) c.in-Some.place.now
    (subst (λ b. IsFromStart place_cmp b c.in-Some.place.now) c.in_ok-start.ensures c.in-Some.ensures.found.0)
    (ap (λ ks. has place_cmp ks c.in-Some.place.now) (sym c.self.invariant) ∙ c.in-Some.ensures.found.1)
    (λ q from there. c.in-Some.ensures.least q (subst (λ b. IsFromStart place_cmp b q) (sym c.in_ok-start.ensures) from)
    (ap (λ ks. has place_cmp ks q) c.self.invariant ∙ there))))
