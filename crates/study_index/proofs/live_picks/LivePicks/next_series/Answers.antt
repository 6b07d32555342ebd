use Rattle.std.proofs.Common.{◌∙◌, ap, sym, subst, None, Some}
use Rattle.std.specs.Option.{option_copied}
use Rattle.std.specs.BTreeMap.Range.{IsFromStart}
use Rattle.study_index.specs.Keys.{has}
use Rattle.study_index.specs.Live.{Text, place_cmp, IsNext, HasSeries}
use Rattle.study_index.proofs.Walks.{no_series, other_study, a_series}
use Rattle.study_index.proofs.live_picks.LivePicks.next_series.Goals as goal

-- Nothing stands from there on.
pub returns-in-None : goal.returns-in-None
returns-in-None c = subst (λ picks. IsNext (HasSeries picks c.args.study.now) (option_copied c.args.after) None)
    c.self.view_is (no_series c.self.inside.picks c.held.ensures.0 c.args.study.now (option_copied c.args.after)
    (λ q from. ap (λ ks. has place_cmp ks q) (sym c.self.invariant) ∙ c.in-None.ensures.none
    q (subst (λ b. IsFromStart place_cmp b q) (sym c.in_ok-start.ensures) from)))

-- The first place from there on is of another study.
pub returns-then-not-has_bytes : goal.returns-then-not-has_bytes
returns-then-not-has_bytes c =
    subst (λ picks. IsNext (HasSeries picks c.args.study.now) (option_copied c.args.after) None) c.self.view_is
    (other_study c.self.inside.picks c.held.ensures.0 c.args.study.now (option_copied c.args.after) c.in-Some.place.now
    (λ e. let t = c.has_bytes.ensures.1 (sym (c.study.ensures.value ∙ e)) in
    let u = c.if-not-has_bytes.true in
    cc)
    (subst (λ b. IsFromStart place_cmp b c.in-Some.place.now) c.in_ok-start.ensures c.in-Some.ensures.found.0)
    (λ q from there. c.in-Some.ensures.least q (subst (λ b. IsFromStart place_cmp b q) (sym c.in_ok-start.ensures)
    from) (ap (λ ks. has place_cmp ks q) c.self.invariant ∙ there)))

-- The first place from there on has the series.
pub returns-else-not-has_bytes : goal.returns-else-not-has_bytes
returns-else-not-has_bytes c =
    subst (λ (t : Text). IsNext (HasSeries c.args.self.now c.args.study.now) (option_copied c.args.after)
    (Some t)) (sym (c.whole.ensures ∙ c.series.ensures.value))
    (subst (λ picks. IsNext (HasSeries picks c.args.study.now) (option_copied c.args.after)
    (Some c.in-Some.place.now.series)) c.self.view_is
    (a_series c.self.inside.picks c.held.ensures.0 c.args.study.now (option_copied c.args.after) c.in-Some.place.now
    (sym (c.has_bytes.ensures.0 c.if-not-has_bytes.false ∙ c.study.ensures.value))
    (subst (λ b. IsFromStart place_cmp b c.in-Some.place.now) c.in_ok-start.ensures c.in-Some.ensures.found.0)
    (ap (λ ks. has place_cmp ks c.in-Some.place.now) (sym c.self.invariant) ∙ c.in-Some.ensures.found.1)
    (λ q from there. c.in-Some.ensures.least q (subst (λ b. IsFromStart place_cmp b q) (sym c.in_ok-start.ensures)
    from) (ap (λ ks. has place_cmp ks q) c.self.invariant ∙ there))))
