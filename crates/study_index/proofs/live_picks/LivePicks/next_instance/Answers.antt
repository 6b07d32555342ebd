use Rattle.std.proofs.Common.{◌∙◌, ap, sym, subst, None, Some}
use Rattle.std.specs.Option.{option_copied}
use Rattle.std.specs.BTreeMap.Range.{IsFromStart}
use Rattle.study_index.specs.Keys.{has}
use Rattle.study_index.specs.Live.{Text, place_cmp, IsNext, HasInstance}
use Rattle.study_index.proofs.Walks.{no_instance, not_in_study, not_in_series, an_instance}
use Rattle.study_index.proofs.live_picks.LivePicks.next_instance.Goals as goal

-- Nothing stands from there on.
pub returns-in-None : goal.returns-in-None
returns-in-None c = subst (λ picks. IsNext (HasInstance picks c.args.study.now c.args.series.now)
    (option_copied c.args.after) None) c.self.view_is (no_instance c.self.inside.picks c.held.ensures.0 c.args.study.now
    c.args.series.now (option_copied c.args.after)
    (λ q from. ap (λ ks. has place_cmp ks q) (sym c.self.invariant) ∙ c.in-None.ensures.none
    q (subst (λ b. IsFromStart place_cmp b q) (sym c.in_ok-start.ensures) from)))

-- The first place from there on is of another study.
pub returns-then-not-has_bytes : goal.returns-then-not-has_bytes
returns-then-not-has_bytes c =
    subst (λ picks. IsNext (HasInstance picks c.args.study.now c.args.series.now) (option_copied c.args.after) None)
    c.self.view_is
    (not_in_study c.self.inside.picks c.held.ensures.0 c.args.study.now c.args.series.now (option_copied c.args.after)
    c.in-Some.place.now
    (λ e. let t = c.has_bytes.ensures.1 (sym (c.study.ensures.value ∙ e)) in
    let u = c.if-not-has_bytes.true in
    cc)
    (subst (λ b. IsFromStart place_cmp b c.in-Some.place.now) c.in_ok-start.ensures c.in-Some.ensures.found.0)
    (λ q from there. c.in-Some.ensures.least q (subst (λ b. IsFromStart place_cmp b q) (sym c.in_ok-start.ensures)
    from) (ap (λ ks. has place_cmp ks q) c.self.invariant ∙ there)))

-- The first place from there on is of another series of the study.
pub returns-then-not-has_bytes-2 : goal.returns-then-not-has_bytes-2
returns-then-not-has_bytes-2 c =
    subst (λ picks. IsNext (HasInstance picks c.args.study.now c.args.series.now) (option_copied c.args.after) None)
    c.self.view_is
    (not_in_series c.self.inside.picks c.held.ensures.0 c.args.study.now c.args.series.now (option_copied c.args.after)
    c.in-Some.place.now
    (sym (c.has_bytes.ensures.0 c.if-not-has_bytes.false ∙ c.study.ensures.value))
    (λ e. let t = c.has_bytes-in-Some.ensures.1 (sym (c.series.ensures.value ∙ e)) in
    let u = c.if-not-has_bytes-2.true in cc)
    (subst (λ b. IsFromStart place_cmp b c.in-Some.place.now) c.in_ok-start.ensures c.in-Some.ensures.found.0)
    (ap (λ ks. has place_cmp ks c.in-Some.place.now) (sym c.self.invariant) ∙ c.in-Some.ensures.found.1)
    (λ q from there. c.in-Some.ensures.least q (subst (λ b. IsFromStart place_cmp b q) (sym c.in_ok-start.ensures)
    from) (ap (λ ks. has place_cmp ks q) c.self.invariant ∙ there)))

-- The first place from there on is the instance's.
pub returns-else-not-has_bytes-2 : goal.returns-else-not-has_bytes-2
returns-else-not-has_bytes-2 c =
    subst (λ (t : Text). IsNext (HasInstance c.args.self.now c.args.study.now c.args.series.now)
    (option_copied c.args.after) (Some t)) (sym (c.whole.ensures ∙ c.instance.ensures.value))
    (subst (λ picks. IsNext (HasInstance picks c.args.study.now c.args.series.now) (option_copied c.args.after)
    (Some c.in-Some.place.now.instance)) c.self.view_is
    (an_instance c.self.inside.picks c.held.ensures.0 c.args.study.now c.args.series.now (option_copied c.args.after)
    c.in-Some.place.now
    (sym (c.has_bytes.ensures.0 c.if-not-has_bytes.false ∙ c.study.ensures.value))
    (sym (c.has_bytes-in-Some.ensures.0 c.if-not-has_bytes-2.false ∙ c.series.ensures.value))
    (subst (λ b. IsFromStart place_cmp b c.in-Some.place.now) c.in_ok-start.ensures c.in-Some.ensures.found.0)
    (ap (λ ks. has place_cmp ks c.in-Some.place.now) (sym c.self.invariant) ∙ c.in-Some.ensures.found.1)
    (λ q from there. c.in-Some.ensures.least q (subst (λ b. IsFromStart place_cmp b q) (sym c.in_ok-start.ensures)
    from) (ap (λ ks. has place_cmp ks q) c.self.invariant ∙ there))))
