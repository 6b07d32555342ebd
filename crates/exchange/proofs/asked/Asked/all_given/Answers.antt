use Rattle.std.proofs.Common.{◌≡◌, [], length, get_or, sym, ap, ◌∙◌, refl, arith, inl, inr}
use Rattle.std.proofs.lemmas.Bool.{false≢true, cases_lt as split}
use Rattle.std.proofs.lemmas.List.{get_or_default}
use Rattle.exchange.specs.Round.{asked_in}
use Rattle.exchange.proofs.Askings.{none_left}
use Rattle.exchange.proofs.asked.Asked.all_given.Goals as goal

-- This one is not asked for still, and none before.
pub loop-at-preserved : goal.loop-at-preserved
loop-at-preserved c = λ i e lt not is. elim (split i c.loop-at.at) [
  | inl below ↦ c.loop-at.invariant i e below not is
  | inr above ↦
      let arrays = c.as_arrays-arrays.result.now in
      let at : i ≡ c.loop-at.at = omega (arith, lt, above) in
      let one : get_or arrays i e ≡ c.of.result =
      ap (λ k. get_or arrays k e) at ∙ get_or_default arrays c.loop-at.at e [] c.loop-at-test.true ∙ sym c.of.ensures
      in
      absurd (false≢true (sym c.if-lacks.false ∙ c.lacks.ensures.1
      (ap (λ d. asked_in d c.args.self.now) (sym one) ∙ is)))
]

-- None is asked for still.
pub returns : goal.returns
returns c =
    let arrays = c.as_arrays-arrays.result.now in
    let ds = c.self.inside.digests in
    let gs = c.self.inside.flags.items in
    let long : length ds ≡ length arrays = ap length (sym c.as_arrays-arrays.ensures) in (
      λ _ x told. none_left ds gs c.self.invariant.each (λ i e lt not is. c.loop-at.invariant i e
          (omega (arith, lt, long, c.loop-at-test.false)) not
          (ap (λ d. asked_in d c.args.self.now) (ap (λ ds. get_or ds i e) c.as_arrays-arrays.ensures)
          ∙ ap (asked_in (get_or ds i e)) (sym c.self.view_is) ∙ is)) x (ap (asked_in x) c.self.view_is ∙ told),
      λ _. refl,
    )
