-- When no exchange follows.
use Rattle.std.proofs.Common.{◌≡◌, Bool, true, false, refl, ap, ◌∙◌}
use Rattle.std.specs.Prelude.{not, nat_lt, ◌&&◌, ◌||◌}
use mathlib.Core.Bool.{and-false as and_false}
use Rattle.exchange.specs.Repeating.{has_brought, RepeatsEnd}

last_false : (a b c : Bool) → (a && (b && (c && false))) ≡ false
last_false true true c = and_false c
last_false true false c = refl
last_false false b c = refl

third_false : (a b c : Bool) → (a && (b && (false && c))) ≡ false
third_false true true c = refl
third_false true false c = refl
third_false false b c = refl

pub repeats_end : RepeatsEnd
repeats_end = record {
  fits = λ all last e. ap (λ b. last.finished && (has_brought last && (not last.agreed && not b))) e
      ∙ last_false last.finished (has_brought last) (not last.agreed);
  idle = λ all last given taken.
      ap (λ n. last.finished && ((nat_lt 0 n || nat_lt 0 last.taken) && (not last.agreed && not all.whole))) given
      ∙ ap (λ n. last.finished && ((nat_lt 0 0 || nat_lt 0 n) && (not last.agreed && not all.whole))) taken
      ∙ and_false last.finished;
  agrees = λ all last e. ap (λ b. last.finished && (has_brought last && (not b && not all.whole))) e
      ∙ third_false last.finished (has_brought last) (not all.whole);
  unfinished = λ all last e. ap (λ b. b && (has_brought last && (not last.agreed && not all.whole))) e;
}
