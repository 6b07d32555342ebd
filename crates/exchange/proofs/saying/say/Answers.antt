use Rattle.std.proofs.Common.{refl, List, ℕ, Option, None, Result, Ok, Err}
use Rattle.std.proofs.lemmas.Result.{err_from_is_err_and}
use Rattle.exchange.specs.declared.fault.ExchangeFault.{ExchangeFault}
use Rattle.exchange.proofs.Gifts.{said_one, said_front}
use Rattle.exchange.proofs.Writings.{speaks_one}
use Rattle.exchange.proofs.saying.say.Goals as goal

abbrev err_of : ExchangeFault → Result (Option (List (List ℕ))) ExchangeFault
err_of fault = Err fault

abbrev none_of : Result (Option (List (List ℕ))) ExchangeFault
none_of = Ok None

-- One frame was written,
pub returns-in_ok-say_frame-in-One-clause-speaks : goal.returns-in_ok-say_frame-in-One-clause-speaks
returns-in_ok-say_frame-in-One-clause-speaks g c =
    let one = c.in_ok-say_frame-in-One.ensures in
    rw c.in-One.is (λ none. said_one _ _ c.in-One.frame _ _ none_of
    (speaks_one _ _ c.in-One.frame none_of one.ok tt tt one.sayable) refl)

-- or a front of it.
pub returns-in_err-say_frame-in-One-clause-speaks : goal.returns-in_err-say_frame-in-One-clause-speaks
returns-in_err-say_frame-in-One-clause-speaks g c =
    let one = c.in_err-say_frame-in-One.ensures in
    let e = err_from_is_err_and c.from_residual.result c.from_residual.ensures.1 in
    rw (c.in-One.is, e.1, e.2) (λ none. said_one _ _ c.in-One.frame _ _ (err_of c.in_err-say_frame-in-One.field-0.0)
    (speaks_one _ _ c.in-One.frame (err_of c.in_err-say_frame-in-One.field-0.0) tt one.err one.why tt) tt)

-- Of GIVEs and END a front was written.
pub returns-in_err-say_gifts-in-Gifts-clause-speaks : goal.returns-in_err-say_gifts-in-Gifts-clause-speaks
returns-in_err-say_gifts-in-Gifts-clause-speaks g c =
    let e = err_from_is_err_and c.from_residual-in_err-say_gifts-in-Gifts.result
    c.from_residual-in_err-say_gifts-in-Gifts.ensures.1 in
    rw (c.in-Gifts.is, e.1, e.2) (λ can. said_front _ _ _ _ _ c.in_err-say_gifts-in-Gifts.field-0.0
    (c.in_err-say_gifts-in-Gifts.ensures.speaks can))
