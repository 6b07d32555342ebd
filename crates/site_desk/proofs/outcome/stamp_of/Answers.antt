use Rattle.std.proofs.Common.{sym, ◌∙◌, arith}
use Rattle.std.proofs.lemmas.Fmt.{parse-decimal}
use Rattle.site_desk.proofs.StampLaws.{stamp_read}
use Rattle.site_desk.proofs.outcome.stamp_of.Goals as goal

-- Both are the numbers that they were written from,
pub returns-in-Ok-Ok : goal.returns-in-Ok-Ok
returns-in-Ok-Ok c = λ made is first second.
    let counter = parse-decimal 64 made.counter c.args.counter.now c.parse.result is.0 is.0 first c.parse.ensures.value.0 in
    let site = parse-decimal 16 made.site c.args.site.now c.parse-2.result is.1 (omega (arith, is.1)) second
    c.parse-2.ensures.value.0 in
    stamp_read c.in-Ok-Ok.counter c.in-Ok-Ok.site c.parse.result c.parse-2.result made c.in-Ok-Ok.is-0 counter
    c.in-Ok-Ok.is-1 site

-- and each is a number.
pub returns-in_default : goal.returns-in_default
returns-in_default c = λ made is first second.
    let site = parse-decimal 16 made.site c.args.site.now c.parse-2.result is.1 (omega (arith, is.1)) second
    c.parse-2.ensures.value.0 in
    let two = sym c.in_default.is-1 ∙ site in
    cc

pub returns-in_default-2 : goal.returns-in_default-2
returns-in_default-2 c = λ made is first second.
    let counter = parse-decimal 64 made.counter c.args.counter.now c.parse.result is.0 is.0 first c.parse.ensures.value.0 in
    let one = sym c.in_default.is-0 ∙ counter in
    cc
