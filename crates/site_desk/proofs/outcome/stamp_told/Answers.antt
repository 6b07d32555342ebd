use Rattle.std.proofs.Common.{None, Some, sym, ◌∙◌, arith}
use Rattle.std.proofs.lemmas.List.{append_cancel_right}
use Rattle.std.proofs.lemmas.Str.Pattern.{strip_suffix_char}
use Rattle.site_desk.specs.Outcomes.{stamp_text}
use Rattle.site_desk.proofs.StampLaws.{rest_is}
use Rattle.site_desk.proofs.outcome.stamp_told.Goals as goal

-- It has its end,
pub returns-in_err-strip_suffix : goal.returns-in_err-strip_suffix
returns-in_err-strip_suffix c = λ made is e.
    let found = c.in_ok-rest.ensures.cases in
    let rest = rest_is made c.args.text.now c.in_ok-rest.rest.now found.0 e found.1.0 found.2 in
    absurd (strip_suffix_char 10 c.in_ok-rest.rest.now None c.in_err-strip_suffix.ensures.cases (omega arith)
    (stamp_text made) rest)

-- before which the text of the stamp stands.
pub returns : goal.returns
returns c = λ made is e.
    let found = c.in_ok-rest.ensures.cases in
    let rest = rest_is made c.args.text.now c.in_ok-rest.rest.now found.0 e found.1.0 found.2 in
    let parted = strip_suffix_char 10 c.in_ok-rest.rest.now (Some c.in_ok-strip_suffix.field-0)
    c.in_ok-strip_suffix.ensures.cases (omega arith) in
    c.stamp_between.ensures made is (append_cancel_right _ _ _ (sym parted ∙ rest))
