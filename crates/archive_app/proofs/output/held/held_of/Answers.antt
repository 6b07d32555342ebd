use Rattle.std.proofs.Common.{None, Some, [], ◌∷◌, ◌++◌, sym, ◌∙◌, arith}
use Rattle.std.specs.Fmt.{decimal}
use Rattle.std.proofs.lemmas.List.{append_cancel_right}
use Rattle.std.proofs.lemmas.Str.Pattern.{split_parts, strip_suffix_char}
use Rattle.archive_app.proofs.HeldLaws.{parts, twice}
use Rattle.archive_app.proofs.output.held.held_of.Goals as goal

-- There is an end of a line,
pub returns-in-None-clause-told : goal.returns-in-None-clause-told
returns-in-None-clause-told c = λ n l e. absurd (parts n c.args.text.now None l c.in-None.ensures.cases e)

-- and one more behind the second number.
pub returns-in-None-strip_suffix-clause-told : goal.returns-in-None-strip_suffix-clause-told
returns-in-None-strip_suffix-clause-told c = λ n l e.
    let both = parts n c.args.text.now (Some (c.in-Some.first, c.in-Some.rest)) l c.in-Some.ensures.cases e in
    absurd (strip_suffix_char 10 c.in-Some.rest.now None c.in-None-strip_suffix.ensures.cases (omega arith) (decimal n) both.1)

-- Both numbers are read,
pub returns-in-Some-strip_suffix-clause-told : goal.returns-in-Some-strip_suffix-clause-told
returns-in-Some-strip_suffix-clause-told c = λ n l e.
    let both = parts n c.args.text.now (Some (c.in-Some.first, c.in-Some.rest)) l c.in-Some.ensures.cases e in
    let parted = strip_suffix_char 10 c.in-Some.rest.now (Some c.in-Some-strip_suffix.second) c.in-Some-strip_suffix.ensures.cases (omega arith) in
    c.held_between.ensures.told n l both.0 (append_cancel_right _ _ _ (sym parted ∙ both.1))

-- where they are one.
pub returns-in-Some-strip_suffix-clause-twice : goal.returns-in-Some-strip_suffix-clause-twice
returns-in-Some-strip_suffix-clause-twice c = λ some.
    let found = split_parts 10 c.args.text.now (Some (c.in-Some.first, c.in-Some.rest)) c.in-Some.ensures.cases (omega arith) in
    let parted = strip_suffix_char 10 c.in-Some.rest.now (Some c.in-Some-strip_suffix.second) c.in-Some-strip_suffix.ensures.cases (omega arith) in
    (c.in-Some.first.now ++ 10 ∷ [], twice _ _ _ _ found.0 parted (c.held_between.ensures.twice some))
