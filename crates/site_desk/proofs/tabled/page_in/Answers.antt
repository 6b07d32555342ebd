use Rattle.std.proofs.Common.{rules, ℕ, List, map}
use Rattle.std.proofs.lemmas.Option.{none-some, MatchOption-at_none}
use Rattle.json.specs.Value.{value_view}
use Rattle.site_desk.specs.Tabled.{Tells}
use Rattle.site_desk.proofs.TabledLaws.{unread, untold}
use Rattle.site_desk.proofs.tabled.page_in.Goals as goal

-- A response that is there in whole has a body.
pub returns-in_default-clause-none : goal.returns-in_default-clause-none
returns-in_default-clause-none c = λ rows pages it. none-some _ (c.in_default.ensures.only it.body it.has_body)

-- What is no document is none of a page.
pub returns-in-Err-Invalid-clause-none : goal.returns-in-Err-Invalid-clause-none
returns-in-Err-Invalid-clause-none c =
    let heading = map (λ name. name.now) c.args.heading.now in
    unread heading c.args.text.now c.in-Some.body.now c.in-Some.ensures.only (c.from_slice.ensures.invalid (search rules))

-- A response has one body, which is one value.
pub returns-in-None-clause-none : goal.returns-in-None-clause-none
returns-in-None-clause-none c =
    let heading = map (λ name. name.now) c.args.heading.now in
    let isnt : (rows : List (List (List ℕ))) (pages : ℕ) → Tells heading (value_view c.in-Ok.value) rows pages → ⊥
    = MatchOption-at_none _ _ c.in-None.is c.in_ok-told_by.ensures in
    untold heading c.args.text.now c.in-Some.body.now (value_view c.in-Ok.value) c.in-Some.ensures.only
    c.in-Ok.ensures.ok.1 isnt
