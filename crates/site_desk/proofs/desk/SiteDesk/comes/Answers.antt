use Rattle.std.proofs.Common.{◌∙◌, List, ℕ, ap, inl, subst}
use Rattle.std.proofs.lemmas.Result.{err_from_is_err_and}
use Rattle.site_desk.specs.Posting.{Posting, Says, SaysNone}
use Rattle.site_desk.specs.Requests.{posting_of}
use Rattle.site_desk.proofs.WhyLaws.{of_words}
use Rattle.site_desk.proofs.desk.SiteDesk.comes.Goals as goal

-- The request says no four words,
pub returns-in_err-words-clause-why : goal.returns-in_err-words-clause-why
returns-in_err-words-clause-why g c =
    let p = err_from_is_err_and c.from_residual.result c.from_residual.ensures.1 in
    let is = c.posted-posted.ensures
    ∙ ap (λ (names : List (List ℕ)). posting_of names c.args.request.now) c.names.ensures in
    rw p.1 (inl (subst (λ (posted : Posting). SaysNone posted p.0) is (rw p.2 c.in_err-words.ensures)))

-- or what they ask for is not made.
pub returns-clause-why : goal.returns-clause-why
returns-clause-why g c =
    let is = c.posted-posted.ensures
    ∙ ap (λ (names : List (List ℕ)). posting_of names c.args.request.now) c.names.ensures in
    of_words g.H.HubName.opening c.args.self.now c.correct_by.new.self c.args.request.now c.in_ok-words.words
    c.correct_by.result
    (subst (λ (posted : Posting). Says posted c.in_ok-words.words) is c.in_ok-words.ensures)
    c.correct_by.ensures.why
