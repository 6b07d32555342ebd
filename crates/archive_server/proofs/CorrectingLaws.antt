-- Laws of a clerk at the desk.
use Rattle.std.proofs.Common.{◌≡◌, ◌∙◌, ℕ, List, [], ◌∷◌, ◌++◌, Bor, refl, sym, ap, subst}
use Rattle.http_server.specs.Exchange.{Call, Chain}
use Rattle.http_server.specs.History.{History}
use Rattle.site_state.specs.Site.{Map}
use Rattle.site_hub.specs.Hub.{Seat}
use Rattle.site_desk.specs.declared.stamps.Stamps.{Stamps}
use Rattle.site_desk.specs.Desks.{AtDesk, AnswersAt}
use Rattle.site_desk.proofs.DeskLaws.{chain_goes}
use Rattle.archive_server.specs.Done.{Standing}
use Rattle.archive_server.specs.Correcting.{at_desk, AreAnswered, HasAnswered, HasCorrected}
use Rattle.archive_server.specs.Serving.{HasGoneOn}

abbrev desk_with : Seat → List (List ℕ) → List (List ℕ) → ℕ → ℕ → AtDesk
desk_with pass known names site last =
    record { pass = pass; known = known; names = names; site = site; last = last }

-- two desks are the same where their parts are
pub same_desk : (a b : AtDesk) → a.pass ≡ b.pass → a.known ≡ b.known → a.names ≡ b.names → a.site ≡ b.site
    → a.last ≡ b.last → a ≡ b
same_desk a b p q n r s =
    ap (λ (x : Seat). desk_with x a.known a.names a.site a.last) p
    ∙ ap (λ (x : List (List ℕ)). desk_with b.pass x a.names a.site a.last) q
    ∙ ap (λ (x : List (List ℕ)). desk_with b.pass b.known x a.site a.last) n
    ∙ ap (λ (x : ℕ). desk_with b.pass b.known b.names x a.last) r
    ∙ ap (λ (x : ℕ). desk_with b.pass b.known b.names b.site x) s

-- what a desk answered, the clerk answered of whom it was made, and who was made of it
pub answered_as : (opening : Map) (first last before after : AtDesk) (h : History) → first ≡ before → after ≡ last
    → AreAnswered opening first last h → AreAnswered opening before after h
answered_as opening first last before after h begins ends answered =
    subst (λ (d : AtDesk). AreAnswered opening d after h) begins
    (subst (λ (d : AtDesk). AreAnswered opening first d h) (sym ends) answered)

-- a connection's requests are requests
pub answered_by : (opening : Map) (before after : AtDesk) (h : History) → AreAnswered opening before after h
    → HasAnswered opening before after
answered_by opening before after h calls = (calls.0, calls.2)

-- nothing was answered
pub answered_self : (opening : Map) (d : AtDesk) → HasAnswered opening d d
answered_self opening d = ([], refl)

-- nor where the clerk is the same
pub answered_none : (opening : Map) (names : List (Bor (List ℕ))) (before after : Standing) (stamps : Stamps)
    → after ≡ before → HasAnswered opening (at_desk names before stamps) (at_desk names after stamps)
answered_none opening names before after stamps same =
    subst (λ (s : Standing). HasAnswered opening (at_desk names before stamps) (at_desk names s stamps)) (sym same)
    (answered_self opening (at_desk names before stamps))

chain_on : (opening : Map) (xs ys : List Call) (a b c : AtDesk)
    → Chain (λ old request response new. AnswersAt opening old request response new) a xs b
    → Chain (λ old request response new. AnswersAt opening old request response new) b ys c
    → Chain (λ old request response new. AnswersAt opening old request response new) a (xs ++ ys) c
chain_on opening [] ys a b c x y =
    subst (λ (d : AtDesk). Chain (λ old request response new. AnswersAt opening old request response new) d ys c) x y
chain_on opening (call ∷ xs) ys a b c x y = (x.0, x.1, chain_on opening xs ys x.0 b c x.2 y)

-- some requests, and some behind them
pub answered_trans : (opening : Map) (a b c : AtDesk) → HasAnswered opening a b → HasAnswered opening b c
    → HasAnswered opening a c
answered_trans opening a b c p q = (p.0 ++ q.0, chain_on opening p.0 q.0 a b c p.1 q.1)

-- the same of clerks that are named otherwise
pub answered_on : (opening : Map) (names : List (Bor (List ℕ))) (first clerk before after last : Standing)
    (stamps used made : Stamps)
    → HasAnswered opening (at_desk names first stamps) (at_desk names clerk used) → before ≡ clerk
    → HasAnswered opening (at_desk names before used) (at_desk names after made) → last ≡ after
    → HasAnswered opening (at_desk names first stamps) (at_desk names last made)
answered_on opening names first clerk before after last stamps used made p same q ends =
    subst (λ (s : Standing). HasAnswered opening (at_desk names first stamps) (at_desk names s made)) (sym ends)
    (answered_trans opening (at_desk names first stamps) (at_desk names clerk used) (at_desk names after made) p
    (subst (λ (s : Standing). HasAnswered opening (at_desk names s used) (at_desk names after made)) same q))

-- a clerk that served at a desk has gone on
pub corrected_gone : (opening : Map) (names : List (Bor (List ℕ))) (site : ℕ) (before after : Standing)
    → HasCorrected opening names site before after → HasGoneOn before after
corrected_gone opening names site before after corrected =
    let goes = chain_goes opening corrected.1.0 (at_desk names before (record { site = site; last = 0 }))
    (at_desk names after corrected.0) corrected.1.1 in
    record { onward = goes.onward; known = goes.known }
