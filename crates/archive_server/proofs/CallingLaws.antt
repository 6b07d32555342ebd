-- Laws of calls, one behind another.
use Rattle.std.proofs.Common.{◌≡◌, ℕ, suc, List, [], ◌∷◌, ◌++◌, Option, Some, None, Bool, true, false}
use Rattle.std.proofs.Common.{refl, sym, ap, subst, ◌∙◌, append_assoc}
use Rattle.std.proofs.lemmas.List.{append-nil}
use Rattle.std.specs.declared.time.Duration.{Duration}
use Rattle.archive_server.specs.Calling.{Turn, Calls, Waits, Went, round, rounds, CallsAgain}

-- nothing was done
pub went_none : (a : Option (List Turn)) → Went a a []
went_none None = refl
went_none (Some turns) = ap (λ (t : List Turn). Some t) (sym (append-nil turns))

-- turns, and turns behind them
pub went_on : (a b c : Option (List Turn)) (xs ys : List Turn) → Went a b xs → Went b c ys → Went a c (xs ++ ys)
went_on None b c xs ys first behind = subst (λ (o : Option (List Turn)). Went o c ys) first behind
went_on (Some turns) b c xs ys first behind =
    subst (λ (o : Option (List Turn)). Went o c ys) first behind
    ∙ ap (λ (t : List Turn). Some t) (append_assoc turns xs ys)

-- so many calls, and another, with the wait behind it
went_round : (start a b c : Option (List Turn)) (every : Duration) (calls : ℕ) (served is : Bool)
    → Went start a (rounds every calls) → Went a b (Calls ∷ []) → Went b c (Waits every served ∷ []) → served ≡ is
    → Went start c (rounds every calls ++ round every is)
went_round start a b c every calls served is before call wait so =
    subst (λ (s : Bool). Went start c (rounds every calls ++ round every s)) so
    (went_on start a c (rounds every calls) (round every served) before
    (went_on a b c (Calls ∷ []) (Waits every served ∷ []) call wait))

-- one more call, behind which somebody serves
pub one_more : (start a b c : Option (List Turn)) (every : Duration) (calls : ℕ) (served : Bool)
    → Went start a (rounds every calls) → Went a b (Calls ∷ []) → Went b c (Waits every served ∷ [])
    → served ≡ true → Went start c (rounds every (suc calls))
one_more start a b c every calls served = went_round start a b c every calls served true

-- the last one, behind which nobody does
pub the_last : (start a b c : Option (List Turn)) (every : Duration) (calls : ℕ) (served : Bool)
    → Went start a (rounds every calls) → Went a b (Calls ∷ []) → Went b c (Waits every served ∷ [])
    → served ≡ false → CallsAgain every start c
the_last start a b c every calls served before call wait so =
    (calls, went_round start a b c every calls served false before call wait so)
