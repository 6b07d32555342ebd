-- Heads that can be taken, and the one way to cut them off a text.
use Rattle.std.proofs.Common.{◌≡◌, ◌+◌, ◌<◌, ◌≤◌, ℕ, List, [], ◌∷◌, ◌++◌, length, All, refl, sym, ◌∙◌, ap, subst, arith}
use Rattle.std.proofs.lemmas.List.{append_assoc, append-nil, length-append, get_or_append_left, get_or-append-add}
use Rattle.std.proofs.lemmas.List.Elements.{All-nil, All-cons, All-head, All-tail}
use Rattle.op_log.specs.Filling.{AreFit, AreTaken, IsFit, IsTaken}
use Rattle.op_log.specs.Heads.{Head, IsSpelled, group_text, head_text, number_text}
use Rattle.op_log.specs.Kept.{with_head, with_heads}
use Rattle.op_log.proofs.Settling.{with_joined}
use Rattle.op_log.proofs.Cutting.{one_head, eight, in_parts, after_long}

-- heads one behind the other
pub groups_joined : (a b : List Head) → group_text (a ++ b) ≡ group_text a ++ group_text b
groups_joined [] b = refl
groups_joined (h ∷ a) b = ap (λ (text : List ℕ). head_text h ++ text) (groups_joined a b) ∙ sym (append_assoc (head_text h) (group_text a) (group_text b))

-- what holds of all holds of the first, and of the others
pub all_front : {X : Type 0} (P : X → Type 0) (xs ys : List X) → All P (xs ++ ys) → All P xs
all_front P xs ys all k d low =
    subst P (get_or_append_left xs ys d k low) (all k d (omega (arith, low, length-append xs ys)))

pub all_behind : {X : Type 0} (P : X → Type 0) (xs ys : List X) → All P (xs ++ ys) → All P ys
all_behind P xs ys all k d low =
    subst P (get_or-append-add xs ys k d) (all (length xs + k) d (omega (arith, low, length-append xs ys)))

-- a head has some bytes
pub some_head : (h : Head) (rest : List ℕ) → 8 ≤ length (head_text h ++ rest)
some_head h rest =
    let whole = ap length (in_parts h rest) in
    let parts = length-append (number_text (length h.front)) (after_long h rest) in
    omega (arith, whole, parts, eight (length h.front))

-- heads that fit, and more that fit behind them
pub fit_joined : (end : ℕ) (old xs ys : List Head) → AreFit end old xs → AreFit end (with_heads old xs) ys → AreFit end old (xs ++ ys)
fit_joined end old [] ys fit more = more
fit_joined end old (x ∷ xs) ys (first, rest) more = (first, fit_joined end (with_head old x) xs ys rest more)

pub fit_front : (end : ℕ) (old xs ys : List Head) → AreFit end old (xs ++ ys) → AreFit end old xs
fit_front end old [] ys fit = tt
fit_front end old (x ∷ xs) ys (first, rest) = (first, fit_front end (with_head old x) xs ys rest)

pub fit_behind : (end : ℕ) (old xs ys : List Head) → AreFit end old (xs ++ ys) → AreFit end (with_heads old xs) ys
fit_behind end old [] ys fit = fit
fit_behind end old (x ∷ xs) ys (first, rest) = fit_behind end (with_head old x) xs ys rest

-- they are spelled, and lie below the offset
pub fit_all : (P : Head → Type 0) (end : ℕ) (old xs : List Head) → ((h : Head) (heads : List Head) → IsFit end heads h → P h)
    → AreFit end old xs → All P xs
fit_all P end old [] each fit = All-nil P
fit_all P end old (x ∷ xs) each (first, rest) = All-cons P x xs (each x old first) (fit_all P end (with_head old x) xs each rest)

-- Heads that were cut off a text are the first of all that it has.
pub record Goes (end : ℕ) (old heads others : List Head) (rest : List ℕ) : Type 0 where
  pub more : List Head
  pub are : others ≡ heads ++ more
  pub rest_is : rest ≡ group_text more
  pub fit : AreFit end (with_heads old heads) more

pub goes : (end : ℕ) (old heads others : List Head) (rest : List ℕ) → AreFit end old heads → AreFit end old others
    → group_text heads ++ rest ≡ group_text others → Goes end old heads others rest
goes end old [] others rest fit fit' is =
    record { more = others; are = refl; rest_is = is; fit = fit' }
goes end old (h ∷ heads) [] rest (first, more) fit' is =
    let some = some_head h (group_text heads ++ rest) in
    let whole : head_text h ++ (group_text heads ++ rest) ≡ [] = sym (append_assoc (head_text h) (group_text heads) rest) ∙ is in
    let none = ap length whole in
    absurd (omega (arith, some, none))
goes end old (h ∷ heads) (k ∷ others) rest (first, more) (first', more') is =
    let whole = sym (append_assoc (head_text h) (group_text heads) rest) ∙ is in
    let one = one_head h k (group_text heads ++ rest) (group_text others) first.spelled first'.spelled whole in
    let same = subst (λ (x : Head). AreFit end (with_head old x) others) (sym one.0) more' in
    let it = goes end (with_head old h) heads others rest more same one.1 in
    record {
      more = it.more;
      are = ap (λ (x : Head). x ∷ others) (sym one.0) ∙ ap (λ (hs : List Head). h ∷ hs) it.are;
      rest_is = it.rest_is;
      fit = it.fit;
    }

-- spelled heads of one text are the same
pub one_group : (xs ys : List Head) → All IsSpelled xs → All IsSpelled ys → group_text xs ≡ group_text ys → xs ≡ ys
one_group [] [] all all' is = refl
one_group [] (y ∷ ys) all all' is =
    let some = some_head y (group_text ys) in
    let none = ap length is in
    absurd (omega (arith, some, none))
one_group (x ∷ xs) [] all all' is =
    let some = some_head x (group_text xs) in
    let none = ap length is in
    absurd (omega (arith, some, none))
one_group (x ∷ xs) (y ∷ ys) all all' is =
    let one = one_head x y (group_text xs) (group_text ys) (All-head IsSpelled x xs all) (All-head IsSpelled y ys all') is in
    ap (λ (h : Head). h ∷ xs) one.0 ∙ ap (λ (hs : List Head). y ∷ hs) (one_group xs ys (All-tail IsSpelled x xs all) (All-tail IsSpelled y ys all') one.1)

-- one head more
pub one_more : (end : ℕ) (old mid new : List Head) (text between rest : List ℕ) → AreTaken end old mid text between
    → IsTaken end mid new between rest → AreTaken end old new text rest
one_more end old mid new text between rest done it =
    record {
      heads = done.heads ++ it.head ∷ [];
      text_is = done.text_is ∙ ap (λ (t : List ℕ). group_text done.heads ++ t) it.text_is
          ∙ sym (append_assoc (group_text done.heads) (head_text it.head) rest)
          ∙ ap (λ (t : List ℕ). (group_text done.heads ++ t) ++ rest) (sym (append-nil (head_text it.head)))
          ∙ ap (λ (t : List ℕ). t ++ rest) (sym (groups_joined done.heads (it.head ∷ [])));
      new_is = it.new_is ∙ ap (λ (hs : List Head). with_head hs it.head) done.new_is ∙ sym (with_joined old done.heads (it.head ∷ []));
      fit = fit_joined end old done.heads (it.head ∷ []) done.fit (subst (λ (hs : List Head). IsFit end hs it.head) done.new_is it.fit, tt);
    }

-- no text of heads that fit stops where no head stands that does
pub no_text : (end : ℕ) (old mid : List Head) (text rest : List ℕ) → AreTaken end old mid text rest → 0 < length rest
    → ((h : Head) (behind : List ℕ) → IsFit end mid h → rest ≡ head_text h ++ behind → ⊥)
    → (others : List Head) → AreFit end old others → text ≡ group_text others → ⊥
no_text end old mid text rest done some none others fit is =
    let it = goes end old done.heads others rest done.fit fit (sym done.text_is ∙ is) in
    by it.more it.rest_is (subst (λ (hs : List Head). AreFit end hs it.more) (sym done.new_is) it.fit)
  where
    by : (more : List Head) → rest ≡ group_text more → AreFit end mid more → ⊥
    by [] is fit = let long = ap length is in absurd (omega (arith, long, some))
    by (h ∷ more) is fit = none h (group_text more) fit.0 is

-- less stands behind a head
pub shorter : (h : Head) (text rest : List ℕ) → text ≡ head_text h ++ rest → length rest < length text
shorter h text rest is =
    let whole = ap length is in
    let parts = length-append (head_text h) rest in
    let some = some_head h [] in
    let nil = length-append (head_text h) [] in
    omega (arith, whole, parts, some, nil)
