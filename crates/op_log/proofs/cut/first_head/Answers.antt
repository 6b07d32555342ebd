use Rattle.std.proofs.Common.{rules, ◌≡◌, ◌++◌, List, ℕ, None, length, sym, ap, ◌∙◌, arith}
use Rattle.std.proofs.lemmas.List.{length-append}
use Rattle.op_log.specs.Heads.{number_text}
use Rattle.op_log.proofs.Cutting.{after_long, eight, in_parts, one_number, sizes}
use Rattle.op_log.proofs.cut.first_head.Goals as goal

-- A head begins with three numbers of eight bytes, and a digest and its front stand behind them.
pub returns-in_err-long-clause-none : goal.returns-in_err-long-clause-none
returns-in_err-long-clause-none c told h rest it is =
    let none : c.number_of.result ≡ None = search rules in
    let whole = ap length (is ∙ in_parts h rest) in
    let parts = length-append (number_text (length h.front)) (after_long h rest) in
    omega (arith, c.number_of.ensures.short none, whole, parts, eight (length h.front))

-- Behind the first number is the second.
pub returns-in_err-at-clause-none : goal.returns-in_err-at-clause-none
returns-in_err-at-clause-none c told h rest it is =
    let none : c.number_of-2.result ≡ None = search rules in
    let long = one_number c.in_ok-long.long (length h.front) _ _ c.in_ok-long.ensures.fits it.front (sym c.in_ok-long.ensures.spelled ∙ is ∙ in_parts h rest) in
    let short = c.number_of-2.ensures.short none in
    let whole = ap length long.1 in
    omega (arith, short, whole, (sizes h rest it).2)

-- Behind both is the third.
pub returns-in_err-size-clause-none : goal.returns-in_err-size-clause-none
returns-in_err-size-clause-none c told h rest it is =
    let none : c.number_of-3.result ≡ None = search rules in
    let long = one_number c.in_ok-long.long (length h.front) _ _ c.in_ok-long.ensures.fits it.front (sym c.in_ok-long.ensures.spelled ∙ is ∙ in_parts h rest) in
    let at = one_number c.in_ok-at.at h.at _ _ c.in_ok-at.ensures.fits it.at (sym c.in_ok-at.ensures.spelled ∙ long.1) in
    let short = c.number_of-3.ensures.short none in
    let whole = ap length at.1 in
    omega (arith, short, whole, (sizes h rest it).1)

-- Behind all three are the digest and the front.
pub returns-in_err-digest-clause-none : goal.returns-in_err-digest-clause-none
returns-in_err-digest-clause-none c told h rest it is =
    let none : c.behind.result ≡ None = search rules in
    let long = one_number c.in_ok-long.long (length h.front) _ _ c.in_ok-long.ensures.fits it.front (sym c.in_ok-long.ensures.spelled ∙ is ∙ in_parts h rest) in
    let at = one_number c.in_ok-at.at h.at _ _ c.in_ok-at.ensures.fits it.at (sym c.in_ok-at.ensures.spelled ∙ long.1) in
    let size = one_number c.in_ok-size.size h.size _ _ c.in_ok-size.ensures.fits it.size (sym c.in_ok-size.ensures.spelled ∙ at.1) in
    let short = c.behind.ensures.short none in
    let whole = ap length size.1 in
    omega (arith, short, whole, long.0, (sizes h rest it).0)

-- The parts that were read are those of the head.
pub returns-clause-spelled : goal.returns-clause-spelled
returns-clause-spelled c =
    let h = c.in_ok-digest in
    c.in_ok-long.ensures.spelled ∙ ap (λ (text : List ℕ). number_text c.in_ok-long.long ++ text)
    (c.in_ok-at.ensures.spelled ∙ ap (λ (text : List ℕ). number_text c.in_ok-at.at ++ text)
    (c.in_ok-size.ensures.spelled ∙ ap (λ (text : List ℕ). number_text c.in_ok-size.size ++ text) h.ensures.spelled))
    ∙ ap (λ (n : ℕ). number_text n ++ (number_text c.in_ok-at.at ++ (number_text c.in_ok-size.size ++ (h.digest.now ++ (h.front.now ++ h.rest.now))))) (sym h.ensures.long)
    ∙ ap (λ (d : List ℕ). number_text (length h.front.now) ++ (number_text c.in_ok-at.at ++ (number_text c.in_ok-size.size ++ (d ++ (h.front.now ++ h.rest.now))))) (sym c.of.ensures)
    ∙ sym (in_parts (record { digest = c.of.result; front = h.front.now; at = c.in_ok-at.at; size = c.in_ok-size.size }) h.rest.now)
