use Rattle.std.proofs.Common.{ℕ, ◌==◌, length, take, sym, ap, arith, rules, take_all, ◌∙◌}
use Rattle.std.proofs.lemmas.List.Sums.{position_or_len_is}
use Rattle.site_desk.proofs.asking.front.Goals as goal

-- The first semicolon ends it,
pub returns-in-Some : goal.returns-in-Some
returns-in-Some c =
    let media = c.args.media.now in
    ap (λ n. take n media) (sym (position_or_len_is (λ (b : ℕ). b == 59) media c.in-Some.end 0 (search rules) (search rules)
    (search rules)))

-- and without one it is the whole.
pub returns-in-None : goal.returns-in-None
returns-in-None c =
    let media = c.args.media.now in
    sym (ap (λ n. take n media) (position_or_len_is (λ (b : ℕ). b == 59) media (length media) 0 (omega arith) (search rules)
    (search rules)) ∙ take_all (length media) media (omega arith))
