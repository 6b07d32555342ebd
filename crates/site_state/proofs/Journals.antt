-- Operations that were put in are taken out again, the last one first.
use Rattle.std.proofs.Common.{◌≡◌, ℕ, List, [], ◌∷◌, ◌++◌, Bool, true, false, cond, Option, Some, None, refl, sym, ap}
use Rattle.std.proofs.Common.{◌∙◌, Bor}
use Rattle.std.specs.Prelude.{is_some}
use Rattle.std.proofs.lemmas.Bool.{false≢true}
use Rattle.std.specs.Cmp.{eq_by_cmp_equiv}
use Rattle.std.specs.Cmp.Lexicographic.{nat_list_cmp_total}
use Rattle.std.specs.BTreeMap.{is_at}
use Rattle.std.specs.FinMap.{remove, get-remove}
use Rattle.operation.specs.declared.op.Op.{Op}
use Rattle.site_state.specs.Site.{Map, digest_cmp, of_entries, held_at}
use Rattle.site_state.specs.Journal.{without}
use Rattle.site_state.proofs.Maps.{same_sites, held, get_held, tied}

pub without-push : (added : List (Bor (List ℕ))) (d : Bor (List ℕ)) (m : Map) → without (added ++ d ∷ []) m ≡ without
    added (remove m d.now)
without-push [] d m = refl
without-push (e ∷ added) d m = ap (λ (k : Map). remove k e.now) (without-push added d m)

out : (m : Map) (d q : List ℕ) → held_at (remove m d) q ≡ cond (is_at (digest_cmp d) q) None (held_at m q)
out m d q = get-remove nat_list_cmp_total m d q ∙ ap (λ b. cond b None (held_at m q))
    ((eq_by_cmp_equiv nat_list_cmp_total).symm q d)

not_there : (r : Option Op) → is_some r ≡ false → r ≡ None
not_there None e = refl
not_there (Some o) e = absurd (false≢true (sym e))

-- what a look-up that takes out says of the map
pub removed : (es fs : List (List ℕ × Op)) (d : List ℕ) → ((q : List ℕ) → held fs q ≡ cond (is_at (digest_cmp d) q)
    None (held es q)) → of_entries fs ≡ remove (of_entries es) d
removed es fs d gone = same_sites _ _ (λ q.
    get_held fs q ∙ gone q ∙ ap (cond (is_at (digest_cmp d) q) None) (sym (get_held es q))
    ∙ sym (out (of_entries es) d q))

absent : (es : List (List ℕ × Op)) (d q : List ℕ) → is_some (held es d) ≡ false → (b : Bool) → is_at (digest_cmp d)
    q ≡ b → cond b None (held es q) ≡ held es q
absent es d q none true tie = sym (ap (held es) (sym (tied d q tie)) ∙ not_there (held es d) none)
absent es d q none false tie = refl

-- an operation that was put in is out again
pub out_again : (es fs : List (List ℕ × Op)) (d : List ℕ) (o : Op) → is_some (held es d) ≡ false
    → ((q : List ℕ) → held fs q ≡ cond (is_at (digest_cmp d) q) (Some o) (held es q)) → remove (of_entries fs)
    d ≡ of_entries es
out_again es fs d o none put = same_sites _ _ (λ q.
    out (of_entries fs) d q ∙ ap (cond (is_at (digest_cmp d) q) None) (get_held fs q ∙ put q)
    ∙ twice q (is_at (digest_cmp d) q) ∙ absent es d q none (is_at (digest_cmp d) q) refl ∙ sym (get_held es q))
  where
    twice : (q : List ℕ) (b : Bool) → cond b None (cond b (Some o) (held es q)) ≡ cond b None (held es q)
    twice q true = refl
    twice q false = refl

-- one that was not put in is out
pub still_out : (es fs : List (List ℕ × Op)) (d : List ℕ) → is_some (held es d) ≡ false → fs ≡ es
    → remove (of_entries fs) d ≡ of_entries es
still_out es fs d none same = ap (λ xs. remove (of_entries xs) d) same ∙ same_sites _ _ (λ q.
    out (of_entries es) d q ∙ ap (cond (is_at (digest_cmp d) q) None) (get_held es q)
    ∙ absent es d q none (is_at (digest_cmp d) q) refl ∙ sym (get_held es q))

-- a note more leads back one step more
pub noted : (added more : List (Bor (List ℕ))) (d : Bor (List ℕ)) (m n : Map) → more ≡ added ++ d ∷ []
    → remove n d.now ≡ m → without more n ≡ without added m
noted added more d m n longer back = ap (λ xs. without xs n) longer ∙ without-push added d n ∙ ap (without added) back
