-- Each operation of a site keeps true what every operation does.
use Rattle.std.proofs.Common.{◌≡◌, ℕ, List, [], Bool, true, false, cond, Option, Some, None, sym, ap, subst, ◌∙◌}
use Rattle.std.specs.Prelude.{IfSome}
use Rattle.std.specs.BTreeMap.{is_at}
use Rattle.operation.specs.declared.op.Op.{Op}
use Rattle.study_index.specs.Definition.{IsLawful, AreLawful}
use Rattle.site_state.specs.Site.{Map, digest_cmp, HasLawful, held_at, ops_of, of_entries}
use Rattle.site_state.specs.Union.{union, either}
use Rattle.site_state.proofs.Maps.{held, get_held}
use Rattle.site_state.proofs.Unions.{held_in_union}
use Rattle.site_state.proofs.Indexed.{ops_held}

pub none_lawful : (es : List (List ℕ × Op)) → es ≡ [] → HasLawful (of_entries es)
none_lawful es e d = subst (λ (r : Option Op). IfSome r IsLawful)
    (sym (get_held es d ∙ ap (λ (xs : List (List ℕ × Op)). held xs d) e)) tt

with_one : (b : Bool) (o : Op) (r : Option Op) → IsLawful o → IfSome r IsLawful → IfSome (cond b (Some o) r) IsLawful
with_one true o r own was = own
with_one false o r own was = was

-- one operation more
pub one_more_lawful : (es fs : List (List ℕ × Op)) (d : List ℕ) (o : Op)
    → ((q : List ℕ) → held fs q ≡ cond (is_at (digest_cmp d) q) (Some o) (held es q)) → IsLawful o
    → HasLawful (of_entries es) → HasLawful (of_entries fs)
one_more_lawful es fs d o h own was q =
    subst (λ (r : Option Op). IfSome r IsLawful) (sym (get_held fs q ∙ h q))
    (with_one (is_at (digest_cmp d) q) o (held es q) own (subst (λ (r : Option Op). IfSome r IsLawful) (get_held es q)
    (was q)))

of_either : (r s : Option Op) → IfSome r IsLawful → IfSome s IsLawful → IfSome (either r s) IsLawful
of_either None s p q = q
of_either (Some o) s p q = p

-- what two sites hold together
pub union_lawful : (m n : Map) → HasLawful m → HasLawful n → HasLawful (union m n)
union_lawful m n p q d = subst (λ (r : Option Op). IfSome r IsLawful) (sym (held_in_union m n d))
    (of_either (held_at m d) (held_at n d) (p d) (q d))

-- as a list
pub ops_lawful : (m : Map) → HasLawful m → AreLawful (ops_of m)
ops_lawful m all o h =
    let there = ops_held m o h in
    subst (λ (r : Option Op). IfSome r IsLawful) there.1 (all there.0)
