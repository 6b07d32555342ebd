-- The operations of a site ascend by digest.
use Rattle.std.proofs.Common.{◌≡◌, ℕ, List, [], ◌∷◌, Some, refl, sym, ap, subst, ◌∙◌, map, inl, inr}
use Rattle.std.specs.Prelude.{IfSome, Option}
use Rattle.std.specs.FinMap.{entries, entries_sorted, get, empty, get-empty}
use Rattle.std.specs.List.Sorted.{IsStrictlySortedBy}
use Rattle.std.specs.Map.{keys_of, values_of}
use Rattle.operation.specs.declared.op.Op.{Op}
use Rattle.operation.specs.declared.op.Op.TheVariants.{Content as a_content}
use Rattle.operation.specs.Spelling.{digest_of}
use Rattle.archive_model.specs.Contents.{content_in}
use Rattle.archive_model.proofs.MemberLaws.{has_filter_map}
use Rattle.archive_model.proofs.ModelLaws.{pick_is_content, pick_is_least, content_has}
use Rattle.site_state.specs.Site.{digest_cmp, held_at, ops_of}
use Rattle.site_state.specs.Laws.{after_taking, TakenIsSite, OperationsAscend, PickHasLeastDigest}
use Rattle.site_state.proofs.Maps.{held}
use Rattle.site_state.proofs.Unions.{held_entries, first_held, rest_held}
use Rattle.site_state.proofs.Same.{Told, told}
use Rattle.site_state.proofs.Tops.{ascend}

-- What lies under a digest has it.
own : (r : Option Op) (d : List ℕ) (o : Op) → r ≡ Some o → IfSome r (λ x. d ≡ digest_of x) → d ≡ digest_of o
own r d o e has = subst (λ (s : Option Op). IfSome s (λ x. d ≡ digest_of x)) e has

-- Where each operation lies under its digest, the digests are those of the operations.
keys_are : (es : List (List ℕ × Op)) → IsStrictlySortedBy digest_cmp (keys_of es)
    → ((d : List ℕ) (o : Op) → held es d ≡ Some o → d ≡ digest_of o) → keys_of es ≡ map digest_of (values_of es)
unfolding IsStrictlySortedBy
keys_are [] sorted under = refl
keys_are (e ∷ es) sorted under =
    let first = under e.0 e.1 (first_held (e ∷ es) es e.0 e.1 refl) in
    let rest = keys_are es sorted.1 (λ d o there. under d o (rest_held (e ∷ es) es e.0 e.1 refl sorted d o there)) in
    ap (λ (d : List ℕ). d ∷ keys_of es) first ∙ ap (λ (ds : List (List ℕ)). digest_of e.1 ∷ ds) rest

pub operations_ascend : OperationsAscend
operations_ascend m site =
    let sorted = ascend (entries m) (entries_sorted m) in
    let under = λ (d : List ℕ) (o : Op) (there : held (entries m) d ≡ Some o). own (held_at m d) d
    o (sym (held_entries m d) ∙ there) (site d) in
    subst (IsStrictlySortedBy digest_cmp) (keys_are (entries m) sorted under) sorted

-- The pick stands first of the contents of its UID, and they ascend.
pub pick_has_least_digest : PickHasLeastDigest
pick_has_least_digest m uid c site is =
    let picked = pick_is_content uid (ops_of m) c is in
    record {
      held = content_has (ops_of m) c picked.0;
      of_uid = picked.1;
      least = λ d has of. pick_is_least uid (ops_of m) c d (operations_ascend m site)
          is (has_filter_map content_in (ops_of m) (a_content d) d has refl) of;
    }

under_own : (ops : List Op) (d : List ℕ) (r : Option Op) → Told empty ops d r → IfSome r (λ o. d ≡ digest_of o)
under_own ops d r (inl f) = subst (λ (s : Option Op). IfSome s (λ o. d ≡ digest_of o)) (sym f.3) (sym f.2)
under_own ops d r (inr n) = subst (λ (s : Option Op). IfSome s (λ o. d ≡ digest_of o))
    (sym (n.1 ∙ get-empty digest_cmp d)) tt

-- What lies under a digest was taken, and has it.
pub taken_is_site : TakenIsSite
taken_is_site ops d = under_own ops d (get (after_taking ops) d) (told empty ops d)
