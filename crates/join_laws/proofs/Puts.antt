-- What the calls of std leave in a map is what `put_joined` says.
use Rattle.std.specs.Prelude.{◌≡◌, Bool, List, [], ◌∷◌, cond, None, Some}
use Rattle.std.proofs.Common.{refl, sym, ap, ◌∙◌}
use Rattle.std.specs.Cmp.{IsTotalOrder}
use Rattle.std.specs.List.Sorted.{IsStrictlySortedBy}
use Rattle.std.specs.Ordering.{is_eq, match_ordering}
use Rattle.std.specs.declared.cmp.Ordering.{Ordering}
use Rattle.std.specs.declared.cmp.Ordering.TheVariants.{Less, Equal, Greater}
use Rattle.std.specs.BTreeMap.{is_at, insert_entry}
use Rattle.std.specs.Map.{keys_of, lookup, set_value}
use Rattle.std.proofs.lemmas.Map.{lookup-none}
use Rattle.std.proofs.lemmas.Map.Keys.{sorted_tail}
use Rattle.std.proofs.lemmas.Map.Steps.{set_value_same}
use Rattle.std.proofs.lemmas.Map.Entries.{none_below_head}
use Rattle.std.proofs.lemmas.Option.{same_Some as some_same}
use Rattle.join_laws.specs.MapOf.{put_joined}
use Rattle.join_laws.specs.Proved.Maps.{none_is_not_some}

module _ {K J : Type 0} {R : K → K → Ordering} (o : IsTotalOrder R) (join : J → J → J) (k : K) (w : J) where
  -- an insertion where the key is absent
  pub put_absent : (es : List (K × J)) → lookup (is_at (R k)) es ≡ None → insert_entry R es k w ≡ put_joined R join es k
      w
  put_absent [] h = refl
  put_absent (e ∷ es) h = by (R k e.0) h (put_absent es)
    where
      by : (r : Ordering) → cond (is_eq r) (Some e.1) (lookup (is_at (R k)) es) ≡ None
          → (lookup (is_at (R k)) es ≡ None → insert_entry R es k w ≡ put_joined R join es k w)
          → match_ordering r ((k, w) ∷ e ∷ es) ((e.0, w) ∷ es) (e ∷ insert_entry R es k w) ≡ match_ordering
          r ((k, w) ∷ e ∷ es) ((e.0, join e.1 w) ∷ es) (e ∷ put_joined R join es k w)
      by Less h later = refl
      by Equal h later = absurd (none_is_not_some e.1 h)
      by Greater h later = ap (λ es. e ∷ es) (later h)

  -- a write where the key is there
  pub put_found : (es : List (K × J)) (v : J) → IsStrictlySortedBy R (keys_of es) → lookup (is_at (R k)) es ≡ Some v
      → set_value (is_at (R k)) es (join v w) ≡ put_joined R join es k w
  put_found [] v s h = absurd (none_is_not_some v (sym h))
  put_found (e ∷ es) v s h = by (R k e.0) refl h (put_found es v (sorted_tail R e.0 (keys_of es) s))
    where
      by : (r : Ordering) → R k e.0 ≡ r → cond (is_eq r) (Some e.1) (lookup (is_at (R k)) es) ≡ Some v
          → (lookup (is_at (R k)) es ≡ Some v → set_value (is_at (R k)) es (join v w) ≡ put_joined R join es k w)
          → cond (is_eq r) ((e.0, join v w) ∷ es) (e ∷ set_value (is_at (R k)) es (join v w)) ≡ match_ordering
          r ((k, w) ∷ e ∷ es) ((e.0, join e.1 w) ∷ es) (e ∷ put_joined R join es k w)
      by Less l f later = absurd (none_is_not_some v (sym h ∙ lookup-none (is_at (R k)) (e ∷ es)
          (none_below_head o k e es s l)))
      by Equal l f later = ap (λ x. (e.0, join x w) ∷ es) (some_same v e.1 (sym f))
      by Greater l f later = ap (λ es. e ∷ es) (later f)

  -- an insertion of a copy where the key is absent
  pub put_copy : (es new : List (K × J)) (k' : K) (w' : J) → new ≡ insert_entry R es k' w' → k' ≡ k → w' ≡ w
      → lookup (is_at (R k)) es ≡ None → new ≡ put_joined R join es k w
  put_copy es new k' w' put same_key same absent =
      put ∙ ap (λ q. insert_entry R es q w') same_key ∙ ap (insert_entry R es k) same ∙ put_absent es absent

  -- a value that is written where the key is there
  pub put_written : (es new : List (K × J)) (v u : J) → new ≡ set_value (is_at (R k)) es u → u ≡ join v w
      → IsStrictlySortedBy R (keys_of es) → lookup (is_at (R k)) es ≡ Some v → new ≡ put_joined R join es k w
  put_written es new v u written joined s found =
      written ∙ ap (set_value (is_at (R k)) es) joined ∙ put_found es v s found

-- a value that is written where it was there already
pub put_same : {K J : Type 0} (test : K → Bool) (es new : List (K × J)) (v u : J) → new ≡ set_value test es u → u ≡ v
    → lookup test es ≡ Some v → new ≡ es
put_same test es new v u written kept found = written ∙ ap (set_value test es) kept ∙ set_value_same test es v found

-- what is joined to nothing
pub one_value : {J : Type 0} (join : J → J → J) (nothing one first value : J) → value ≡ join first one
    → first ≡ nothing → join nothing one ≡ one → value ≡ one
one_value join nothing one first value joined empty neutral = joined ∙ ap (λ v. join v one) empty ∙ neutral
