-- Entries that were tested, and the order of those that are told.
use Rattle.std.proofs.Common.{◌++◌, ◌∷◌, ◌∙◌, [], List, Bool, inl, inr, refl, ap, is_lt}
use Rattle.std.proofs.lemmas.Cmp.{nat_list_cmp_total}
use Rattle.std.proofs.lemmas.List.MinMax.{ranks_by}
use Rattle.std.specs.Cmp.{IsStrictWeakOrder}
use Rattle.sqlite.specs.Order.{Row}
use Rattle.op_shelf.specs.declared.damaged.Damaged.{Damaged}
use Rattle.op_shelf.specs.Damage.{AreTested, IsTested, damage_of, damaged_cmp}

-- one entry more was tested
pub tested_more : (given : List Row) (entry : Row) (told new : List Damaged) → AreTested given told → IsTested entry told new
    → AreTested (given ++ entry ∷ []) new
tested_more [] entry told new none (inl (is, same)) = inl (is, same ∙ none)
tested_more [] entry told new none (inr (not_one, added)) = inr (record {
  none = not_one;
  more = [];
  is = added ∙ ap (λ ds. ds ++ damage_of entry ∷ []) none;
  behind = refl;
})
tested_more (x ∷ given) entry told new (inl (is, rest)) one = inl (is, tested_more given entry told new rest one)
tested_more (x ∷ given) entry told new (inr first) (inl (is, same)) = inr (record {
  none = first.none;
  more = first.more;
  is = same ∙ first.is;
  behind = tested_more given entry first.more first.more first.behind (inl (is, refl));
})
tested_more (x ∷ given) entry told new (inr first) (inr (not_one, added)) = inr (record {
  none = first.none;
  more = first.more ++ damage_of entry ∷ [];
  is = added ∙ ap (λ ds. ds ++ damage_of entry ∷ []) first.is;
  behind = tested_more given entry first.more (first.more ++ damage_of entry ∷ []) first.behind (inr (not_one, refl));
})

-- whether one comes before another
abbrev pub is_before : Damaged → Damaged → Bool
is_before a b = is_lt (damaged_cmp a b)

pub before_order : IsStrictWeakOrder is_before
before_order = ranks_by nat_list_cmp_total (λ d. d.digest)
