-- Writes that are taken back, the last one first.
use Rattle.std.specs.Prelude.{◌≡◌, Bool, true, false, cond, ◌||◌, List, [], ◌∷◌, ◌++◌, Option, None, Some}
use Rattle.std.proofs.Common.{refl, ap, ◌∙◌}
use Rattle.std.proofs.lemmas.Map.Steps.{set_value_same}
use Rattle.std.specs.Map.{lookup, set_value, remove_entry}
use Rattle.std.specs.declared.cmp.Ordering.{Ordering}
use denote.Ref.{Bor}
use mathlib.Core.Bool.{true≢false}
use Rattle.std.specs.List.{list_any}
use Rattle.std.specs.Set.{remove_key}
use Rattle.std.specs.BTreeMap.{is_at}
use Rattle.join_laws.specs.Journal.{undone, undone_at, taken_out}
use Rattle.join_laws.specs.Proved.Maps.{none_is_not_some}

module _ {K J : Type 0} (test : K → Bool) where
  pub set_value_absent : (v : J) (es : List (K × J)) → lookup test es ≡ None → set_value test es v ≡ es
  set_value_absent v [] h = refl
  set_value_absent v (e ∷ es) h = by (test e.0) h (set_value_absent v es)
    where
      by : (b : Bool) → cond b (Some e.1) (lookup test es) ≡ None → (lookup test es ≡ None → set_value test es v ≡ es)
          → cond b ((e.0, v) ∷ es) (e ∷ set_value test es v) ≡ e ∷ es
      by true absent later = absurd (none_is_not_some e.1 absent)
      by false absent later = ap (λ es. e ∷ es) (later absent)

  pub remove_absent : (es : List (K × J)) → lookup test es ≡ None → remove_entry test es ≡ es
  remove_absent [] h = refl
  remove_absent (e ∷ es) h = by (test e.0) h (remove_absent es)
    where
      by : (b : Bool) → cond b (Some e.1) (lookup test es) ≡ None → (lookup test es ≡ None → remove_entry test es ≡ es)
          → cond b es (e ∷ remove_entry test es) ≡ e ∷ es
      by true absent later = absurd (none_is_not_some e.1 absent)
      by false absent later = ap (λ es. e ∷ es) (later absent)

  -- of two writes the second counts
  pub set_value-set_value : (v w : J) (es : List (K × J)) → set_value test (set_value test es w) v ≡ set_value test es v
  set_value-set_value v w [] = refl
  set_value-set_value v w (e ∷ es) = by (test e.0) refl (set_value-set_value v w es)
    where
      by : (b : Bool) → test e.0 ≡ b → set_value test (set_value test es w) v ≡ set_value test es v
          → set_value test (cond b ((e.0, w) ∷ es) (e ∷ set_value test es w)) v ≡ cond b ((e.0, v) ∷ es)
          (e ∷ set_value test es v)
      by true h later = ap (λ b. cond b ((e.0, v) ∷ es) ((e.0, w) ∷ set_value test es v)) h
      by false h later = ap (λ b. cond b ((e.0, v) ∷ set_value test es w) (e ∷ set_value test (set_value test es w) v))
          h ∙ ap (λ es. e ∷ es) later

  -- what was there, written over another write
  pub written_back : (es new : List (K × J)) (there copy w : J) → lookup test es ≡ Some there → copy ≡ there
      → new ≡ set_value test es w → set_value test new copy ≡ es
  written_back es new there copy w found copied written =
      ap (λ ns. set_value test ns copy) written
      ∙ set_value-set_value copy w es
      ∙ ap (set_value test es) copied
      ∙ set_value_same test es there found

module _ {K J : Type 0} (R : K → K → Ordering) where
  pub undone-push : (notes : List (Bor K × Option J)) (note : Bor K × Option J) (es : List (K × J))
      → undone R (notes ++ note ∷ []) es ≡ undone R notes (undone_at R note.0.now note.1 es)
  undone-push [] note es = refl
  undone-push (n ∷ notes) note es = ap (undone_at R n.0.now n.1) (undone-push notes note es)

  -- a write that was noted leads back
  pub undone-noted : (notes more : List (Bor K × Option J)) (note : Bor K × Option J) (es new : List (K × J))
      → more ≡ notes ++ note ∷ [] → undone_at R note.0.now note.1 new ≡ es → undone R more new ≡ undone R notes es
  undone-noted notes more note es new longer back = ap (λ ns. undone R ns new) longer ∙ undone-push notes note new
      ∙ ap (undone R notes) back

  -- A value that was noted and then written over leads back.
  pub undone-written : (notes more : List (Bor K × Option J)) (key : Bor K) (es : List (K × J)) (there copy w : J)
      → lookup (is_at (R key.now)) es ≡ Some there → copy ≡ there → more ≡ notes ++ (key, Some copy) ∷ []
      → undone R more (set_value (is_at (R key.now)) es w) ≡ undone R notes es
  undone-written notes more key es there copy w found copied longer =
      undone-noted notes more (key, Some copy) es (set_value (is_at (R key.now)) es w) longer
      (written_back (is_at (R key.now)) es (set_value (is_at (R key.now)) es w) there copy w found copied refl)

  -- An entry that was noted as absent leads back.
  pub undone-first : (notes more : List (Bor K × Option J)) (key : Bor K) (es new : List (K × J))
      → remove_entry (is_at (R key.now)) new ≡ es → more ≡ notes ++ (key, None) ∷ []
      → undone R more new ≡ undone R notes es
  undone-first notes more key es new out longer = undone-noted notes more (key, None) es new longer out

-- ---- sets
pub remove_key_absent : {K : Type 0} (test : K → Bool) (ks : List K) → list_any test ks ≡ false
    → remove_key test ks ≡ ks
remove_key_absent test [] h = refl
remove_key_absent test (x ∷ xs) h = by (test x) h (remove_key_absent test xs)
  where
    by : (b : Bool) → (b || list_any test xs) ≡ false → (list_any test xs ≡ false → remove_key test xs ≡ xs)
        → cond b xs (x ∷ remove_key test xs) ≡ x ∷ xs
    by true absent later = absurd (true≢false absent)
    by false absent later = ap (λ ks. x ∷ ks) (later absent)

module _ {K : Type 0} (R : K → K → Ordering) where
  pub taken_out-push : (added : List (Bor K)) (key : Bor K) (ks : List K) → taken_out R (added ++ key ∷ [])
      ks ≡ taken_out R added (remove_key (is_at (R key.now)) ks)
  taken_out-push [] key ks = refl
  taken_out-push (k ∷ added) key ks = ap (remove_key (is_at (R k.now))) (taken_out-push added key ks)

  -- a key that was noted is taken out again
  pub taken_out-noted : (added more : List (Bor K)) (key : Bor K) (ks new : List K) → more ≡ added ++ key ∷ []
      → remove_key (is_at (R key.now)) new ≡ ks → taken_out R more new ≡ taken_out R added ks
  taken_out-noted added more key ks new longer back = ap (λ ns. taken_out R ns new) longer ∙ taken_out-push added key
      new ∙ ap (taken_out R added) back
