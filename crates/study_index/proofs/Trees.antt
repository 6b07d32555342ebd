-- What stands in the list of places, and what a change of the picks makes of it.
use Rattle.std.specs.Prelude.{◌≡◌, Bool, true, false, cond, not, ◌&&◌, ◌||◌, List, [], ◌∷◌, ◌++◌, fold, Option, None}
use Rattle.std.specs.Prelude.{Some}
use Rattle.std.proofs.Common.{refl, sym, ap, ◌∙◌}
use mathlib.Core.Bool.{true≢false, and-false as and_none, or-false as or_none, or_assoc}
use Rattle.std.specs.List.Sorted.{IsStrictlySortedBy}
use Rattle.std.specs.Map.{keys_of, lookup}
use Rattle.std.specs.Cmp.Lexicographic.{nat_list_cmp_total}
use Rattle.std.specs.Ordering.{is_eq}
use Rattle.std.specs.BTreeMap.{is_at}
use Rattle.std.proofs.lemmas.Cmp.{tied_itself, eq_by_cmp_equiv}
use Rattle.std.proofs.lemmas.Map.{lookup-none}
use Rattle.std.proofs.lemmas.Map.Keys.{IsDistinct-from_sorted, sorted_tail}
use Rattle.std.proofs.lemmas.Map.Entries.{none_past_head}
use Rattle.octets.specs.Texts.{same, text_cmp}
use Rattle.archive_model.proofs.ModelLaws.{same_is, same_itself}
use Rattle.join_laws.specs.Laws.{joined_options}
use Rattle.join_laws.specs.Least.{least_of}
use Rattle.join_laws.specs.Proved.Sets.{sorted-union, has-union, same_keys}
use Rattle.join_laws.specs.Proved.Maps.{lookup-map_joined, equal_from_is_eq}
use Rattle.study_index.specs.Keys.{has, AreApart}
use Rattle.study_index.specs.Live.{Text, Pick, Place, a_place, pick_cmp, place_cmp, instance_of, flat, pick_at}
use Rattle.study_index.specs.Live.{picks_joined}
use Rattle.study_index.specs.Live.{place_of, place_at, tree_of, is_moved, gained, lost, gains, losses}
use Rattle.study_index.specs.Proved.Picks.{text_exact, place_exact, place_total}
use Rattle.study_index.proofs.KeyLaws.{has-append, same_key}

pub same_places : (xs ys : List Place) → IsStrictlySortedBy place_cmp xs → IsStrictlySortedBy place_cmp ys
    → ((q : Place) → has place_cmp xs q ≡ has place_cmp ys q) → xs ≡ ys
same_places xs ys s t h = same_keys place_total place_exact xs ys s t h

-- ---- the places of picks
abbrev pub stands : Place → Option Pick → Bool
stands q pick = has place_cmp (place_at (instance_of q) pick) q

none_elsewhere : (q : Place) (u : Text) (pick : Option Pick) → is_at (text_cmp (instance_of q)) u ≡ false
    → has place_cmp (place_at u pick) q ≡ false
none_elsewhere q u None h = refl
none_elsewhere q u (Some p) h = by (is_at (place_cmp q) (place_of u p)) refl
  where
    by : (b : Bool) → is_at (place_cmp q) (place_of u p) ≡ b → (b || false) ≡ false
    by false l = refl
    by true l =
        let equal : q ≡ place_of u p = same_key place_exact q (place_of u p) l in
        let key : is_at (text_cmp (instance_of q)) u ≡ true = ap (λ (x : Place). is_at (text_cmp (instance_of q))
        (instance_of x)) (sym equal) ∙ ap is_eq (tied_itself nat_list_cmp_total (instance_of q)) in
        absurd (true≢false (sym key ∙ h))

key_equal : (k u : Text) → is_at (text_cmp k) u ≡ true → k ≡ u
key_equal k u h = text_exact k u (equal_from_is_eq (text_cmp k u) h)

none_past : (k : Text) (e : Text × Option Pick) (es : List (Text × Option Pick)) → IsStrictlySortedBy text_cmp
    (keys_of (e ∷ es)) → is_at (text_cmp k) e.0 ≡ true → lookup (is_at (text_cmp k)) es ≡ None
none_past k e es s h = lookup-none (is_at (text_cmp k)) es (none_past_head (eq_by_cmp_equiv nat_list_cmp_total) k e
    es (IsDistinct-from_sorted text_cmp (keys_of (e ∷ es)) s) h)

pub has-tree_of : (es : List (Text × Option Pick)) → IsStrictlySortedBy text_cmp (keys_of es) → (q : Place)
    → has place_cmp (tree_of es) q ≡ stands q (pick_at (instance_of q) es)
has-tree_of [] s q = refl
has-tree_of (e ∷ es) s q =
    has-union place_total place_exact q (place_at e.0 e.1) (tree_of es)
    ∙ ap (λ b. b || has place_cmp (place_at e.0 e.1) q) (has-tree_of es (sorted_tail text_cmp e.0 (keys_of es) s) q)
    ∙ by (is_at (text_cmp (instance_of q)) e.0) refl
  where
    by : (b : Bool) → is_at (text_cmp (instance_of q)) e.0 ≡ b
        → (stands q (pick_at (instance_of q) es) || has place_cmp (place_at e.0 e.1) q) ≡ stands
        q (flat (cond b (Some e.1) (lookup (is_at (text_cmp (instance_of q))) es)))
    by true h =
        ap (λ o. stands q (flat o) || has place_cmp (place_at e.0 e.1) q) (none_past (instance_of q) e es s h)
        ∙ ap (λ u. has place_cmp (place_at u e.1) q) (sym (key_equal (instance_of q) e.0 h))
    by false h = ap (λ b. stands q (pick_at (instance_of q) es) || b) (none_elsewhere q e.0 e.1 h)
        ∙ or_none (stands q (pick_at (instance_of q) es))

pub sorted-tree_of : (es : List (Text × Option Pick)) → IsStrictlySortedBy place_cmp (tree_of es)
unfolding IsStrictlySortedBy
sorted-tree_of [] = tt
sorted-tree_of (e ∷ es) = sorted-union place_total (place_at e.0 e.1) (tree_of es) (sorted-tree_of es)

-- ---- what is collected from entries, each of which brings places of its own instance
abbrev found : (Text → Option Pick → List Place) → Place → Option (Option Pick) → Bool
found f q None = false
found f q (Some b) = has place_cmp (f (instance_of q) b) q

has-collected : (f : Text → Option Pick → List Place) → ((q : Place) (u : Text) (b : Option Pick)
    → is_at (text_cmp (instance_of q)) u ≡ false → has place_cmp (f u b) q ≡ false)
    → (q : Place) (es : List (Text × Option Pick)) (ps : List Place) → IsStrictlySortedBy text_cmp (keys_of es)
    → has place_cmp (fold (λ ps e. ps ++ f e.0 e.1) ps es)
    q ≡ (has place_cmp ps q || found f q (lookup (is_at (text_cmp (instance_of q))) es))
has-collected f away q [] ps s = sym (or_none (has place_cmp ps q))
has-collected f away q (e ∷ es) ps s =
    has-collected f away q es (ps ++ f e.0 e.1) (sorted_tail text_cmp e.0 (keys_of es) s)
    ∙ ap (λ b. b || found f q (lookup (is_at (text_cmp (instance_of q))) es)) (has-append place_cmp ps (f e.0 e.1) q)
    ∙ or_assoc (has place_cmp ps q) (has place_cmp (f e.0 e.1) q)
    (found f q (lookup (is_at (text_cmp (instance_of q))) es))
    ∙ ap (λ b. has place_cmp ps q || b) (by (is_at (text_cmp (instance_of q)) e.0) refl)
  where
    by : (b : Bool) → is_at (text_cmp (instance_of q)) e.0 ≡ b
        → (has place_cmp (f e.0 e.1) q || found f q (lookup (is_at (text_cmp (instance_of q))) es)) ≡ found f
        q (cond b (Some e.1) (lookup (is_at (text_cmp (instance_of q))) es))
    by true h =
        ap (λ o. has place_cmp (f e.0 e.1) q || found f q o) (none_past (instance_of q) e es s h)
        ∙ or_none (has place_cmp (f e.0 e.1) q)
        ∙ ap (λ u. has place_cmp (f u e.1) q) (sym (key_equal (instance_of q) e.0 h))
    by false h = ap (λ b. b || found f q (lookup (is_at (text_cmp (instance_of q))) es)) (away q e.0 e.1 h)

least_none : (a : Option Pick) → least_of pick_cmp a None ≡ a
least_none None = refl
least_none (Some p) = refl

stays : (a : Option Pick) → is_moved a a ≡ false
stays None = refl
stays (Some p) = ap (λ b. not (b && same p.series p.series)) (same_itself p.study p.study refl)
    ∙ ap not (same_itself p.series p.series refl)

has_cond : (m : Bool) (q : Place) (ps : List Place) → has place_cmp (cond m ps []) q ≡ (m && has place_cmp ps q)
has_cond true q ps = refl
has_cond false q ps = refl

module _ (picks others : List (Text × Option Pick)) (s : IsStrictlySortedBy text_cmp (keys_of picks))
    (t : IsStrictlySortedBy text_cmp (keys_of others)) (q : Place) where
  abbrev before : Option Pick
  before = pick_at (instance_of q) picks

  abbrev other : Option Pick
  other = pick_at (instance_of q) others

  abbrev after : Option Pick
  after = least_of pick_cmp (pick_at (instance_of q) picks) (pick_at (instance_of q) others)

  abbrev moved : Bool
  moved = is_moved (pick_at (instance_of q) picks) (least_of pick_cmp (pick_at (instance_of q) picks)
      (pick_at (instance_of q) others))

  gain_there : (o : Option (Option Pick)) → found (λ u b. gained u (pick_at u picks) b) q o ≡ has place_cmp
      (gained (instance_of q) (pick_at (instance_of q) picks) (flat o)) q
  gain_there None = sym (ap (λ m. has place_cmp (cond m (place_at (instance_of q) (least_of pick_cmp before None)) [])
      q) (ap (is_moved before) (least_none before) ∙ stays before))
  gain_there (Some b) = refl

  loss_there : (o : Option (Option Pick)) → found (λ u b. lost u (pick_at u picks) b) q o ≡ has place_cmp
      (lost (instance_of q) (pick_at (instance_of q) picks) (flat o)) q
  loss_there None = sym (ap (λ m. has place_cmp (cond m (place_at (instance_of q) before) []) q)
      (ap (is_moved before) (least_none before) ∙ stays before))
  loss_there (Some b) = refl

  pub has-gains : has place_cmp (gains picks others) q ≡ (moved && stands q after)
  has-gains =
      has-collected (λ u b. gained u (pick_at u picks) b)
      (λ r u b h. has_cond (is_moved (pick_at u picks) (least_of pick_cmp (pick_at u picks) b))
      r (place_at u (least_of pick_cmp (pick_at u picks) b))
      ∙ ap (λ x. is_moved (pick_at u picks) (least_of pick_cmp (pick_at u picks) b) && x)
      (none_elsewhere r u (least_of pick_cmp (pick_at u picks) b) h)
      ∙ and_none (is_moved (pick_at u picks) (least_of pick_cmp (pick_at u picks) b))) q others [] t
      ∙ gain_there (lookup (is_at (text_cmp (instance_of q))) others)
      ∙ has_cond moved q (place_at (instance_of q) after)

  pub has-losses : has place_cmp (losses picks others) q ≡ (moved && stands q before)
  has-losses =
      has-collected (λ u b. lost u (pick_at u picks) b)
      (λ r u b h. has_cond (is_moved (pick_at u picks) (least_of pick_cmp (pick_at u picks) b))
      r (place_at u (pick_at u picks)) ∙ ap (λ x. is_moved (pick_at u picks) (least_of pick_cmp (pick_at u picks) b)
      && x) (none_elsewhere r u (pick_at u picks) h)
      ∙ and_none (is_moved (pick_at u picks) (least_of pick_cmp (pick_at u picks) b))) q others [] t
      ∙ loss_there (lookup (is_at (text_cmp (instance_of q))) others)
      ∙ has_cond moved q (place_at (instance_of q) before)

flat-joined : (a b : Option (Option Pick)) → flat (joined_options (least_of pick_cmp) a b) ≡ least_of pick_cmp (flat a)
    (flat b)
flat-joined None b = refl
flat-joined (Some x) None = sym (least_none x)
flat-joined (Some x) (Some y) = refl

pub pick_at-joined : (picks others : List (Text × Option Pick)) → IsStrictlySortedBy text_cmp (keys_of picks)
    → IsStrictlySortedBy text_cmp (keys_of others) → (u : Text) → pick_at u (picks_joined picks others) ≡ least_of
    pick_cmp (pick_at u picks) (pick_at u others)
pick_at-joined picks others s t u =
    ap flat (lookup-map_joined nat_list_cmp_total text_exact (least_of pick_cmp) u others picks s t)
    ∙ flat-joined (lookup (is_at (text_cmp u)) picks) (lookup (is_at (text_cmp u)) others)

-- ---- a pick that moved stands elsewhere, and one that did not stands where it was
or_false_true : (b : Bool) → (b || false) ≡ true → b ≡ true
or_false_true true h = refl
or_false_true false h = h

pub at_of : (q : Place) (p : Pick) → stands q (Some p) ≡ true → q ≡ place_of (instance_of q) p
at_of q p h = same_key place_exact q (place_of (instance_of q) p)
    (or_false_true (is_at (place_cmp q) (place_of (instance_of q) p)) h)

pub not_both : (q : Place) (a c : Option Pick) → is_moved a c ≡ true → stands q a ≡ true → stands q c ≡ true → ⊥
not_both q None c m h k = true≢false (sym h)
not_both q (Some v) None m h k = true≢false (sym k)
not_both q (Some v) (Some w) m h k =
    let there : place_of (instance_of q) v ≡ place_of (instance_of q) w = sym (at_of q v h) ∙ at_of q w k in
    let study : v.study ≡ w.study = ap (λ (x : Place). x.study) there in
    let series : v.series ≡ w.series = ap (λ (x : Place). x.series) there in
    let stayed : is_moved (Some v) (Some w) ≡ false =
    ap (λ n. not (same v.study n && same v.series w.series)) (sym study)
    ∙ ap (λ n. not (same v.study v.study && same v.series n)) (sym series)
    ∙ stays (Some v) in
    true≢false (sym m ∙ stayed)

and_true : (a b : Bool) → not (a && b) ≡ false → (a ≡ true) × (b ≡ true)
and_true true true h = (refl, refl)
and_true true false h = absurd (true≢false h)
and_true false b h = absurd (true≢false h)

pub both_stand : (q : Place) (a c : Option Pick) → is_moved a c ≡ false → stands q a ≡ stands q c
both_stand q None None m = refl
both_stand q None (Some w) m = absurd (true≢false m)
both_stand q (Some v) None m = absurd (true≢false m)
both_stand q (Some v) (Some w) m =
    let both = and_true (same v.study w.study) (same v.series w.series) m in
    ap (λ n. is_at (place_cmp q) (a_place n v.series (instance_of q)) || false) (same_is v.study w.study both.0)
    ∙ ap (λ n. is_at (place_cmp q) (a_place w.study n (instance_of q)) || false) (same_is v.series w.series both.1)

move : (m old new : Bool) → (m ≡ true → old ≡ true → new ≡ true → ⊥) → (m ≡ false → old ≡ new)
    → ((old || (m && new)) && not (m && old)) ≡ new
move true true true h k = absurd (h refl refl refl)
move true true false h k = refl
move true false true h k = refl
move true false false h k = refl
move false true true h k = refl
move false true false h k = k refl
move false false true h k = k refl
move false false false h k = refl

apart : (m old new : Bool) → (m ≡ true → old ≡ true → new ≡ true → ⊥) → old ≡ true → (m && new) ≡ false
apart true old true h k = absurd (h refl k refl)
apart true old false h k = refl
apart false old new h k = refl

module _ (picks others : List (Text × Option Pick)) (s : IsStrictlySortedBy text_cmp (keys_of picks))
    (t : IsStrictlySortedBy text_cmp (keys_of others)) where
  -- what the list is to gain does not stand in it
  pub gains_apart : AreApart place_cmp (tree_of picks) (gains picks others)
  gains_apart q h =
      has-gains picks others s t q
      ∙ apart (moved picks others s t q) (stands q (pick_at (instance_of q) picks))
      (stands q (after picks others s t q)) (not_both q (pick_at (instance_of q) picks) (after picks others s t q))
      (sym (has-tree_of picks s q) ∙ h)

  pub still_apart : (keys fresh : List Place) → keys ≡ tree_of picks → fresh ≡ gains picks others → AreApart place_cmp
      keys fresh
  still_apart keys fresh is put q h = ap (λ ps. has place_cmp ps q) put
      ∙ gains_apart q (ap (λ ks. has place_cmp ks q) (sym is) ∙ h)

  -- with its gains and without its losses the list is that of the joined picks
  pub has-moved : (sorted : IsStrictlySortedBy text_cmp (keys_of (picks_joined picks others))) (q : Place)
      → ((has place_cmp (tree_of picks) q || has place_cmp (gains picks others) q) &&
      not (has place_cmp (losses picks others) q)) ≡ has place_cmp (tree_of (picks_joined picks others)) q
  has-moved sorted q =
      ap (λ b. (b || has place_cmp (gains picks others) q) && not (has place_cmp (losses picks others) q))
      (has-tree_of picks s q)
      ∙ ap (λ b. (stands q (pick_at (instance_of q) picks) || b) && not (has place_cmp (losses picks others) q))
      (has-gains picks others s t q)
      ∙ ap (λ b. (stands q (pick_at (instance_of q) picks) ||
      (moved picks others s t q && stands q (after picks others s t q))) && not b) (has-losses picks others s t q)
      ∙ move (moved picks others s t q) (stands q (pick_at (instance_of q) picks)) (stands q (after picks others s t q))
      (not_both q (pick_at (instance_of q) picks) (after picks others s t q))
      (both_stand q (pick_at (instance_of q) picks) (after picks others s t q))
      ∙ ap (stands q) (sym (pick_at-joined picks others s t (instance_of q)))
      ∙ sym (has-tree_of (picks_joined picks others) sorted q)
