-- What is rejected is in no row, and all rows are as if it had never been stored.
use Rattle.std.proofs.Common.{◌≡◌, ◌≢◌, ℕ, List, [], ◌∷◌, Option, Some, None, Bool, true, false, cond, refl, sym, ap}
use Rattle.std.proofs.Common.{subst, ◌∙◌, inl, inr, ◌⊎◌, map}
use Rattle.std.specs.Prelude.{not, ◌||◌}
use Rattle.std.specs.List.{filter, filter_map, cons_option, find, list_any}
use Rattle.std.proofs.lemmas.Bool.{false≢true}
use Rattle.data_set.specs.Set.{Set}
use Rattle.operation.specs.declared.op.Op.{Op}
use Rattle.operation.specs.declared.op.Op.TheVariants.{Content as a_content, Correction as a_correction}
use Rattle.operation.specs.Parts.{ContentParts}
use Rattle.archive_model.specs.Members.{Has}
use Rattle.archive_model.specs.Texts.{same, ascending}
use Rattle.archive_model.specs.Contents.{content_in, contents, is_of_instance, pick, instances}
use Rattle.archive_model.specs.Covered.{covers, is_covered}
use Rattle.archive_model.specs.Shown.{shown, shown_at, unless_hiding}
use Rattle.archive_model.specs.Attributes.{corrections}
use Rattle.archive_model.specs.declared.view.View.{View}
use Rattle.archive_model.proofs.MemberLaws.{filter_has, has_filter_map, filter_map_has}
use Rattle.archive_model.proofs.ModelLaws.{same_is, same_itself, content_has, covered_is_named, shown_are_picks}
use Rattle.archive_model.specs.declared.query.Query.{Query}
use Rattle.archive_model.specs.Rows.{named, is_named, is_at, is_match, contents_at, uids_at, row, row_of, row_at}
use Rattle.archive_model.specs.Rows.{rows_among, rows_of}
use Rattle.archive_query.proofs.AscendingLaws.{Has as HasText, Rises, Below, ascending_rises, ascending_has}
use Rattle.archive_query.proofs.AscendingLaws.{has_ascending, one_rising}
use Rattle.archive_query.proofs.RowLaws.{rows_alike}
use Rattle.site_state.specs.Site.{Map, ops_of}
use Rattle.site_state.proofs.Same.{taken_has}
use Rattle.site_world.specs.Headline.{SiteOf}
use Rattle.site_world.specs.Rejected.{without, IsInNoRow, IsAsIfNeverStored, Rejects, RejectedIsInNoRow, IsNoNote}
use Rattle.site_world.specs.Rejected.{RejectedIsAsIfNeverStored}
use Rattle.site_world.proofs.Alike.{site_took, taken_apart}

-- ---- rows are made of what is shown

row_is : (ops : List Op) (called : List ℕ) (query : Query) (c : ContentParts) (cs : List ContentParts) (r : Set) (b :
    Bool)
    → cond b (Some (row ops called query (c ∷ cs) c)) None ≡ Some r → r ≡ row ops called query (c ∷ cs) c
row_is ops called query c cs r true e = let s : row ops called query (c ∷ cs) c ≡ r = cc in sym s
row_is ops called query c cs r false e = absurd cc

-- a row, and the contents that it is made of
abbrev MadeOf : List Op → List ℕ → Query → List ContentParts → Set → Type 0
MadeOf ops called query all r =
    (c : ContentParts) × (cs : List ContentParts) × (r ≡ row ops called query (c ∷ cs) c) × ((x : ContentParts) →
    Has (c ∷ cs) x → Has all x)

made_of : (ops : List Op) (called : List ℕ) (query : Query) (all : List ContentParts) (r : Set)
    → row_of ops called query all ≡ Some r → MadeOf ops called query all r
made_of ops called query [] r e = absurd cc
made_of ops called query (c ∷ cs) r e = (c, cs, row_is ops called query c cs r (is_match ops query c) e, λ x has. has)

-- Each row is made of shown contents.
row_shown : (view : View) (ops : List Op) (called : List ℕ) (query : Query) (r : Set) →
    Has (rows_of view called query ops) r
    → MadeOf ops called query (shown view ops) r
unfolding rows_of
row_shown view ops called query r has =
    let among = named query (shown view ops) in
    let at = filter_map_has (row_at ops called query among) (uids_at query.level among) r has in
    let made = made_of ops called query (contents_at query.level at.0 among) r at.2 in (
      made.0,
      made.1,
      made.2,
      λ x here. (filter_has (is_named query) (shown view ops) x (filter_has (is_at query.level
          at.0) among x (made.3 x here)).0).0,
    )

-- A covered instance is in no row.
covered_no_row : (view : View) (ops : List Op) (uid : List ℕ) → is_covered view ops uid ≡ true → IsInNoRow view uid ops
covered_no_row view ops uid covered called query r has =
    let made = row_shown view ops called query r has in (
      made.0,
      made.1,
      made.2,
      λ x here. (
        made.3 x here,
        λ is. false≢true (sym ((shown_are_picks view ops x).0 (made.3 x here)).1 ∙ ap (is_covered view ops) is ∙ covered),
      ),
    )

-- ---- lists from which what fails a test is dropped

module _ {X : Type 0} (gone : X → Bool) where
  any_first : (p : X → Bool) (x : X) (xs : List X) (b : Bool) → gone x ≡ b → (gone x ≡ true → p x ≡ false)
      → list_any p (filter (λ y. not (gone y)) xs) ≡ list_any p xs
      → list_any p (cond (not b) (x ∷ filter (λ y. not (gone y)) xs) (filter (λ y. not (gone y)) xs))
      ≡ (p x || list_any p xs)
  any_first p x xs true is none rest = rest ∙ ap (λ c. c || list_any p xs) (sym (none is))
  any_first p x xs false is none rest = ap (λ c. p x || c) rest

  any_kept : (p : X → Bool) (xs : List X) → ((x : X) → Has xs x → gone x ≡ true → p x ≡ false)
      → list_any p (filter (λ y. not (gone y)) xs) ≡ list_any p xs
  any_kept p [] none = refl
  any_kept p (x ∷ xs) none = any_first p x xs (gone x) refl (none x (inl refl)) (any_kept p xs
      (λ y has. none y (inr has)))

  find_first : (p : X → Bool) (x : X) (xs : List X) (b : Bool) → gone x ≡ b → (gone x ≡ true → p x ≡ false)
      → find p (filter (λ y. not (gone y)) xs) ≡ find p xs
      → find p (cond (not b) (x ∷ filter (λ y. not (gone y)) xs) (filter (λ y. not (gone y)) xs))
      ≡ cond (p x) (Some x) (find p xs)
  find_first p x xs true is none rest = rest ∙ ap (λ c. cond c (Some x) (find p xs)) (sym (none is))
  find_first p x xs false is none rest = ap (λ r. cond (p x) (Some x) r) rest

  find_kept : (p : X → Bool) (xs : List X) → ((x : X) → gone x ≡ true → p x ≡ false) →
      find p (filter (λ y. not (gone y)) xs) ≡ find p xs
  find_kept p [] none = refl
  find_kept p (x ∷ xs) none = find_first p x xs (gone x) refl (none x) (find_kept p xs none)

module _ {X Y : Type 0} (gone : X → Bool) (f g : X → Option Y) where
  mapped_first : (x : X) (xs : List X) (b : Bool) → gone x ≡ b → (gone x ≡ true → g x ≡ None) → (gone x ≡ false →
      f x ≡ g x)
      → filter_map f (filter (λ y. not (gone y)) xs) ≡ filter_map g xs
      → filter_map f (cond (not b) (x ∷ filter (λ y. not (gone y)) xs) (filter (λ y. not (gone y)) xs))
      ≡ cons_option (g x) (filter_map g xs)
  mapped_first x xs true is none alike rest = rest ∙ ap (λ (r : Option Y). cons_option r (filter_map g xs)) (sym (none
      is))
  mapped_first x xs false is none alike rest =
      ap (λ (r : Option Y). cons_option r (filter_map f (filter (λ y. not (gone y)) xs))) (alike is)
      ∙ ap (cons_option (g x)) rest

  -- What is dropped gives nothing, and what stays gives the same.
  mapped_kept : (xs : List X) → ((x : X) → gone x ≡ true → g x ≡ None) → ((x : X) → gone x ≡ false → f x ≡ g x)
      → filter_map f (filter (λ y. not (gone y)) xs) ≡ filter_map g xs
  mapped_kept [] none alike = refl
  mapped_kept (x ∷ xs) none alike = mapped_first x xs (gone x) refl (none x) (alike x) (mapped_kept xs none alike)

-- ---- texts that ascend, but for some

kept_first : (p : List ℕ → Bool) (t x : List ℕ) (ts : List (List ℕ)) (b : Bool) → p t ≡ b → p x ≡ true
    → (x ≡ t) ⊎ HasText (filter p ts) x → HasText (cond b (t ∷ filter p ts) (filter p ts)) x
kept_first p t x ts true is here has = has
kept_first p t x ts false is here (inl e) = absurd (false≢true (sym is ∙ ap p (sym e) ∙ here))
kept_first p t x ts false is here (inr has) = has

text_kept : (p : List ℕ → Bool) (ts : List (List ℕ)) (x : List ℕ) → HasText ts x → p x ≡ true → HasText (filter p ts) x
text_kept p [] x has here = has
text_kept p (t ∷ ts) x (inl e) here = kept_first p t x ts (p t) refl here (inl e)
text_kept p (t ∷ ts) x (inr has) here = kept_first p t x ts (p t) refl here (inr (text_kept p ts x has here))

was_first : (p : List ℕ → Bool) (t x : List ℕ) (ts : List (List ℕ)) (b : Bool) → p t ≡ b → (HasText (filter p ts) x →
    HasText ts x × (p x ≡ true))
    → HasText (cond b (t ∷ filter p ts) (filter p ts)) x → HasText (t ∷ ts) x × (p x ≡ true)
was_first p t x ts true is more (inl e) = (inl e, ap p e ∙ is)
was_first p t x ts true is more (inr has) = (inr (more has).0, (more has).1)
was_first p t x ts false is more has = (inr (more has).0, (more has).1)

text_was : (p : List ℕ → Bool) (ts : List (List ℕ)) (x : List ℕ) → HasText (filter p ts) x → HasText ts x × (p x ≡ true)
text_was p [] x has = absurd has
text_was p (t ∷ ts) x has = was_first p t x ts (p t) refl (text_was p ts x) has

below_by : (t u : List ℕ) (us vs : List (List ℕ)) (b : Bool) → Below t (u ∷ us) → Below t vs →
    Below t (cond b (u ∷ vs) vs)
below_by t u us vs true below rest = (below.0, rest)
below_by t u us vs false below rest = rest

below_kept : (p : List ℕ → Bool) (t : List ℕ) (us : List (List ℕ)) → Below t us → Below t (filter p us)
below_kept p t [] below = tt
below_kept p t (u ∷ us) below = below_by t u us (filter p us) (p u) below (below_kept p t us below.1)

rises_by : (u : List ℕ) (vs : List (List ℕ)) (b : Bool) → Below u vs → Rises vs → Rises (cond b (u ∷ vs) vs)
rises_by u vs true below rises = (below, rises)
rises_by u vs false below rises = rises

rises_kept : (p : List ℕ → Bool) (us : List (List ℕ)) → Rises us → Rises (filter p us)
rises_kept p [] rises = tt
rises_kept p (u ∷ us) rises = rises_by u (filter p us) (p u) (below_kept p u us rises.0) (rises_kept p us rises.1)

-- Texts that are dropped before they are put in order are dropped from the order.
ascending_kept : (p : List ℕ → Bool) (ts : List (List ℕ)) → ascending (filter p ts) ≡ filter p (ascending ts)
ascending_kept p ts =
    one_rising (ascending (filter p ts)) (filter p (ascending ts)) (ascending_rises (filter p ts)) (rises_kept p
    (ascending ts) (ascending_rises ts))
    (λ x has. let was = text_was p ts x (ascending_has (filter p ts) x has) in text_kept p (ascending ts) x
    (has_ascending ts x was.0) was.1)
    (λ x has. let was = text_was p (ascending ts) x has in has_ascending (filter p ts) x (text_kept p ts x
    (ascending_has ts x was.0) was.1))

-- ---- a set without the contents of an instance

not_same : (a b : List ℕ) → same a b ≡ false → a ≢ b
not_same a b e is = false≢true (sym e ∙ same_itself a b is)

other_same : (a b : List ℕ) (c : Bool) → same a b ≡ c → a ≢ b → c ≡ false
other_same a b true e other = absurd (other (same_is a b e))
other_same a b false e other = refl

module _ (uid : List ℕ) where
  abbrev is_gone : ContentParts → Bool
  is_gone c = same c.instance uid

  contents_by : (c : ContentParts) (ops : List Op) (cs : List ContentParts) (b : Bool) → contents ops ≡ cs
      → contents (cond b (a_content c ∷ ops) ops) ≡ cond b (c ∷ cs) cs
  contents_by c ops cs true e = ap (λ (xs : List ContentParts). c ∷ xs) e
  contents_by c ops cs false e = e

  contents_without : (ops : List Op) → contents (without uid ops) ≡ filter (λ c. not (is_gone c)) (contents ops)
  contents_without [] = refl
  contents_without (a_content c ∷ ops) = contents_by c (without uid ops) _ (not (is_gone c)) (contents_without ops)
  contents_without (a_correction k ∷ ops) = contents_without ops

  corrections_by : (c : ContentParts) (ops : List Op) (b : Bool) →
      corrections (cond b (a_content c ∷ ops) ops) ≡ corrections ops
  corrections_by c ops true = refl
  corrections_by c ops false = refl

  corrections_without : (ops : List Op) → corrections (without uid ops) ≡ corrections ops
  corrections_without [] = refl
  corrections_without (a_content c ∷ ops) = corrections_by c (without uid ops) (not (is_gone c))
      ∙ corrections_without ops
  corrections_without (a_correction k ∷ ops) = ap (λ ks. k ∷ ks) (corrections_without ops)

  map_by : (c : ContentParts) (cs : List ContentParts) (ts : List (List ℕ)) (b : Bool) →
      map (λ (x : ContentParts). x.instance) cs ≡ ts
      → map (λ (x : ContentParts). x.instance) (cond b (c ∷ cs) cs) ≡ cond b (c.instance ∷ ts) ts
  map_by c cs ts true e = ap (λ (xs : List (List ℕ)). c.instance ∷ xs) e
  map_by c cs ts false e = e

  map_without : (cs : List ContentParts) → map (λ (x : ContentParts). x.instance) (filter (λ c. not (is_gone c)) cs)
      ≡ filter (λ u. not (same u uid)) (map (λ (x : ContentParts). x.instance) cs)
  map_without [] = refl
  map_without (c ∷ cs) = map_by c (filter (λ x. not (is_gone x)) cs) _ (not (is_gone c)) (map_without cs)

  instances_without : (ops : List Op) → instances (without uid ops) ≡ filter (λ u. not (same u uid)) (instances ops)
  instances_without ops =
      ap (λ (cs : List ContentParts). ascending (map (λ (x : ContentParts). x.instance) cs)) (contents_without ops)
      ∙ ap ascending (map_without (contents ops))
      ∙ ascending_kept (λ u. not (same u uid)) (map (λ (x : ContentParts). x.instance) (contents ops))

  covered_without : (view : View) (ops : List Op) (u : List ℕ) → IsNoNote uid ops →
      is_covered view (without uid ops) u ≡ is_covered view ops u
  covered_without view ops u plain =
      ap (list_any (λ (c : ContentParts). covers view u c.note)) (contents_without ops)
      ∙ any_kept is_gone (λ c. covers view u c.note) (contents ops)
      (λ c has gone. ap (covers view u) (plain c (content_has ops c has) (same_is c.instance uid gone)))

  pick_without : (ops : List Op) (u : List ℕ) → same u uid ≡ false → pick u (without uid ops) ≡ pick u ops
  pick_without ops u other =
      ap (find (is_of_instance u)) (contents_without ops)
      ∙ find_kept is_gone (is_of_instance u) (contents ops)
      (λ c gone. other_same c.instance u _ refl (λ is. not_same u uid other (sym is ∙ same_is c.instance uid gone)))

  shown_at_without : (view : View) (ops : List Op) (u : List ℕ) → IsNoNote uid ops → same u uid ≡ false →
      shown_at view (without uid ops) u ≡ shown_at view ops u
  shown_at_without view ops u plain other =
      ap (λ b. cond b None (unless_hiding view (pick u (without uid ops)))) (covered_without view ops u plain)
      ∙ ap (λ r. cond (is_covered view ops u) None (unless_hiding view r)) (pick_without ops u other)

  -- What is shown is the same without a covered instance.
  shown_without : (view : View) (ops : List Op) → IsNoNote uid ops → is_covered view ops uid ≡ true →
      shown view (without uid ops) ≡ shown view ops
  shown_without view ops plain covered =
      ap (filter_map (shown_at view (without uid ops))) (instances_without ops)
      ∙ mapped_kept (λ u. same u uid) (shown_at view (without uid ops)) (shown_at view ops) (instances ops)
      (λ u gone. ap (λ b. cond b None (unless_hiding view (pick u ops))) (ap (is_covered view ops) (same_is u uid gone)
      ∙ covered))
      (λ u other. shown_at_without view ops u plain other)

  -- And so are the rows.
  rows_without : (view : View) (ops : List Op) → IsNoNote uid ops → is_covered view ops uid ≡ true →
      IsAsIfNeverStored view uid ops
  unfolding rows_of
  rows_without view ops plain covered called query =
      sym (rows_alike ops (without uid ops) (corrections_without ops) called query (named query (shown view (without uid
      ops)))
      ∙ ap (λ cs. rows_among ops called query (named query cs)) (shown_without view ops plain covered))

-- ---- sites that took a note

-- A note that was taken is held, and so what it names is covered.
covered_there : (a : Map) (ops : List Op) (view : View) (uid : List ℕ) → SiteOf a ops → Rejects view ops uid →
    is_covered view (ops_of a) uid ≡ true
covered_there a ops view uid site r =
    let held = taken_has ops (a_content r.note) (taken_apart a ops site) r.taken in
    let there = subst (λ m. Has (ops_of m) (a_content r.note)) (sym (site_took a ops site).0) held in
    let among = has_filter_map content_in (ops_of a) (a_content r.note) r.note there refl in
    (covered_is_named view (ops_of a) uid).1 (r.note, r.says, among, r.is, r.hiding, r.named)

pub in_no_row : RejectedIsInNoRow
in_no_row a ops view uid site r = covered_no_row view (ops_of a) uid (covered_there a ops view uid site r)

pub as_if_never_stored : RejectedIsAsIfNeverStored
as_if_never_stored a ops view uid site r plain =
    rows_without uid view (ops_of a) plain (covered_there a ops view uid site r)
