-- Sites that took the same operations hold the same.
use Rattle.std.proofs.Common.{◌≡◌, ◌≢◌, ℕ, List, [], ◌∷◌, ◌++◌, Option, Some, Bool, true, false, cond, refl, sym, ap}
use Rattle.std.proofs.Common.{subst, ◌∙◌, inl, inr, ◌⊎◌}
use Rattle.std.proofs.lemmas.Bool.{false≢true}
use Rattle.std.specs.Prelude.{IfSome}
use Rattle.std.specs.Cmp.Lexicographic.{nat_list_cmp_total}
use Rattle.std.specs.BTreeMap.{is_at}
use Rattle.std.specs.Map.{values_of}
use Rattle.std.specs.FinMap.{entries, get, empty, get-insert, get-empty}
use Rattle.operation.specs.declared.op.Op.{Op}
use Rattle.operation.specs.declared.op.Op.TheVariants.{Content as a_content}
use Rattle.operation.specs.Spelling.{digest_of}
use Rattle.archive_model.specs.Members.{Has, SameMembers}
use Rattle.archive_model.specs.Contents.{content_in, contents_of, pick, flagged}
use Rattle.archive_model.specs.Covered.{is_covered}
use Rattle.archive_model.specs.Shown.{shown}
use Rattle.archive_model.specs.Attributes.{attribute}
use Rattle.archive_model.proofs.MemberLaws.{has_filter_map}
use Rattle.archive_model.proofs.ModelLaws.{covered_is_named, shown_are_picks}
use Rattle.operation.specs.declared.taken.Taken.TheVariants.{New, Known}
use Rattle.site_state.specs.Site.{digest_cmp, Map, IsSite, ops_of, held_at, with_op, top_counter_of, counts_of}
use Rattle.site_state.specs.Union.{either, Agree}
use Rattle.site_state.specs.Laws.{Apart, holding, after_taking, TakingAdds, IsCommutative, UnionIsOfBoth, EqualMaps}
use Rattle.site_state.specs.Laws.{EqualContents, EqualPicks, EqualCovers, EqualShown, EqualFlagged, EqualAttributes}
use Rattle.site_state.specs.Laws.{EqualCounts, EqualTops, NoteBeforeIsNoteAfter, NamedIsNotShown}
use Rattle.site_state.proofs.Maps.{same_sites, tied, apart, held}
use Rattle.site_state.proofs.Unions.{held_entries, held_in_union, commutative}

-- ---- takings

here_again : (m : Map) (o : Op) (d : List ℕ) (b : Bool) → is_at (digest_cmp d) (digest_of o) ≡ b
    → held_at m (digest_of o) ≡ Some o → cond b (Some o) (get m d) ≡ get m d
here_again m o d true is there = sym there ∙ ap (get m) (sym (tied d (digest_of o) is))
here_again m o d false is there = refl

-- to add what is held changes nothing
known_again : (m : Map) (o : Op) → held_at m (digest_of o) ≡ Some o → with_op m o ≡ m
known_again m o there = same_sites _ _ (λ d. get-insert nat_list_cmp_total m (digest_of o) o d ∙ here_again m o d _ refl
    there)

pub taking_adds : TakingAdds
taking_adds m n o New takes = takes.1
taking_adds m n o Known takes = takes.1 ∙ sym (known_again m o takes.0)

-- ---- what is held once operations were taken

-- under a digest lies one of the operations, or what lay there and none of the operations has the digest
abbrev pub Told : Map → List Op → List ℕ → Option Op → Type 0
Told m ops d r = ((o : Op) × Has ops o × (digest_of o ≡ d) × (r ≡ Some o)) ⊎ (((o : Op) → Has ops o → digest_of o ≢ d)
    × (r ≡ get m d))

at_first : (m : Map) (x : Op) (ops : List Op) (d : List ℕ) → ((o : Op) → Has ops o → digest_of o ≢ d) → (r : Option Op)
    → r ≡ get (with_op m x) d → (b : Bool) → is_at (digest_cmp d) (digest_of x) ≡ b → Told m (x ∷ ops) d r
at_first m x ops d none r is true here =
    inl (
      x,
      inl refl,
      sym (tied d (digest_of x) here),
      is ∙ get-insert nat_list_cmp_total m (digest_of x) x d
          ∙ ap (λ b. cond b (Some x) (get m d)) here,
    )
at_first m x ops d none r is false here =
    inr (
      λ o h. elim h as (λ _. digest_of o ≢ d) [
        | inl e ↦ λ q. absurd
            (apart d (digest_of x) here (sym q ∙ ap digest_of e))
        | inr later ↦ none o later
      ],
      is ∙ get-insert nat_list_cmp_total m (digest_of x) x d ∙ ap (λ b. cond b (Some x) (get m d)) here,
    )

pub told : (m : Map) (ops : List Op) (d : List ℕ) → Told m ops d (get (holding m ops) d)
told m [] d = inr (λ o h. absurd h, refl)
told m (x ∷ ops) d = elim (told (with_op m x) ops d) as (λ _. Told m (x ∷ ops) d (get (holding m (x ∷ ops)) d)) [
  | inl found ↦ inl (found.0, inr found.1, found.2, found.3)
  | inr none ↦ at_first m x ops d none.0 _ none.1 (is_at (digest_cmp d) (digest_of x)) refl
]

meets : (xs ys : List Op) (d : List ℕ) (r s : Option Op) → SameMembers xs ys → Apart xs → Told empty xs d r
    → Told empty ys d s → r ≡ s
meets xs ys d r s same one (inl f) (inl g) = f.3 ∙ ap Some (one f.0 g.0 f.1 ((same g.0).1 g.1) (f.2 ∙ sym g.2))
    ∙ sym g.3
meets xs ys d r s same one (inl f) (inr n) = absurd (n.0 f.0 ((same f.0).0 f.1) f.2)
meets xs ys d r s same one (inr n) (inl g) = absurd (n.0 g.0 ((same g.0).1 g.1) g.2)
meets xs ys d r s same one (inr n) (inr k) = n.1 ∙ sym k.1

-- the same operations make one set, in whatever order and however often
pub equal_maps : EqualMaps
equal_maps xs ys (same, one) = same_sites _ _ (λ d. meets xs ys d _ _ same one (told empty xs d) (told empty ys d))

pub equal_contents : EqualContents
equal_contents xs ys uid same = ap (λ m. contents_of uid (ops_of m)) (equal_maps xs ys same)

pub equal_picks : EqualPicks
equal_picks xs ys uid same = ap (λ m. pick uid (ops_of m)) (equal_maps xs ys same)

pub equal_covers : EqualCovers
equal_covers xs ys view uid same = ap (λ m. is_covered view (ops_of m) uid) (equal_maps xs ys same)

pub equal_shown : EqualShown
equal_shown xs ys view same = ap (λ m. shown view (ops_of m)) (equal_maps xs ys same)

pub equal_flagged : EqualFlagged
equal_flagged xs ys same = ap (λ m. flagged (ops_of m)) (equal_maps xs ys same)

pub equal_attributes : EqualAttributes
equal_attributes xs ys c tag same = ap (λ m. attribute (ops_of m) c tag) (equal_maps xs ys same)

pub equal_counts : EqualCounts
equal_counts xs ys same = ap (λ m. counts_of (ops_of m)) (equal_maps xs ys same)

pub equal_tops : EqualTops
equal_tops xs ys same = ap (λ m. top_counter_of (ops_of m)) (equal_maps xs ys same)

-- ---- unions

held_first : (x o : Op) (b : Bool) (r : Option Op) (ops : List Op) → (r ≡ Some o → Has ops o) → cond b (Some x) r ≡ Some
    o → Has (x ∷ ops) o
held_first x o true r ops more e = inl (let s : x ≡ o = cc in sym s)
held_first x o false r ops more e = inr (more e)

held_has : (es : List (List ℕ × Op)) (d : List ℕ) (o : Op) → held es d ≡ Some o → Has (values_of es) o
held_has [] d o e = absurd cc
held_has (x ∷ es) d o e = held_first x.1 o (is_at (digest_cmp d) x.0) (held es d) (values_of es) (held_has es d o) e

-- what is held under a digest is one of the operations
pub of_ops : (m : Map) (d : List ℕ) (o : Op) → held_at m d ≡ Some o → Has (ops_of m) o
of_ops m d o e = held_has (entries m) d o (held_entries m d ∙ e)

pub has_left : (xs ys : List Op) (o : Op) → Has xs o → Has (xs ++ ys) o
has_left [] ys o h = absurd h
has_left (x ∷ xs) ys o (inl e) = inl e
has_left (x ∷ xs) ys o (inr h) = inr (has_left xs ys o h)

pub has_right : (xs ys : List Op) (o : Op) → Has ys o → Has (xs ++ ys) o
has_right [] ys o h = h
has_right (x ∷ xs) ys o h = inr (has_right xs ys o h)

own_digest : (r : Option Op) (d : List ℕ) (o : Op) → r ≡ Some o → IfSome r (λ x. d ≡ digest_of x) → d ≡ digest_of o
own_digest r d o e own = subst (λ (s : Option Op). IfSome s (λ x. d ≡ digest_of x)) e own

agree_apart : (m n : Map) → IsSite m → IsSite n → Apart (ops_of m ++ ops_of n) → Agree m n
agree_apart m n p q one d o x here there =
    one o x (has_left (ops_of m) (ops_of n) o (of_ops m d o here))
    (has_right (ops_of m) (ops_of n) x (of_ops n d x there))
    (sym (own_digest (held_at m d) d o here (p d)) ∙ own_digest (held_at n d) d x there (q d))

pub apart_commutative : IsCommutative
apart_commutative m n p q one = commutative m n (agree_apart m n p q one)

joined : (xs ys : List Op) (d : List ℕ) (r s t : Option Op) → Apart (xs ++ ys) → Told empty xs d r → Told empty ys d s
    → Told empty (xs ++ ys) d t → either r s ≡ t
joined xs ys d r s t one (inl f) more (inl g) =
    ap (λ x. either x s) f.3 ∙ ap Some (one f.0 g.0 (has_left xs ys f.0 f.1) g.1 (f.2 ∙ sym g.2)) ∙ sym g.3
joined xs ys d r s t one (inl f) more (inr n) = absurd (n.0 f.0 (has_left xs ys f.0 f.1) f.2)
joined xs ys d r s t one (inr k) (inl f) (inl g) =
    ap (λ x. either x s) (k.1 ∙ get-empty digest_cmp d) ∙ f.3
    ∙ ap Some (one f.0 g.0 (has_right xs ys f.0 f.1) g.1 (f.2 ∙ sym g.2)) ∙ sym g.3
joined xs ys d r s t one (inr k) (inl f) (inr n) = absurd (n.0 f.0 (has_right xs ys f.0 f.1) f.2)
joined xs ys d r s t one (inr k) (inr j) (inl g) = absurd (neither xs ys g.0 d k.0 j.0 g.1 g.2)
  where
    neither : (xs ys : List Op) (o : Op) (d : List ℕ) → ((x : Op) → Has xs x → digest_of x ≢ d)
        → ((x : Op) → Has ys x → digest_of x ≢ d) → Has (xs ++ ys) o → digest_of o ≡ d → ⊥
    neither [] ys o d p q h e = q o h e
    neither (x ∷ xs) ys o d p q (inl s) e = p o (inl s) e
    neither (x ∷ xs) ys o d p q (inr h) e = neither xs ys o d (λ y k. p y (inr k)) q h e
joined xs ys d r s t one (inr k) (inr j) (inr n) = ap (λ x. either x s) (k.1 ∙ get-empty digest_cmp d) ∙ j.1 ∙ sym n.1

pub union_is_of_both : UnionIsOfBoth
union_is_of_both xs ys one = same_sites _ _ (λ d.
    held_in_union (after_taking xs) (after_taking ys) d ∙ joined xs ys d _ _ _ one (told empty xs d) (told empty ys d)
    (told empty (xs ++ ys) d))

-- ---- notes

to_end : (o : Op) (ops : List Op) → SameMembers (o ∷ ops) (ops ++ o ∷ [])
to_end o ops x = (
  λ h. elim h as (λ _. Has (ops ++ o ∷ []) x) [
    | inl e ↦ has_right ops (o ∷ []) x (inl e)
    | inr k ↦
        has_left ops (o ∷ []) x k
  ],
  λ h. from_end o ops x h,
)
  where
    from_end : (o : Op) (ops : List Op) (x : Op) → Has (ops ++ o ∷ []) x → Has (o ∷ ops) x
    from_end o [] x h = h
    from_end o (y ∷ ys) x (inl e) = inr (inl e)
    from_end o (y ∷ ys) x (inr h) = elim (from_end o ys x h) as (λ _. Has (o ∷ y ∷ ys) x)
        [ inl e ↦ inl e | inr k ↦ inr (inr k) ]

pub note_before_is_note_after : NoteBeforeIsNoteAfter
note_before_is_note_after view note images one = equal_shown (a_content note ∷ images) (images ++ a_content note ∷ [])
    view (to_end (a_content note) images, one)

held_taken : (ops : List Op) (o : Op) (r : Option Op) → Apart ops → Has ops o → Told empty ops (digest_of o) r
    → r ≡ Some o
held_taken ops o r one has (inl f) = f.3 ∙ ap Some (one f.0 o f.1 has f.2)
held_taken ops o r one has (inr n) = absurd (n.0 o has refl)

-- what was taken is held
pub taken_has : (ops : List Op) (o : Op) → Apart ops → Has ops o → Has (ops_of (after_taking ops)) o
taken_has ops o one has = of_ops (after_taking ops) (digest_of o)
    o (held_taken ops o _ one has (told empty ops (digest_of o)))

pub named_is_not_shown : NamedIsNotShown
named_is_not_shown view ops note says image one has is hiding named here =
    let held = ops_of (after_taking ops) in
    let among = has_filter_map content_in held (a_content note) note (taken_has ops (a_content note) one has) refl in
    let covered = (covered_is_named view held image.instance).1 (note, says, among, is, hiding, named) in
    false≢true (sym ((shown_are_picks view held image).0 here).1 ∙ covered)
