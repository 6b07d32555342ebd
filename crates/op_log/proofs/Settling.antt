-- Heads in the place of earlier ones with their digests.
use Rattle.std.proofs.Common.{◌≡◌, ◌≢◌, ℕ, List, [], ◌∷◌, ◌++◌, map, All, Bool, true, false, cond, nat_eq, Option, Some, None}
use Rattle.std.proofs.Common.{refl, sym, ◌∙◌, ap, subst, true≢false}
use Rattle.std.proofs.lemmas.List.{append_assoc, append-nil}
use Rattle.std.proofs.lemmas.List.Elements.{All-nil, All-cons, All-head, All-tail}
use Rattle.std.specs.Cmp.Lexicographic.{pointwise, bytes_decides}
use Rattle.indexmap.specs.IndexMap.{insert_entry}
use Rattle.op_log.specs.declared.place.Place.{Place}
use Rattle.op_log.specs.Heads.{Head}
use Rattle.op_log.specs.Kept.{first_under, with_head, with_heads}
use Rattle.op_log.specs.Places.{head_at, head_by}
use Rattle.op_log.specs.declared.group.Group.{Group}
use Rattle.op_log.specs.Staged.{AreThere, IsBegun, IsUndone, back, replaced_in}

-- equal bytes, and the same from the other side
pub same_bytes : (a b : List ℕ) → a ≡ b → pointwise nat_eq a b ≡ true
same_bytes a b same = (bytes_decides a b).1 same

-- what is found under a digest once a head is there
pub first_with : (heads : List Head) (h : Head) (d : List ℕ)
    → first_under d (with_head heads h) ≡ cond (pointwise nat_eq d h.digest) (Some h) (first_under d heads)
first_with [] h d = refl
first_with (k ∷ heads) h d = by (first_with heads h d) (pointwise nat_eq h.digest k.digest) refl
  where
    in_place : h.digest ≡ k.digest → (b : Bool) → pointwise nat_eq d h.digest ≡ b
        → cond b (Some h) (first_under d heads) ≡ cond b (Some h) (cond (pointwise nat_eq d k.digest) (Some k) (first_under d heads))
    in_place keys true is = refl
    in_place keys false is =
        let off : pointwise nat_eq d k.digest ≡ false = ap (pointwise nat_eq d) (sym keys) ∙ is in
        sym (ap (λ (b : Bool). cond b (Some k) (first_under d heads)) off)

    other : pointwise nat_eq h.digest k.digest ≡ false → d ≡ k.digest → (b : Bool) → pointwise nat_eq d h.digest ≡ b
        → Some k ≡ cond b (Some h) (Some k)
    other apart key true is =
        absurd (true≢false (sym (same_bytes h.digest k.digest (sym ((bytes_decides d h.digest).0 is) ∙ key)) ∙ apart))
    other apart key false is = refl

    before : pointwise nat_eq h.digest k.digest ≡ false → (b : Bool) → pointwise nat_eq d k.digest ≡ b
        → cond b (Some k) (cond (pointwise nat_eq d h.digest) (Some h) (first_under d heads))
        ≡ cond (pointwise nat_eq d h.digest) (Some h) (cond b (Some k) (first_under d heads))
    before apart true is = other apart ((bytes_decides d k.digest).0 is) (pointwise nat_eq d h.digest) refl
    before apart false is = refl

    by : first_under d (with_head heads h) ≡ cond (pointwise nat_eq d h.digest) (Some h) (first_under d heads) → (b : Bool)
        → pointwise nat_eq h.digest k.digest ≡ b → first_under d (cond b (h ∷ heads) (k ∷ with_head heads h))
        ≡ cond (pointwise nat_eq d h.digest) (Some h) (cond (pointwise nat_eq d k.digest) (Some k) (first_under d heads))
    by later true same = in_place ((bytes_decides h.digest k.digest).0 same) (pointwise nat_eq d h.digest) refl
    by later false apart =
        ap (λ (o : Option Head). cond (pointwise nat_eq d k.digest) (Some k) o) later ∙ before apart (pointwise nat_eq d k.digest) refl

-- a head whose digest none has stands behind the others
pub with_new : (heads : List Head) (h : Head) → first_under h.digest heads ≡ None → with_head heads h ≡ heads ++ h ∷ []
with_new [] h none = refl
with_new (k ∷ heads) h none = by (with_new heads h) (pointwise nat_eq h.digest k.digest) none
  where
    by : (first_under h.digest heads ≡ None → with_head heads h ≡ heads ++ h ∷ []) → (b : Bool)
        → cond b (Some k) (first_under h.digest heads) ≡ None → cond b (h ∷ heads) (k ∷ with_head heads h) ≡ k ∷ (heads ++ h ∷ [])
    by later true is = absurd cc
    by later false is = ap (λ (hs : List Head). k ∷ hs) (later is)

-- the head that is there changes nothing
pub with_own : (heads : List Head) (u : Head) → first_under u.digest heads ≡ Some u → with_head heads u ≡ heads
with_own [] u is = absurd cc
with_own (k ∷ heads) u is = by (with_own heads u) (pointwise nat_eq u.digest k.digest) is
  where
    by : (first_under u.digest heads ≡ Some u → with_head heads u ≡ heads) → (b : Bool)
        → cond b (Some k) (first_under u.digest heads) ≡ Some u → cond b (u ∷ heads) (k ∷ with_head heads u) ≡ k ∷ heads
    by later true is =
        let it : k ≡ u = cc in
        ap (λ (x : Head). x ∷ heads) (sym it)
    by later false is = ap (λ (hs : List Head). k ∷ hs) (later is)

-- of two with one digest the later counts
pub with_twice : (heads : List Head) (h u : Head) → u.digest ≡ h.digest → with_head (with_head heads h) u ≡ with_head heads u
with_twice [] h u same = ap (λ (b : Bool). cond b (u ∷ []) (h ∷ u ∷ [])) (same_bytes u.digest h.digest same)
with_twice (k ∷ heads) h u same = by (with_twice heads h u same) (pointwise nat_eq h.digest k.digest) refl
  where
    by : with_head (with_head heads h) u ≡ with_head heads u → (b : Bool) → pointwise nat_eq h.digest k.digest ≡ b
        → with_head (cond b (h ∷ heads) (k ∷ with_head heads h)) u
        ≡ cond (pointwise nat_eq u.digest k.digest) (u ∷ heads) (k ∷ with_head heads u)
    by later true is =
        let on : pointwise nat_eq u.digest k.digest ≡ true = ap (λ (d : List ℕ). pointwise nat_eq d k.digest) same ∙ is in
        ap (λ (b : Bool). cond b (u ∷ heads) (h ∷ with_head heads u)) (same_bytes u.digest h.digest same)
        ∙ sym (ap (λ (b : Bool). cond b (u ∷ heads) (k ∷ with_head heads u)) on)
    by later false is =
        let off : pointwise nat_eq u.digest k.digest ≡ false = ap (λ (d : List ℕ). pointwise nat_eq d k.digest) same ∙ is in
        ap (λ (b : Bool). cond b (u ∷ with_head heads h) (k ∷ with_head (with_head heads h) u)) off
        ∙ ap (λ (hs : List Head). k ∷ hs) later
        ∙ sym (ap (λ (b : Bool). cond b (u ∷ heads) (k ∷ with_head heads u)) off)

-- a digest that is there is found in front
pub with_front : (xs ys : List Head) (u : Head) → first_under u.digest xs ≢ None → with_head (xs ++ ys) u ≡ with_head xs u ++ ys
with_front [] ys u there = absurd (there refl)
with_front (k ∷ xs) ys u there = by (with_front xs ys u) (pointwise nat_eq u.digest k.digest) there
  where
    by : (first_under u.digest xs ≢ None → with_head (xs ++ ys) u ≡ with_head xs u ++ ys) → (b : Bool)
        → cond b (Some k) (first_under u.digest xs) ≢ None
        → cond b (u ∷ (xs ++ ys)) (k ∷ with_head (xs ++ ys) u) ≡ cond b (u ∷ xs) (k ∷ with_head xs u) ++ ys
    by later true there = refl
    by later false there = ap (λ (hs : List Head). k ∷ hs) (later there)

-- what is there stays there
pub with_there : (heads : List Head) (h : Head) (d : List ℕ) → first_under d heads ≢ None → first_under d (with_head heads h) ≢ None
with_there heads h d there none = by (pointwise nat_eq d h.digest) (sym (first_with heads h d) ∙ none)
  where
    by : (b : Bool) → cond b (Some h) (first_under d heads) ≡ None → ⊥
    by true is = absurd cc
    by false is = there is

-- and so is what was taken
pub with_here : (heads : List Head) (h : Head) (d : List ℕ) → d ≡ h.digest → first_under d (with_head heads h) ≢ None
with_here heads h d same none =
    let found = ap (λ (b : Bool). cond b (Some h) (first_under d heads)) (same_bytes d h.digest same) in
    let both : Some h ≡ None = sym found ∙ sym (first_with heads h d) ∙ none in
    absurd cc

-- what holds of all and of one more
pub with_all : (P : Head → Type 0) (heads : List Head) (h : Head) → All P heads → P h → All P (with_head heads h)
with_all P [] h all is = All-cons P h [] is (All-nil P)
with_all P (k ∷ heads) h all is = by (with_all P heads h (All-tail P k heads all) is) (pointwise nat_eq h.digest k.digest)
  where
    by : All P (with_head heads h) → (b : Bool) → All P (cond b (h ∷ heads) (k ∷ with_head heads h))
    by later true = All-cons P h heads is (All-tail P k heads all)
    by later false = All-cons P k (with_head heads h) (All-head P k heads all) later

pub with_each : (P : Head → Type 0) (heads more : List Head) → All P heads → All P more → All P (with_heads heads more)
with_each P heads [] all each = all
with_each P heads (h ∷ more) all each =
    with_each P (with_head heads h) more (with_all P heads h all (All-head P h more each)) (All-tail P h more each)

-- heads that are taken in two parts
pub with_joined : (heads a b : List Head) → with_heads heads (a ++ b) ≡ with_heads (with_heads heads a) b
with_joined heads [] b = refl
with_joined heads (h ∷ a) b = with_joined (with_head heads h) a b

-- what a table has once an entry is put
pub put_in : (entries : List (List ℕ × Place)) (digest : List ℕ) (place : Place)
    → map head_at (insert_entry (pointwise nat_eq) entries digest place) ≡ with_head (map head_at entries) (head_by digest place)
put_in [] digest place = refl
put_in (e ∷ entries) digest place = by (put_in entries digest place) (pointwise nat_eq digest e.0) refl
  where
    by : map head_at (insert_entry (pointwise nat_eq) entries digest place) ≡ with_head (map head_at entries) (head_by digest place)
        → (b : Bool) → pointwise nat_eq digest e.0 ≡ b
        → map head_at (cond b ((e.0, place) ∷ entries) (e ∷ insert_entry (pointwise nat_eq) entries digest place))
        ≡ cond b (head_by digest place ∷ map head_at entries) (head_at e ∷ with_head (map head_at entries) (head_by digest place))
    by later true same =
        let key : e.0 ≡ digest = sym ((bytes_decides digest e.0).0 same) in
        ap (λ (d : List ℕ). head_by d place ∷ map head_at entries) key
    by later false other = ap (λ (hs : List Head). head_at e ∷ hs) later

-- ---- putting back

-- the last that was replaced is put back first
pub back_push : (heads replaced : List Head) (u : Head) → back heads (replaced ++ u ∷ []) ≡ back (with_head heads u) replaced
back_push heads [] u = refl
back_push heads (x ∷ replaced) u = ap (λ (hs : List Head). with_head hs x) (back_push heads replaced u)

-- what is there stays there where others are put back
pub back_there : (heads replaced : List Head) (d : List ℕ) → first_under d heads ≢ None → first_under d (back heads replaced) ≢ None
back_there heads [] d there = there
back_there heads (x ∷ replaced) d there = with_there (back heads replaced) x d (back_there heads replaced d there)

-- and what stands behind the others is let alone
pub back_front : (heads replaced : List Head) (h : Head) → AreThere heads replaced → back (heads ++ h ∷ []) replaced ≡ back heads replaced ++ h ∷ []
back_front heads [] h there = refl
back_front heads (x ∷ replaced) h (here, rest) =
    ap (λ (hs : List Head). with_head hs x) (back_front heads replaced h rest)
    ∙ with_front (back heads replaced) (h ∷ []) x (back_there heads replaced x.digest here)

-- what was replaced is there with one head more
pub there_with : (heads replaced : List Head) (h : Head) → AreThere heads replaced → AreThere (with_head heads h) replaced
there_with heads [] h there = tt
there_with heads (x ∷ replaced) h (here, rest) = (with_there heads h x.digest here, there_with heads replaced h rest)

pub there_push : (heads replaced : List Head) (u : Head) → AreThere heads replaced → first_under u.digest heads ≢ None
    → AreThere heads (replaced ++ u ∷ [])
there_push heads [] u there here = (here, tt)
there_push heads (x ∷ replaced) u (first, rest) here = (first, there_push heads replaced u rest here)

pub there_last : (heads replaced : List Head) (u : Head) → AreThere heads (replaced ++ u ∷ [])
    → AreThere heads replaced × (first_under u.digest heads ≢ None)
there_last heads [] u (here, rest) = (tt, here)
there_last heads (x ∷ replaced) u (first, rest) =
    let later = there_last heads replaced u rest in
    ((first, later.0), later.1)

some_there : (o : Option Head) (u : Head) → o ≡ Some u → o ≢ None
some_there o u is none = let both : Some u ≡ None = sym is ∙ none in absurd cc

module _ (first heads replaced : List Head) (undone : IsUndone first heads replaced) where
  -- what is kept of the head that is there can be put back at once,
  pub kept_same : (u : Head) → first_under u.digest heads ≡ Some u → IsUndone first heads (replaced ++ u ∷ [])
  kept_same u is = record {
    more = undone.more;
    are = back_push heads replaced u ∙ ap (λ (hs : List Head). back hs replaced) (with_own heads u is) ∙ undone.are;
    there = there_push heads replaced u undone.there (some_there (first_under u.digest heads) u is);
  }

  -- or once another is in its place
  pub kept_next : (u h : Head) → first_under u.digest heads ≡ Some u → u.digest ≡ h.digest
      → IsUndone first (with_head heads h) (replaced ++ u ∷ [])
  kept_next u h is same = record {
    more = undone.more;
    are = back_push (with_head heads h) replaced u
        ∙ ap (λ (hs : List Head). back hs replaced) (with_twice heads h u same ∙ with_own heads u is) ∙ undone.are;
    there = there_push (with_head heads h) replaced u (there_with heads replaced h undone.there)
        (with_there heads h u.digest (some_there (first_under u.digest heads) u is));
  }

  -- a head whose digest none had stands behind the first ones
  pub new_next : (h : Head) → first_under h.digest heads ≡ None → IsUndone first (with_head heads h) replaced
  new_next h none = record {
    more = undone.more ++ h ∷ [];
    are = ap (λ (hs : List Head). back hs replaced) (with_new heads h none) ∙ back_front heads replaced h undone.there
        ∙ ap (λ (hs : List Head). hs ++ h ∷ []) undone.are ∙ append_assoc first undone.more (h ∷ []);
    there = there_with heads replaced h undone.there;
  }

-- the last is put back
pub undone_last : (first heads replaced : List Head) (u : Head) → IsUndone first heads (replaced ++ u ∷ [])
    → IsUndone first (with_head heads u) replaced
undone_last first heads replaced u undone = record {
  more = undone.more;
  are = sym (back_push heads replaced u) ∙ undone.are;
  there = there_with heads replaced u (there_last heads replaced u undone.there).0;
}

-- nothing was replaced
pub undone_none : (heads : List Head) → IsUndone heads heads []
undone_none heads = record { more = []; are = sym (append-nil heads); there = tt }

-- A refused group can be undone.
pub put_back : (old new : List Head) (begun group : Group) → IsBegun begun
    → ((first : List Head) → IsUndone first old (replaced_in begun) → IsUndone first new (replaced_in group))
    → IsUndone old new (replaced_in group)
put_back old new begun group it undone =
    undone old (subst (λ (rs : List (List ℕ × Place)). IsUndone old old (map head_at rs)) (sym it.replaced) (undone_none old))
