-- Looking a digest up.
use denote.Ref.{Bor}
use Rattle.std.specs.Option.{option_copied}
use Rattle.std.proofs.lemmas.List.Elements.{All-head, All-tail}
use Rattle.std.proofs.Common.{All, IfSome, is_some, length, get_or, ◌<◌, subst, ◌≡◌, ℕ, zero, suc, List, [], ◌∷◌, ◌++◌, Bool, true, false, cond, nat_eq}
use Rattle.std.proofs.Common.{Option, Some, None, map, refl, sym, ◌∙◌, ap, Contains, arith, true≢false}
use Rattle.std.proofs.lemmas.List.Quantifiers.{position-Some}
use Rattle.std.specs.List.{AllByRecursion, IsDistinct, position}
use Rattle.std.specs.Map.{keys_of, lookup}
use Rattle.std.specs.Cmp.Lexicographic.{pointwise, bytes_decides}
use Rattle.op_log.specs.declared.place.Place.{Place}
use Rattle.op_log.specs.Heads.{Head}
use Rattle.op_log.specs.Kept.{HaveOwnDigests, first_under}
use Rattle.op_log.specs.Places.{HasDigestAt, head_at, head_by}

-- a lookup by equal bytes
abbrev pub under : List ℕ → List (List ℕ × Place) → Option Place
under digest entries = lookup (pointwise nat_eq digest) entries

-- what is found is the first head
pub found : (entries : List (List ℕ × Place)) (digest : List ℕ) (place : Place) → under digest entries ≡ Some place
    → first_under digest (map head_at entries) ≡ Some (head_by digest place)
found [] digest place is = absurd cc
found (e ∷ entries) digest place is = by (found entries digest place) (pointwise nat_eq digest e.0) refl is
  where
    by : (under digest entries ≡ Some place → first_under digest (map head_at entries) ≡ Some (head_by digest place)) → (b : Bool)
        → pointwise nat_eq digest e.0 ≡ b → cond b (Some e.1) (under digest entries) ≡ Some place
        → cond b (Some (head_at e)) (first_under digest (map head_at entries)) ≡ Some (head_by digest place)
    by later true same is =
        let it : e.1 ≡ place = cc in
        ap (λ (d : List ℕ). Some (head_by d e.1)) (sym ((bytes_decides digest e.0).0 same)) ∙ ap (λ (p : Place). Some (head_by digest p)) it
    by later false other is = later is

-- and where none is found, there is none
pub absent : (entries : List (List ℕ × Place)) (digest : List ℕ) → under digest entries ≡ None
    → first_under digest (map head_at entries) ≡ None
absent [] digest is = refl
absent (e ∷ entries) digest is = by (absent entries digest) (pointwise nat_eq digest e.0) is
  where
    by : (under digest entries ≡ None → first_under digest (map head_at entries) ≡ None) → (b : Bool) → cond b (Some e.1) (under digest entries) ≡ None
        → cond b (Some (head_at e)) (first_under digest (map head_at entries)) ≡ None
    by later true is = absurd cc
    by later false is = later is

-- and back
pub absent_under : (entries : List (List ℕ × Place)) (digest : List ℕ) → first_under digest (map head_at entries) ≡ None
    → under digest entries ≡ None
absent_under [] digest is = refl
absent_under (e ∷ entries) digest is = by (absent_under entries digest) (pointwise nat_eq digest e.0) is
  where
    by : (first_under digest (map head_at entries) ≡ None → under digest entries ≡ None) → (b : Bool) → cond b (Some (head_at e)) (first_under digest (map head_at entries)) ≡ None
        → cond b (Some e.1) (under digest entries) ≡ None
    by later true is = absurd cc
    by later false is = later is

-- a head that is found stays so where others come behind it
pub still_first : (heads more : List Head) (digest : List ℕ) (h : Head) → first_under digest heads ≡ Some h
    → first_under digest (heads ++ more) ≡ Some h
still_first [] more digest h is = absurd cc
still_first (x ∷ heads) more digest h is = by (still_first heads more digest h) (pointwise nat_eq digest x.digest) is
  where
    by : (first_under digest heads ≡ Some h → first_under digest (heads ++ more) ≡ Some h) → (b : Bool) → cond b (Some x) (first_under digest heads) ≡ Some h
        → cond b (Some x) (first_under digest (heads ++ more)) ≡ Some h
    by later true is = is
    by later false is = later is

-- and where none is found, the first of the others is
pub first_behind : (heads more : List Head) (digest : List ℕ) → first_under digest heads ≡ None
    → first_under digest (heads ++ more) ≡ first_under digest more
first_behind [] more digest is = refl
first_behind (x ∷ heads) more digest is = by (first_behind heads more digest) (pointwise nat_eq digest x.digest) is
  where
    by : (first_under digest heads ≡ None → first_under digest (heads ++ more) ≡ first_under digest more) → (b : Bool) → cond b (Some x) (first_under digest heads) ≡ None
        → cond b (Some x) (first_under digest (heads ++ more)) ≡ first_under digest more
    by later true is = absurd cc
    by later false is = later is

-- a head is the first with its own digest where it stands alone
pub own : (h : Head) → first_under h.digest (h ∷ []) ≡ Some h
own h = ap (λ (b : Bool). cond b (Some h) None) ((bytes_decides h.digest h.digest).1 refl)

-- what is found has the digest
pub has_digest : (heads : List Head) (digest : List ℕ) (h : Head) → first_under digest heads ≡ Some h → h.digest ≡ digest
has_digest [] digest h is = absurd cc
has_digest (x ∷ heads) digest h is = by (has_digest heads digest h) (pointwise nat_eq digest x.digest) refl is
  where
    by : (first_under digest heads ≡ Some h → h.digest ≡ digest) → (b : Bool) → pointwise nat_eq digest x.digest ≡ b → cond b (Some x) (first_under digest heads) ≡ Some h
        → h.digest ≡ digest
    by later true same is =
        let it : x ≡ h = cc in
        ap (λ (y : Head). y.digest) (sym it) ∙ sym ((bytes_decides digest x.digest).0 same)
    by later false other is = later is

-- what a table answers
pub find_in : (r : Option (Bor Place)) (entries : List (List ℕ × Place)) (digest key : List ℕ) (heads : List Head) → key ≡ digest
    → map head_at entries ≡ heads → option_copied r ≡ under key entries
    → IfSome r (λ place. first_under digest heads ≡ Some (head_by digest place.now))
find_in None entries digest key heads same view is = tt
find_in (Some p) entries digest key heads same view is =
    ap (λ (hs : List Head). first_under digest hs) (sym view)
    ∙ subst (λ (d : List ℕ). first_under d (map head_at entries) ≡ Some (head_by d p.now)) same (found entries key p.now (sym is))

pub find_none : (r : Option (Bor Place)) (entries : List (List ℕ × Place)) (digest key : List ℕ) (heads : List Head) → key ≡ digest
    → map head_at entries ≡ heads → option_copied r ≡ under key entries → r ≡ None → first_under digest heads ≡ None
find_none r entries digest key heads same view is none =
    ap (λ (hs : List Head). first_under digest hs) (sym view)
    ∙ subst (λ (d : List ℕ). first_under d (map head_at entries) ≡ None) same (absent entries key (sym is ∙ ap option_copied none))

-- a key stands where its head does
head_under : (entries : List (List ℕ × Place)) (i : ℕ) (digest : List ℕ) → i < length (keys_of entries)
    → get_or (keys_of entries) i [] ≡ digest → HasDigestAt (map head_at entries) i digest
head_under [] i digest low is = absurd (omega (arith, low))
head_under (e ∷ entries) zero digest low is = (head_at e, refl, is)
head_under (e ∷ entries) (suc i) digest low is = head_under entries i digest (omega (arith, low)) is

-- the index that a table answers
pub index_in : (r : Option ℕ) (entries : List (List ℕ × Place)) (digest key : List ℕ) (heads : List Head) → key ≡ digest
    → map head_at entries ≡ heads → r ≡ position (pointwise nat_eq key) (keys_of entries)
    → IfSome r (λ i. HasDigestAt heads i digest)
index_in None entries digest key heads same view is = tt
index_in (Some i) entries digest key heads same view is =
    let (low, hit, none) = position-Some (pointwise nat_eq key) (keys_of entries) i [] (sym is) in
    subst (λ (hs : List Head). HasDigestAt hs i digest) view
    (head_under entries i digest low (sym ((bytes_decides key (get_or (keys_of entries) i [])).0 hit) ∙ same))

pub index_none : (r : Option ℕ) (entries : List (List ℕ × Place)) (digest key : List ℕ) (heads : List Head) → key ≡ digest
    → map head_at entries ≡ heads → is_some r ≡ is_some (under key entries) → r ≡ None → first_under digest heads ≡ None
index_none r entries digest key heads same view is none =
    ap (λ (hs : List Head). first_under digest hs) (sym view)
    ∙ subst (λ (d : List ℕ). first_under d (map head_at entries) ≡ None) same
    (absent entries key (no_place (under key entries) (sym is ∙ ap is_some none)))
  where
    no_place : (o : Option Place) → is_some o ≡ false → o ≡ None
    no_place None is = refl
    no_place (Some place) is = absurd (true≢false is)

-- what is found is among the others
pub among : (P : Head → Type 0) (heads : List Head) (digest : List ℕ) (h : Head) → first_under digest heads ≡ Some h → All P heads → P h
among P [] digest h is all = absurd cc
among P (x ∷ heads) digest h is all =
    by (λ later. among P heads digest h later (All-tail P x heads all)) (pointwise nat_eq digest x.digest) is
  where
    by : (first_under digest heads ≡ Some h → P h) → (b : Bool) → cond b (Some x) (first_under digest heads) ≡ Some h → P h
    by among_later true is = let it : x ≡ h = cc in subst P it (All-head P x heads all)
    by among_later false is = among_later is

-- where the keys are distinct, each head is the first with its digest
pub own_digests : (entries : List (List ℕ × Place)) → IsDistinct (pointwise nat_eq) (keys_of entries)
    → HaveOwnDigests (map head_at entries)
unfolding IsDistinct
own_digests [] apart h (n, low, at) = absurd (omega (arith, low))
own_digests (e ∷ entries) (first, rest) h (zero, low, at) =
    subst (λ (k : Head). first_under k.digest (map head_at (e ∷ entries)) ≡ Some k) at
    (ap (λ (b : Bool). cond b (Some (head_at e)) (first_under e.0 (map head_at entries)))
    ((bytes_decides e.0 e.0).1 refl))
own_digests (e ∷ entries) (first, rest) h (suc n, low, at) =
    let there : Contains (map head_at entries) h = (n, omega (arith, low), at) in
    ap (λ (b : Bool). cond b (Some (head_at e)) (first_under h.digest (map head_at entries)))
    (other entries h first there) ∙ own_digests entries rest h there
  where
    none : (x : List ℕ) (b : Bool) → pointwise nat_eq x e.0 ≡ b → pointwise nat_eq e.0 x ≡ false → b ≡ false
    none x true same apart = absurd (true≢false (sym ((bytes_decides e.0 x).1 (sym ((bytes_decides x e.0).0 same))) ∙ apart))
    none x false same apart = refl

    other : (es : List (List ℕ × Place)) (h : Head) → AllByRecursion (λ y. pointwise nat_eq e.0 y ≡ false) (keys_of es)
        → Contains (map head_at es) h → pointwise nat_eq h.digest e.0 ≡ false
    other [] h all (n, low, at) = absurd (omega (arith, low))
    other (x ∷ es) h (first, rest) (zero, low, at) =
        subst (λ (k : Head). pointwise nat_eq k.digest e.0 ≡ false) at (none x.0 _ refl first)
    other (x ∷ es) h (first, rest) (suc n, low, at) = other es h rest (n, omega (arith, low), at)
