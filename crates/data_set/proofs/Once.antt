-- A text is read in one way: whatever is read from it, or offends in it, is so once.
use Rattle.std.proofs.Common.{inl, inr, ◌≡◌, ℕ, zero, suc, List, [], ◌∷◌, Option, Some, None, Result, Ok, Err, refl}
use Rattle.std.proofs.Common.{sym, ap, subst, ◌∙◌}
use Rattle.std.proofs.lemmas.Option.{same_Some as some_is}
use Rattle.data_set.specs.declared.fault.SetFault.{SetFault}
use Rattle.data_set.specs.declared.syntax.Syntax.{Syntax}
use Rattle.data_set.specs.declared.header.Closing.{Closing}
use Rattle.octets.specs.Gives.{◌>>=◌}
use Rattle.data_set.specs.Tree.{Tree, node, rows_of}
use Rattle.data_set.specs.Tags.{item_end, sequence_end}
use Rattle.data_set.specs.Header.{end_at, front_at, item_at}
use Rattle.data_set.specs.Spelling.{Begins, BeginsItem}
use Rattle.data_set.specs.Texts.{All_of, Behind, Body, ElementOver, Elements, Given, HasContent, IsElement, IsItem}
use Rattle.data_set.specs.Texts.{Takes, after_tag, behind, closing_of, no_order, place_of}
use Rattle.data_set.proofs.HeaderLaws.{front_again, item_again}

abbrev pub Once : {Y : Type 0} → (Y → Type 0) → Type 0
Once {Y} Is = (a b : Y) → Is a → Is b → a ≡ b

abbrev given_ok : {A : Type 0} → A → Result A SetFault
given_ok x = Ok x

abbrev given_err : (A : Type 0) → SetFault → Result A SetFault
given_err A f = Err f

ok_is : {A : Type 0} (x y : A) → given_ok x ≡ given_ok y → x ≡ y
ok_is x y e = cc

err_is : (A : Type 0) (f g : SetFault) → given_err A f ≡ given_err A g → f ≡ g
err_is A f g e = cc

ok_or_err : {A : Type 0} (x : A) (f : SetFault) → given_ok x ≡ given_err A f → ⊥
ok_or_err x f e = cc

some_or_none : (o : Option (List ℕ)) (x : List ℕ) → o ≡ Some x → o ≡ None → ⊥
some_or_none o x a b = cc

-- nothing more is taken here
abbrev Stops : {X : Type 0} → (Option ℕ → List ℕ → Given X → Type 0) → Closing → Option ℕ → List ℕ → Type 0
Stops {X} One closing last rest = (x : X) (after : List ℕ) → end_at closing rest ≡ None → One last rest (Ok (x, after))
    → ⊥

stops_here : {X : Type 0} (One : Option ℕ → List ℕ → Given X → Type 0) (closing : Closing) (p last : Option ℕ)
    (text rest : List ℕ) → last ≡ p → rest ≡ text → Stops One closing last rest → Stops One closing p text
stops_here One closing p last text rest a b stops = subst (λ (q : Option ℕ). Stops One closing q text)
    a (subst (λ (t : List ℕ). Stops One closing last t) b stops)

pub one_reading : {X : Type 0} (One : Option ℕ → List ℕ → Given X → Type 0) (next : X → Option ℕ) (closing : Closing)
    → ((p : Option ℕ) (t : List ℕ) → Once (One p t))
    → (p : Option ℕ) (text : List ℕ) (xs ys : List X) (l m : Option ℕ) (r s : List ℕ)
    → Takes One next closing p text xs l r → Takes One next closing p text ys m s → Stops One closing l r
    → Stops One closing m s → (xs ≡ ys) × (l ≡ m) × (r ≡ s)
one_reading One next closing once p text [] [] l m r s a b stops stops' = (refl, a.0 ∙ sym b.0, a.1 ∙ sym b.1)
one_reading One next closing once p text [] (y ∷ ys) l m r s a b stops stops' =
    absurd (stops_here One closing p l text r a.0 a.1 stops y b.0 b.1 b.2)
one_reading One next closing once p text (x ∷ xs) [] l m r s a b stops stops' =
    absurd (stops_here One closing p m text s b.0 b.1 stops' x a.0 a.1 a.2)
one_reading {X} One next closing once p text (x ∷ xs) (y ∷ ys) l m r s a b stops stops' =
    let same : (x, a.0) ≡ (y, b.0) = ok_is (x, a.0) (y, b.0) (once p text (Ok (x, a.0)) (Ok (y, b.0)) a.2 b.2) in
    let rest : Takes One next closing (next x) a.0 ys m s = subst (λ (z : X × List ℕ). Takes One next closing (next z.0)
    z.1 ys m s) (sym same) b.3 in
    let more = one_reading One next closing once (next x) a.0 xs ys l m r s a.3 rest stops stops' in
    (ap (λ (z : X). z ∷ xs) (ap (λ (z : X × List ℕ). z.0) same) ∙ ap (λ (zs : List X). y ∷ zs) more.0, more.1, more.2)

stand_stops : {X : Type 0} (One : Option ℕ → List ℕ → Given X → Type 0) (closing : Closing) (last : Option ℕ)
    (rest after : List ℕ) → end_at closing rest ≡ Some after → Stops One closing last rest
stand_stops One closing last rest after ends x behind none one = some_or_none (end_at closing rest) after ends none

offend_stops : {X : Type 0} (One : Option ℕ → List ℕ → Given X → Type 0) (closing : Closing)
    → ((p : Option ℕ) (t : List ℕ) → Once (One p t)) → (last : Option ℕ) (rest : List ℕ) (f : SetFault)
    → One last rest (Err f) → Stops One closing last rest
offend_stops One closing once last rest f offends x after none one = ok_or_err (x, after)
    f (once last rest (Ok (x, after)) (Err f) one offends)

pub all_once : {X : Type 0} (One : Option ℕ → List ℕ → Given X → Type 0) (next : X → Option ℕ)
    → ((p : Option ℕ) (t : List ℕ) → Once (One p t)) → (closing : Closing) (text : List ℕ)
    → Once (All_of One next closing text)
all_once {X} One next once closing text (Ok x) (Ok y) a b =
    let w = one_reading One next closing once None text x.0 y.0 a.last b.last a.rest b.rest a.takes
    b.takes (stand_stops One closing a.last a.rest x.1 a.ends) (stand_stops One closing b.last b.rest y.1 b.ends) in
    let after : x.1 ≡ y.1 = some_is x.1 y.1 (sym a.ends ∙ ap (end_at closing) w.2 ∙ b.ends) in
    ap (λ (xs : List X). given_ok (xs, x.1)) w.0 ∙ ap (λ (t : List ℕ). given_ok (y.0, t)) after
all_once One next once closing text (Ok x) (Err g) a b =
    let w = one_reading One next closing once None text x.0 b.before a.last b.last a.rest b.rest a.takes
    b.takes (stand_stops One closing a.last a.rest x.1 a.ends) (offend_stops One closing once b.last b.rest g
    b.offends) in
    absurd (some_or_none (end_at closing a.rest) x.1 a.ends (ap (end_at closing) w.2 ∙ b.open_still))
all_once One next once closing text (Err f) (Ok y) a b =
    let w = one_reading One next closing once None text a.before y.0 a.last b.last a.rest b.rest a.takes
    b.takes (offend_stops One closing once a.last a.rest f a.offends) (stand_stops One closing b.last b.rest y.1
    b.ends) in
    absurd (some_or_none (end_at closing a.rest) y.1 (ap (end_at closing) w.2 ∙ b.ends) a.open_still)
all_once {X} One next once closing text (Err f) (Err g) a b =
    let w = one_reading One next closing once None text a.before b.before a.last b.last a.rest b.rest a.takes
    b.takes (offend_stops One closing once a.last a.rest f a.offends) (offend_stops One closing once b.last b.rest g
    b.offends) in
    let there : One b.last b.rest (Err f) = subst (λ (q : Option ℕ). One q b.rest (Err f))
    w.1 (subst (λ (t : List ℕ). One a.last t (Err f)) w.2 a.offends) in
    ap (given_err (List X × List ℕ)) (err_is (X × List ℕ) f g (once b.last b.rest (Err f) (Err g) there b.offends))

pub body_once : {X : Type 0} (Run : Closing → List ℕ → Given X → Type 0)
    → ((closing : Closing) (t : List ℕ) → Once (Run closing t)) → (tag size : ℕ) (text : List ℕ)
    → Once (Body Run tag size text)
body_once {X} Run once tag size text a b x y =
    x.2 ∙ ap (λ (i : Given X). i >>= λ z. Ok (z.0, behind size text z.1))
    (once (closing_of tag size) (place_of size text) x.0 y.0 x.1 y.1) ∙ sym y.2

-- the same by what the step computes
abbrev ByStep : {H X : Type 0} → Given H → (H → List ℕ → Given X → Type 0) → Given X → Type 0
ByStep (Ok h) More r = More h.0 h.1 r
ByStep (Err f) More r = r ≡ Err f

by_step : {H X : Type 0} (At : Given H) (Stands : H → List ℕ → Type 0) (More : H → List ℕ → Given X → Type 0)
    → ((h : H) (t : List ℕ) → Stands h t → At ≡ Ok (h, t)) → (r : Given X) → Behind At Stands More r → ByStep At More r
by_step At Stands More again (Ok x) (h, rest, stands, more) = rw (again h rest stands) more
by_step At Stands More again (Err f) (inl e) = rw e refl
by_step At Stands More again (Err f) (inr (h, rest, stands, more)) = rw (again h rest stands) more

step_once : {H X : Type 0} (At : Given H) (More : H → List ℕ → Given X → Type 0)
    → ((h : H) (t : List ℕ) → Once (More h t)) → Once (ByStep At More)
step_once (Ok h) More once a b x y = once h.0 h.1 a b x y
step_once (Err f) More once a b x y = x ∙ sym y

pub behind_once : {H X : Type 0} (At : Given H) (Stands : H → List ℕ → Type 0) (More : H → List ℕ → Given X → Type 0)
    → ((h : H) (t : List ℕ) → Stands h t → At ≡ Ok (h, t)) → ((h : H) (t : List ℕ) → Once (More h t))
    → Once (Behind At Stands More)
behind_once At Stands More again once a b x y = step_once At More once a b (by_step At Stands More again a x)
    (by_step At Stands More again b y)

content_once : (Item : Syntax → Option ℕ → List ℕ → Given (List Tree) → Type 0)
    → ((s : Syntax) (p : Option ℕ) (t : List ℕ) → Once (Item s p t)) → (tag : ℕ) (vr : Option (List ℕ)) (size : ℕ)
    (inner : Option Syntax) (rest : List ℕ) → Once (HasContent Item tag vr size inner rest)
content_once Item once tag vr size None rest a b x y = x ∙ sym y
content_once Item once tag vr size (Some inner) rest a b x y =
    let same = body_once (All_of (Item inner) no_order) (all_once (Item inner) no_order (once inner)) sequence_end size
    rest x.0 y.0 x.1 y.1 in
    x.2 ∙ ap (λ (i : Given (List (List Tree))). i >>= λ z. Ok (node tag vr (rows_of z.0), z.1)) same ∙ sym y.2

element_over_once : (Item : Syntax → Option ℕ → List ℕ → Given (List Tree) → Type 0)
    → ((s : Syntax) (p : Option ℕ) (t : List ℕ) → Once (Item s p t)) → (s : Syntax) (p : Option ℕ) (t : List ℕ)
    → Once (ElementOver Item s p t)
element_over_once Item once s p t =
    behind_once (front_at s p t) (Begins s p t) (λ front rest r. HasContent Item front.tag front.vr front.size
    front.inner rest r) (front_again s p t) (λ front rest. content_once Item once front.tag front.vr front.size
    front.inner rest)

pub item_once : (n : ℕ) (s : Syntax) (p : Option ℕ) (t : List ℕ) → Once (IsItem n s p t)
item_once zero s p t = behind_once (item_at zero t) (BeginsItem zero t) (λ size rest r. ⊥) (item_again zero t)
    (λ size rest a b x y. absurd x)
item_once (suc n) s p t =
    behind_once (item_at (suc n) t) (BeginsItem (suc n) t)
    (λ size rest r. Body (All_of (ElementOver (IsItem n) s) after_tag) item_end size rest r) (item_again (suc n) t)
    (λ size rest. body_once (All_of (ElementOver (IsItem n) s) after_tag) (all_once (ElementOver (IsItem n) s)
    after_tag (element_over_once (IsItem n) (item_once n) s)) item_end size rest)

-- whatever elements are read from a text, or offend in it, are so once
pub elements_once : (n : ℕ) (s : Syntax) (closing : Closing) (t : List ℕ) → Once (Elements n s closing t)
elements_once n s closing t = all_once (IsElement n s) after_tag (element_over_once (IsItem n) (item_once n) s) closing
    t
