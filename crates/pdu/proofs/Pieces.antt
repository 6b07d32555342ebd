-- Pieces one after the other, as a loop reads them.
use Rattle.std.proofs.Common.{◌≡◌, ◌≢◌, ℕ, zero, suc, ◌≤◌, ◌<◌, List, [], ◌∷◌, ◌++◌, length, Result, Ok, Err, refl, sym}
use Rattle.std.proofs.Common.{ap, subst, ◌∙◌, append_assoc, arith}
use Rattle.std.proofs.lemmas.List.{append-nil}
use Rattle.octets.specs.Gives.{◌>>=◌}
use Rattle.pdu.specs.declared.fault.PduFault.{PduFault}
use Rattle.pdu.specs.Fault.{Gives, is_memory}
use Rattle.octets.proofs.ByteLaws.{bind_ok, ok_is, told_map}
use Rattle.pdu.specs.Grammar.{Fill, Each, Sole}
use Rattle.pdu.specs.Reading.{Piece, pieces_in, pieces_of, each_at, sole_at}

-- a piece takes a byte or more
abbrev pub Shortens : {V : Type 0} → (List ℕ → Piece V) → Type 0
Shortens {V} at = (text : List ℕ) (x : V × List ℕ) → at text ≡ Ok x → length x.1 < length text

-- what was read before, and what is still read
abbrev pub with_front : {V : Type 0} → List V → Result (List V) PduFault → Result (List V) PduFault
with_front front read = read >>= λ others. Ok (front ++ others)

bind_same : {A B : Type 0} (r : Result A PduFault) (f g : A → Result B PduFault) → ((x : A) → r ≡ Ok x → f x ≡ g x)
    → (r >>= f) ≡ (r >>= g)
bind_same (Ok x) f g h = h x refl
bind_same (Err e) f g h = refl

-- more tries change nothing
enough : {V : Type 0} (at : List ℕ → Piece V) (shorter : Shortens at) (n m : ℕ) (text : List ℕ) → length text ≤ n
    → length text ≤ m → pieces_in at n text ≡ pieces_in at m text
enough at shorter n m [] p q = refl
enough at shorter zero m (b ∷ bs) p q = absurd (omega arith)
enough at shorter (suc n) zero (b ∷ bs) p q = absurd (omega arith)
enough {V} at shorter (suc n) (suc m) (b ∷ bs) p q =
    bind_same (at (b ∷ bs)) _ _ (λ x is. ap (λ (r : Result (List V) PduFault). r >>= λ others. Ok (x.0 ∷ others))
    (enough at shorter n m x.1 (omega (arith, shorter (b ∷ bs) x is)) (omega (arith, shorter (b ∷ bs) x is))))

pub pieces-none : {V : Type 0} (at : List ℕ → Piece V) → pieces_of at [] ≡ Ok []
unfolding pieces_of
pieces-none at = refl

-- the first piece, and the others
pub pieces-more : {V : Type 0} (at : List ℕ → Piece V) (shorter : Shortens at) (text : List ℕ) → text ≢ []
    → pieces_of at text ≡ (at text >>= λ x. with_front (x.0 ∷ []) (pieces_of at x.1))
unfolding pieces_of
pieces-more at shorter [] some = absurd (some refl)
pieces-more {V} at shorter (b ∷ bs) some =
    bind_same (at (b ∷ bs)) _ _ (λ x is. ap (λ (r : Result (List V) PduFault). r >>= λ others. Ok (x.0 ∷ others))
    (enough at shorter (length bs) (length x.1) x.1 (omega (arith, shorter (b ∷ bs) x is)) (omega arith)))

regroup : {V : Type 0} (front : List V) (v : V) (read : Result (List V) PduFault)
    → with_front front (with_front (v ∷ []) read) ≡ with_front (front ++ v ∷ []) read
regroup front v (Ok x) = ap Ok (sym (append_assoc front (v ∷ []) x))
regroup front v (Err f) = refl

pub with_nothing : {V : Type 0} (read : Result (List V) PduFault) → with_front [] read ≡ read
with_nothing (Ok x) = refl
with_nothing (Err e) = refl

-- one piece more was read
pub goes_on : {V : Type 0} (at : List ℕ → Piece V) (shorter : Shortens at) (front : List V) (text : List ℕ)
    (x : V × List ℕ) (total : Result (List V) PduFault) → text ≢ [] → at text ≡ Ok x
    → with_front front (pieces_of at text) ≡ total → with_front (front ++ x.0 ∷ []) (pieces_of at x.1) ≡ total
goes_on {V} at shorter front text x total some is so_far =
    let one : pieces_of at text ≡ with_front (x.0 ∷ []) (pieces_of at x.1) = pieces-more at shorter text some
    ∙ ap (λ (r : Piece V). r >>= λ y. with_front (y.0 ∷ []) (pieces_of at y.1)) is in
    sym (regroup front x.0 (pieces_of at x.1)) ∙ ap (with_front front) (sym one) ∙ so_far

-- no piece stands there
pub ends : {V : Type 0} (at : List ℕ → Piece V) (shorter : Shortens at) (front : List V) (text : List ℕ) (e : PduFault)
    (total : Result (List V) PduFault) → text ≢ []
    → Gives (Err e) (at text) → with_front front (pieces_of at text) ≡ total → Gives (Err e) total
ends {V} at shorter front text e total some gives so_far = told_map is_memory e (λ f. at text ≡ Err f)
    (λ f. total ≡ Err f) faulty gives
  where
    faulty : at text ≡ Err e → total ≡ Err e
    faulty h = sym so_far ∙ ap (with_front front) (pieces-more at shorter text some
        ∙ ap (λ (r : Piece V). r >>= λ y. with_front (y.0 ∷ []) (pieces_of at y.1)) h)

pub is_done : {V : Type 0} (at : List ℕ → Piece V) (front : List V) (text : List ℕ) (total : Result (List V) PduFault)
    → text ≡ [] → with_front front (pieces_of at text) ≡ total → total ≡ Ok front
is_done at front text total e so_far =
    sym so_far ∙ ap (λ (t : List ℕ). with_front front (pieces_of at t)) e ∙ ap (with_front front) (pieces-none at)
    ∙ ap Ok (append-nil front)

-- ---- what is read is there, and what is there is read

-- each piece that is read begins the text
abbrev pub Found : {V : Type 0} → (List ℕ → Piece V) → (V → List ℕ → List ℕ → Type 0) → Type 0
Found {V} at Begins = (text : List ℕ) (x : V × List ℕ) → at text ≡ Ok x → Begins x.0 text x.1

-- each piece that begins a text is read there
abbrev pub Again : {V : Type 0} → (List ℕ → Piece V) → (V → List ℕ → List ℕ → Type 0) → Type 0
Again {V} at Begins = (v : V) (text rest : List ℕ) → Begins v text rest → at text ≡ Ok (v, rest)

found_in : {V : Type 0} (at : List ℕ → Piece V) (Begins : V → List ℕ → List ℕ → Type 0) → Found at Begins
    → (n : ℕ) (text : List ℕ) (vs : List V) → pieces_in at n text ≡ Ok vs → Fill Begins vs text
found_in at Begins found n [] vs e = subst (λ us. Fill Begins us []) (ok_is PduFault [] vs e) refl
found_in at Begins found zero (b ∷ bs) vs e = absurd cc
found_in {V} at Begins found (suc n) (b ∷ bs) vs e =
    let first = bind_ok (at (b ∷ bs)) (λ x. pieces_in at n x.1 >>= λ others. Ok (x.0 ∷ others)) vs e in
    let others = bind_ok (pieces_in at n first.0.1) (λ others. Ok (first.0.0 ∷ others)) vs first.2 in
    subst (λ us. Fill Begins us (b ∷ bs)) (ok_is PduFault (first.0.0 ∷ others.0) vs others.2)
    (first.0.1, found (b ∷ bs) first.0 first.1, found_in at Begins found n first.0.1 others.0 others.1)

pub pieces-found : {V : Type 0} (at : List ℕ → Piece V) (Begins : V → List ℕ → List ℕ → Type 0) → Found at Begins
    → (text : List ℕ) (vs : List V) → pieces_of at text ≡ Ok vs → Fill Begins vs text
unfolding pieces_of
pieces-found at Begins found text vs e = found_in at Begins found (length text) text vs e

pub pieces-again : {V : Type 0} (at : List ℕ → Piece V) (Begins : V → List ℕ → List ℕ → Type 0) → Shortens at
    → Again at Begins → (vs : List V) (text : List ℕ) → Fill Begins vs text → pieces_of at text ≡ Ok vs
pieces-again at Begins shorter again [] text fill = ap (pieces_of at) fill ∙ pieces-none at
pieces-again {V} at Begins shorter again (v ∷ vs) text fill =
    let is = again v text fill.0 fill.1 in
    pieces-more at shorter text (λ e. absurd (omega (arith, shorter text (v, fill.0) is, ap length e)))
    ∙ ap (λ (r : Piece V). r >>= λ x. with_front (x.0 ∷ []) (pieces_of at x.1)) is
    ∙ ap (with_front (v ∷ [])) (pieces-again at Begins shorter again vs fill.0 fill.2)

-- the same of contents
abbrev pub FoundIn : {V : Type 0} → (List ℕ → Result V PduFault) → (V → List ℕ → Type 0) → Type 0
FoundIn {V} at Is = (content : List ℕ) (v : V) → at content ≡ Ok v → Is v content

abbrev pub AgainIn : {V : Type 0} → (List ℕ → Result V PduFault) → (V → List ℕ → Type 0) → Type 0
AgainIn {V} at Is = (v : V) (content : List ℕ) → Is v content → at content ≡ Ok v

pub each-found : {V : Type 0} (at : List ℕ → Result V PduFault) (Is : V → List ℕ → Type 0) → FoundIn at Is
    → (contents : List (List ℕ)) (vs : List V) → each_at at contents ≡ Ok vs → Each Is vs contents
each-found at Is found [] vs e = subst (λ us. Each Is us []) (ok_is PduFault [] vs e) tt
each-found at Is found (content ∷ contents) vs e =
    let first = bind_ok (at content) (λ v. each_at at contents >>= λ others. Ok (v ∷ others)) vs e in
    let others = bind_ok (each_at at contents) (λ others. Ok (first.0 ∷ others)) vs first.2 in
    subst (λ us. Each Is us (content ∷ contents)) (ok_is PduFault (first.0 ∷ others.0) vs others.2)
    (found content first.0 first.1, each-found at Is found contents others.0 others.1)

pub each-again : {V : Type 0} (at : List ℕ → Result V PduFault) (Is : V → List ℕ → Type 0) → AgainIn at Is
    → (vs : List V) (contents : List (List ℕ)) → Each Is vs contents → each_at at contents ≡ Ok vs
each-again at Is again [] [] each = refl
each-again at Is again [] (content ∷ contents) each = absurd each
each-again at Is again (v ∷ vs) [] each = absurd each
each-again {V} at Is again (v ∷ vs) (content ∷ contents) each =
    ap (λ (r : Result V PduFault). r >>= λ x. each_at at contents >>= λ others. Ok (x ∷ others))
    (again v content each.0)
    ∙ ap (λ (r : Result (List V) PduFault). r >>= λ others. Ok (v ∷ others)) (each-again at Is again vs contents each.1)

pub sole-found : {V : Type 0} (at : List ℕ → Result V PduFault) (Is : V → List ℕ → Type 0) → FoundIn at Is
    → (contents : List (List ℕ)) (v : V) → sole_at at contents ≡ Ok v → Sole Is v contents
sole-found at Is found [] v e = absurd cc
sole-found at Is found (content ∷ []) v e = (content, refl, found content v e)
sole-found at Is found (content ∷ other ∷ contents) v e = absurd cc

pub sole-again : {V : Type 0} (at : List ℕ → Result V PduFault) (Is : V → List ℕ → Type 0) → AgainIn at Is
    → (v : V) (contents : List (List ℕ)) → Sole Is v contents → sole_at at contents ≡ Ok v
sole-again at Is again v contents sole = ap (sole_at at) sole.1 ∙ again v sole.0 sole.2
