-- The operations of heads.
use Rattle.std.proofs.Common.{◌≡◌, ◌-◌, ◌<◌, ℕ, zero, suc, List, [], ◌∷◌, ◌++◌, length, map, take, drop, slice_get}
use Rattle.std.proofs.Common.{Some, cond, Bool, true, false, nat_eq, Contains, refl, sym, ◌∙◌, ap, subst, arith}
use Rattle.std.proofs.Math.Seq.{take-append_seam, drop-append_seam}
use Rattle.std.proofs.lemmas.List.{map-append, length-take-le}
use Rattle.std.specs.Cmp.Lexicographic.{pointwise}
use Rattle.sqlite_disk.specs.Disk.{Holds}
use Rattle.head_log.proofs.Texts.{once}
use Rattle.operation.specs.declared.op.Op.{Op}
use Rattle.operation.specs.Reading.{IsOp}
use Rattle.operation.specs.Spelling.{spelling, digest_of, hash_of}
use Rattle.operation.proofs.OutcomeLaws.{spelling_once}
use Rattle.op_log.proofs.Spellings.{both_parts}
use Rattle.op_log.specs.Heads.{Head, body_of, front_of, head_of, size_of}
use Rattle.op_log.specs.Kept.{HasBody, first_under}
use Rattle.op_log.specs.Loaded.{IsFrontAnd, IsOf, Lists}
use Rattle.op_log.specs.Places.{head_by}
use Rattle.op_log.specs.Verified.{digests_of}
use Rattle.op_log.specs.declared.place.Place.{Place}

-- where the data set stands behind a front, both are the parts of the operation
pub front_is : (op : Op) (front body : List ℕ) → spelling op ≡ front ++ body → length (spelling op) - size_of op ≡ length front
    → front_of op ≡ front
unfolding front_of
front_is op front body text cut =
    ap (λ (n : ℕ). take n (spelling op)) cut ∙ ap (λ (t : List ℕ). take (length front) t) text ∙ take-append_seam front body

pub body_is : (op : Op) (front body : List ℕ) → spelling op ≡ front ++ body → length (spelling op) - size_of op ≡ length front
    → body_of op ≡ body
unfolding body_of
body_is op front body text cut =
    ap (λ (n : ℕ). drop n (spelling op)) cut ∙ ap (λ (t : List ℕ). drop (length front) t) text ∙ drop-append_seam front body

-- and the front is so long
pub front_long : (op : Op) → length (front_of op) ≡ length (spelling op) - size_of op
unfolding front_of
front_long op = length-take-le (length (spelling op) - size_of op) (spelling op) (omega arith)

-- what was read and tested is the operation of its head
pub is_of : (file : List ℕ) (place : Place) (digest text : List ℕ) (op : Op) → IsOp op → hash_of op ≡ digest → text ≡ spelling op
    → length text - size_of op ≡ length place.front → IsFrontAnd file place text → IsOf file (head_by digest place) op
is_of file place digest text op lawful hashed spelled cut it =
    let whole : spelling op ≡ place.front ++ it.body = sym spelled ∙ it.text_is in
    let long : length (spelling op) - size_of op ≡ length place.front = ap (λ (t : List ℕ). length t - size_of op) (sym spelled) ∙ cut in
    let front = front_is op place.front it.body whole long in
    let body = body_is op place.front it.body whole long in
    let size : place.size ≡ length (body_of op) = sym it.size ∙ ap length (sym body) in
    record {
      lawful = lawful;
      head = λ i. record { digest = sym hashed i; front = sym front i; at = place.at; size = size i };
      held = λ some. subst (λ (b : List ℕ). Holds file place.at b) (sym body) (it.held (omega (arith, some, size)));
    }

-- one more is listed
pub lists_more : (file : List ℕ) (heads : List Head) (ops : List Op) (h : Head) (op : Op) → Lists file heads ops → IsOf file h op
    → Lists file (heads ++ h ∷ []) (ops ++ op ∷ [])
lists_more file [] [] h op lists it = (it, tt)
lists_more file [] (x ∷ ops) h op lists it = absurd lists
lists_more file (k ∷ heads) [] h op lists it = absurd lists
lists_more file (k ∷ heads) (x ∷ ops) h op (first, rest) it = (first, lists_more file heads ops h op rest it)

-- with its digest
pub told_more : (heads : List Head) (ops : List Op) (h : Head) (op : Op) → map digest_of ops ≡ digests_of heads → digest_of op ≡ h.digest
    → map digest_of (ops ++ op ∷ []) ≡ digests_of (heads ++ h ∷ [])
told_more heads ops h op told one =
    map-append digest_of ops (op ∷ []) ∙ ap (λ (ds : List (List ℕ)). ds ++ digest_of op ∷ []) told
    ∙ ap (λ (d : List ℕ). digests_of heads ++ d ∷ []) one ∙ sym (map-append (λ (h : Head). h.digest) heads (h ∷ []))

-- what stands at an index is among the others
pub at_among : {X : Type 0} (xs : List X) (i : ℕ) (x : X) → slice_get xs i ≡ Some x → Contains xs x
at_among [] i x is = absurd cc
at_among {X} (y ∷ ys) zero x is = let same : y ≡ x = cc in (0, omega arith, same)
at_among {X} (y ∷ ys) (suc i) x is =
    let it = at_among ys i x is in
    (suc it.0, omega (arith, it.1), it.2)

-- bytes of one length that a file has at one offset are the same
pub one_body : (file : List ℕ) (at : ℕ) (xs ys : List ℕ) → length xs ≡ length ys → (0 < length xs → Holds file at xs)
    → (0 < length ys → Holds file at ys) → xs ≡ ys
one_body file at [] [] same held held' = refl
one_body file at [] (y ∷ ys) same held held' = absurd (omega (arith, same))
one_body file at (x ∷ xs) ys same held held' = once file at (x ∷ xs) ys same (held (omega arith)) (held' (omega (arith, same)))

-- a head is that of one operation
pub one_op : (file : List ℕ) (h : Head) (a b : Op) → IsOf file h a → IsOf file h b → a ≡ b
one_op file h a b it other =
    let heads = sym it.head ∙ other.head in
    let body = one_body file h.at (body_of a) (body_of b) (ap (λ (k : Head). k.size) heads) it.held other.held in
    let front = ap (λ (k : Head). k.front) heads in
    let text = sym (both_parts a) ∙ ap (λ (f : List ℕ). f ++ body_of a) front ∙ ap (λ (t : List ℕ). front_of b ++ t) body ∙ both_parts b in
    spelling_once a b it.lawful other.lawful text

-- the first head with a digest has an operation that is listed
pub listed_op : (file : List ℕ) (heads : List Head) (ops : List Op) (digest : List ℕ) (h : Head) → Lists file heads ops
    → first_under digest heads ≡ Some h → (op : Op) × Contains ops op × IsOf file h op
listed_op file [] ops digest h lists is = absurd cc
listed_op file (k ∷ heads) [] digest h lists is = absurd lists
listed_op file (k ∷ heads) (x ∷ ops) digest h (first, rest) is =
    by (listed_op file heads ops digest h rest) (pointwise nat_eq digest k.digest) is
  where
    by : (first_under digest heads ≡ Some h → (op : Op) × Contains ops op × IsOf file h op) → (b : Bool)
        → cond b (Some k) (first_under digest heads) ≡ Some h → (op : Op) × Contains (x ∷ ops) op × IsOf file h op
    by later true is = let it : k ≡ h = cc in (x, (0, omega arith, refl), subst (λ (y : Head). IsOf file y x) it first)
    by later false is =
        let (op, (n, low, same), of) = later is in
        (op, (suc n, omega (arith, low), same), of)

-- an operation that is there is listed
pub listed : (file : List ℕ) (heads : List Head) (ops : List Op) (at : ℕ) (op : Op) → IsOp op → Lists file heads ops
    → first_under (hash_of op) heads ≡ Some (head_of (op, at)) → HasBody file (op, at) → Contains ops op
listed file heads ops at op lawful lists first held =
    let (other, among, of) = listed_op file heads ops (hash_of op) (head_of (op, at)) lists first in
    let same = one_op file (head_of (op, at)) other op of (record { lawful = lawful; head = refl; held = held }) in
    subst (λ (o : Op). Contains ops o) same among
