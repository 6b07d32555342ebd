-- What hashers have hashed, on the way.
use Rattle.std.proofs.Common.{◌≡◌, ℕ, zero, suc, ◌+◌, ◌<◌, List, [], ◌∷◌, ◌++◌, Bool, true, false, cond, length, get_or}
use Rattle.std.proofs.Common.{refl, sym, ap, subst, ◌∙◌, arith, append_assoc, length-append}
use Rattle.std.proofs.lemmas.List.{append-nil}
use Rattle.std.specs.Prelude.{map, filter, ⊤}
use Rattle.std.specs.List.{range_with_len, AllByRecursion}
use Rattle.sha2.specs.Sha256.{sha256}
use Rattle.sha2.specs.declared.Sha256.{Sha256}
use Rattle.sha2.specs.Hashers.{Holds256}
use Rattle.exchange.specs.Buckets.{bucket_text, bucket_of}
use Rattle.exchange.specs.Hashing.{AllHold}

-- ---- hashers that have hashed nothing

abbrev pub AreNew : List Sha256 → Type 0
AreNew hs = AllByRecursion (λ h. Holds256 h []) hs

pub new_more : (hs : List Sha256) (h : Sha256) → AreNew hs → Holds256 h [] → AreNew (hs ++ h ∷ [])
new_more [] h all one = (one, tt)
new_more (g ∷ hs) h all one = (all.0, new_more hs h all.1 one)

pub new_at : (hs : List Sha256) → AreNew hs → (place : ℕ) (other : Sha256) → place < length hs
    → Holds256 (get_or hs place other) []
new_at [] all place other lt = absurd (omega arith)
new_at (h ∷ hs) all zero other lt = all.0
new_at (h ∷ hs) all (suc place) other lt = new_at hs all.1 place other (omega arith)

-- ---- a digest more

-- Some hashers have hashed a front of some digests, of which these are left.
pub record IsFed (hashers : List Sha256) (left all : List (List ℕ)) : Type 0 where
  pub fed : List (List ℕ)
  pub whole : fed ++ left ≡ all
  pub holds : AllHold hashers fed

pub next_fed : (hs hashed : List Sha256) (digest : List ℕ) (left rest all : List (List ℕ)) → IsFed hs left all
    → left ≡ digest ∷ rest → ((ds : List (List ℕ)) → AllHold hs ds → AllHold hashed (ds ++ digest ∷ []))
    → IsFed hashed rest all
next_fed hs hashed digest left rest all was steps feeds = record {
  fed = was.fed ++ digest ∷ [];
  whole = append_assoc was.fed (digest ∷ []) rest ∙ ap (λ ds. was.fed ++ ds) (sym steps) ∙ was.whole;
  holds = feeds was.fed was.holds;
}

-- where none is left, all were hashed
pub all_fed : (hs : List Sha256) (left all : List (List ℕ)) (was : IsFed hs left all) → left ≡ [] → was.fed ≡ all
all_fed hs left all was none = sym (append-nil was.fed) ∙ ap (λ ds. was.fed ++ ds) (sym none) ∙ was.whole

-- ---- what was hashed, place by place

-- hashers of neighbouring places
abbrev pub HoldFrom : ℕ → List Sha256 → List (List ℕ) → Type 0
HoldFrom place [] digests = ⊤
HoldFrom place (h ∷ hs) digests = Holds256 h (bucket_text place digests) × HoldFrom (place + 1) hs digests

pub from_each : (hs : List Sha256) (place : ℕ) (digests : List (List ℕ)) → ((i : ℕ) (other : Sha256) → i < length hs
    → Holds256 (get_or hs i other) (bucket_text (place + i) digests)) → HoldFrom place hs digests
from_each [] place digests each = tt
from_each (h ∷ hs) place digests each = (
  let e : place + 0 ≡ place = omega arith in subst (λ p. Holds256 h (bucket_text p digests)) e (each 0 h (omega arith)),
  from_each hs (place + 1) digests (λ i other lt. let e : place + suc i ≡ (place + 1) + i = omega arith in
      subst (λ p. Holds256 (get_or hs i other) (bucket_text p digests)) e (each (suc i) other (omega arith))),
)

pub from_all : (hs : List Sha256) (digests : List (List ℕ)) → AllHold hs digests → HoldFrom 0 hs digests
from_all hs digests all = from_each hs 0 digests (λ i other lt.
    let e : i ≡ 0 + i = omega arith in
    subst (λ p. Holds256 (get_or hs i other) (bucket_text p digests))
    e (all.each i other (subst (λ n. i < n) all.all lt)))

-- buckets were told of a front of the places, and those of these hashers are left
abbrev pub Telling : List (List ℕ) → List (List ℕ) → List Sha256 → ℕ → Type 0
Telling digests done left total =
    HoldFrom (length done) left digests × (done ++ map (bucket_of digests) (range_with_len (length done) (length left))
    ≡ map (bucket_of digests) (range_with_len 0 total))

pub next_told : (digests done : List (List ℕ)) (h : Sha256) (left : List Sha256) (total : ℕ) (bucket : List ℕ)
    → Telling digests done (h ∷ left) total → ((m : List ℕ) → Holds256 h m → bucket ≡ sha256 m)
    → Telling digests (done ++ bucket ∷ []) left total
next_told digests done h left total bucket was gives =
    let long : length (done ++ bucket ∷ []) ≡ length done + 1 = length-append done (bucket ∷ []) in
    let places = map (bucket_of digests) (range_with_len (length done + 1) (length left)) in (
      subst (λ n. HoldFrom n left digests) (sym long) was.0.1,
      ap (λ n. (done ++ bucket ∷ []) ++ map (bucket_of digests) (range_with_len n (length left))) long
          ∙ append_assoc done (bucket ∷ []) places
          ∙ ap (λ b. done ++ b ∷ places) (gives _ was.0.0)
          ∙ was.1,
    )

pub all_told : (digests done : List (List ℕ)) (left : List Sha256) (total : ℕ) → length left ≡ 0 → Telling digests done
    left total → done ≡ map (bucket_of digests) (range_with_len 0 total)
all_told digests done left total none was = sym (append-nil done)
    ∙ ap (λ n. done ++ map (bucket_of digests) (range_with_len (length done) n)) (sym none) ∙ was.1

-- ---- the places in which something holds

kept_on : (b : Bool) (x : ℕ) (xs ys : List ℕ) → cond b (x ∷ (xs ++ ys)) (xs ++ ys) ≡ cond b (x ∷ xs) xs ++ ys
kept_on true x xs ys = refl
kept_on false x xs ys = refl

kept_from : (test : ℕ → Bool) (place n : ℕ) → filter test (range_with_len place (n + 1)) ≡ filter
    test (range_with_len place n) ++ cond (test (place + n)) ((place + n) ∷ []) []
kept_from test place zero = let e : place ≡ place + 0 = omega arith in ap (λ p. cond (test p) (p ∷ []) []) e
kept_from test place (suc n) =
    let long : suc n + 1 ≡ suc (n + 1) = omega arith in
    let next : (place + 1) + n ≡ place + suc n = omega arith in
    ap (λ k. filter test (range_with_len place k)) long
    ∙ ap (λ ps. cond (test place) (place ∷ ps) ps) (kept_from test (place + 1) n
    ∙ ap (λ p. filter test (range_with_len (place + 1) n) ++ cond (test p) (p ∷ []) []) next)
    ∙ kept_on (test place) place (filter test (range_with_len (place + 1) n)) _

-- one place more
pub kept_next : (test : ℕ → Bool) (n : ℕ) → filter test (range_with_len 0 (n + 1)) ≡ filter test (range_with_len 0 n)
    ++ cond (test n) (n ∷ []) []
kept_next test n = let e : 0 + n ≡ n = omega arith in
    kept_from test 0 n ∙ ap (λ p. filter test (range_with_len 0 n) ++ cond (test p) (p ∷ []) []) e
