-- Which failed instances are told, on which context a content goes out, and what a sub-operation may be.
use Rattle.std.proofs.Common.{◌≡◌, ◌<◌, ◌≤◌, ◌+◌, ◌-◌, ◌^◌, ◌%◌, ℕ, List, [], ◌∷◌, ◌++◌, length, take, drop}
use Rattle.std.proofs.Common.{Bool, true, false, cond, ◌==◌, nat_lt, Some, None, refl, sym, ap, ◌∙◌, arith}
use Rattle.std.proofs.Common.{◌⊎◌, inl, inr}
use Rattle.std.proofs.Common.{slice_index_or, length-append, append-nil}
use Rattle.std.specs.List.{join_with_byte}
use Rattle.std.proofs.lemmas.Bool.{ltb-true, lt-ltb, le-ltb}
use Rattle.std.proofs.lemmas.List.{take_more, at_drop_more, append_assoc}
use Rattle.data_set.specs.declared.syntax.Syntax.{Syntax}
use Rattle.data_set.specs.declared.syntax.Syntax.TheVariants.{Implicit, Explicit}
use Rattle.data_set.specs.Tree.{leaf}
use Rattle.data_set.specs.Values.{pad_of}
use Rattle.data_set.specs.Vr.{is_short, undefined_length}
use Rattle.data_set.specs.Header.{offence}
use Rattle.data_set.specs.Written.{IsSet, MayStand}
use Rattle.dictionary.specs.declared.elements.TheConstants.{FAILED_SOP_INSTANCE_UID_LIST}
use Rattle.association_services.specs.Get.{fitting, least_id, room_in, vr_in, uid_list}
use Rattle.pdu.specs.declared.context.Context.{Context}

-- ---- how long joined texts are

-- a UID and a backslash before others
joined_long : (u : List ℕ) (us : List (List ℕ)) → length (join_with_byte 92 (u ∷ us)) ≤ length u + 1
    + length (join_with_byte 92 us)
joined_long u [] = omega arith
joined_long u (v ∷ us) = omega (arith, length-append u (92 ∷ join_with_byte 92 (v ∷ us)))

-- They are shorter than the room, or none.
abbrev IsWithin : ℕ → List (List ℕ) → Type 0
IsWithin room uids = (length (join_with_byte 92 uids) < room) ⊎ (uids ≡ [])

joined_then : (room : ℕ) (u : List ℕ) (rest : List (List ℕ)) → length u < room
    → IsWithin (room - (length u + 1)) rest → length (join_with_byte 92 (u ∷ rest)) < room
joined_then room u rest less (inl h) = omega (arith, less, h, joined_long u rest)
joined_then room u rest less (inr none) =
    let e : length (join_with_byte 92 (u ∷ rest)) ≡ length u = ap (λ t. length (join_with_byte 92 (u ∷ t))) none in
    omega (arith, less, e)

joined_by : (b : Bool) (room : ℕ) (u : List ℕ) (rest : List (List ℕ)) → nat_lt (length u) room ≡ b
    → IsWithin (room - (length u + 1)) rest → IsWithin room (cond b (u ∷ rest) [])
joined_by true room u rest e h = inl (joined_then room u rest (ltb-true (length u) room e) h)
joined_by false room u rest e h = inr refl

joined_within : (room : ℕ) (uids : List (List ℕ)) → IsWithin room (fitting room uids)
joined_within room [] = inr refl
joined_within room (u ∷ us) = joined_by (nat_lt (length u) room) room u (fitting (room - (length u + 1)) us) refl
    (joined_within (room - (length u + 1)) us)

-- ---- those that have room

-- one more has room
pub fitted_more : (uids : List (List ℕ)) (i : ℕ) (uid : List ℕ) (left : ℕ) → i < length uids
    → uid ≡ slice_index_or uids i uid → length uid < left
    → take i uids ++ fitting left (drop i uids) ≡ take (i + 1) uids ++ fitting (left - (length uid + 1)) (drop (i + 1)
    uids)
fitted_more uids i uid left h is less =
    let rest = fitting (left - (length uid + 1)) (drop (i + 1) uids) in
    at_drop_more (λ t. take i uids ++ fitting left t) uids i uid h
    ∙ ap (λ x. take i uids ++ fitting left (x ∷ drop (i + 1) uids)) (sym is)
    ∙ ap (λ b. take i uids ++ cond b (uid ∷ rest) []) (lt-ltb (length uid) left less)
    ∙ sym (append_assoc (take i uids) (uid ∷ []) rest)
    ∙ ap (λ t. t ++ rest) (sym (take_more uids i uid h ∙ ap (λ x. take i uids ++ x ∷ []) (sym is)))

-- the next one has no room
pub fitted_stop : (uids : List (List ℕ)) (i : ℕ) (uid : List ℕ) (left : ℕ) → i < length uids
    → uid ≡ slice_index_or uids i uid → left ≤ length uid → take i uids ++ fitting left (drop i uids) ≡ take i uids
fitted_stop uids i uid left h is more =
    at_drop_more (λ t. take i uids ++ fitting left t) uids i uid h
    ∙ ap (λ x. take i uids ++ fitting left (x ∷ drop (i + 1) uids)) (sym is)
    ∙ ap (λ b. take i uids ++ cond b (uid ∷ fitting (left - (length uid + 1)) (drop (i + 1) uids)) [])
    (le-ltb (length uid) left more)
    ∙ append-nil (take i uids)

-- ---- on which context

-- one context more before others
pub least_before : (class : List ℕ) (explicit : Bool) (contexts : List Context) (i : ℕ) (context : Context)
    → i < length contexts → context ≡ slice_index_or contexts i context
    → least_id class explicit (drop i contexts) ≡ least_id class explicit (context ∷ drop (i + 1) contexts)
least_before class explicit contexts i context h is =
    at_drop_more (λ t. least_id class explicit t) contexts i context h
    ∙ ap (λ x. least_id class explicit (x ∷ drop (i + 1) contexts)) (sym is)

-- ---- the data set with the failed ones

padded_by : (b : Bool) (value : List ℕ) (p n : ℕ) → length value < n → length (cond b value (value ++ p ∷ [])) ≤ n
padded_by true value p n h = omega (arith, h)
padded_by false value p n h = omega (arith, h, length-append value (p ∷ []))

list_by : (uids : List (List ℕ)) (room : ℕ) → 0 < room → IsWithin room uids → length (uid_list uids) ≤ room
list_by uids room some (inl h) = padded_by (length (join_with_byte 92 uids) % 2 == 0) (join_with_byte 92 uids)
    (pad_of (0x55 ∷ 0x49 ∷ [])) room h
list_by uids room some (inr none) =
    let e : length (uid_list uids) ≡ 0 = ap (λ t. length (uid_list t)) none in omega (arith, e, some)

no_length : (size : ℕ) → size < 4294967295 → (size == 4294967295) ≡ false
no_length size h = grind arith

explicit_stands : (size : ℕ) → size ≤ 65535 → MayStand Explicit None FAILED_SOP_INSTANCE_UID_LIST (Some (0x55 ∷ 0x49
    ∷ [])) size None
unfolding offence is_short
explicit_stands size fits =
    let long : (size == undefined_length) ≡ false = no_length size (omega (arith, fits)) in
    let short : size < 2 ^ 16 = omega (arith, fits) in
    record {
      tag_fits = ltb-true FAILED_SOP_INSTANCE_UID_LIST 4294967296 refl;
      suits = tt;
      fits = short;
      faultless = rw long refl;
      is_inner = refl;
    }

implicit_stands : (size : ℕ) → size ≤ 4294967294 → MayStand Implicit None FAILED_SOP_INSTANCE_UID_LIST None size None
unfolding offence
implicit_stands size fits =
    let long : (size == undefined_length) ≡ false = no_length size (omega (arith, fits)) in
    let short : size < 2 ^ 32 = omega (arith, fits) in
    record {
      tag_fits = ltb-true FAILED_SOP_INSTANCE_UID_LIST 4294967296 refl;
      suits = tt;
      fits = short;
      faultless = rw long (rw long refl);
      is_inner = rw long refl;
    }

-- The element that names failed instances is a data set.
pub failed_is_set : (syntax : Syntax) (uids : List (List ℕ))
    → IsSet syntax (leaf FAILED_SOP_INSTANCE_UID_LIST (vr_in syntax) (uid_list (fitting (room_in syntax) uids)) ∷ [])
unfolding IsSet
failed_is_set Explicit uids = (
  explicit_stands (length (uid_list (fitting 0xFFFF uids)))
      (list_by (fitting 0xFFFF uids) 0xFFFF (ltb-true 0 0xFFFF refl) (joined_within 0xFFFF uids)),
  tt,
)
failed_is_set Implicit uids = (
  implicit_stands (length (uid_list (fitting 0xFFFFFFFE uids)))
      (list_by (fitting 0xFFFFFFFE uids) 0xFFFFFFFE (ltb-true 0 0xFFFFFFFE refl) (joined_within 0xFFFFFFFE uids)),
  tt,
)
