-- The acceptance of a lawful request can be written.
use Rattle.std.proofs.Common.{◌≡◌, ◌≢◌, ℕ, suc, ◌+◌, ◌*◌, ◌<◌, ◌≤◌, Bool, true, false, not, cond, eqb, ◌&&◌, ◌||◌, List}
use Rattle.std.proofs.Common.{[], ◌∷◌, ◌++◌, length, map, Some, Result, Ok, Err, refl, ap, ◌∙◌, arith}
use Rattle.std.specs.Prelude.{filter}
use Rattle.std.specs.Int.{w32, to_be_bytes}
use Rattle.std.specs.List.{AllByRecursion, list_any, IsDistinct}
use Rattle.std.proofs.lemmas.Map.Steps.{length-le_from_distinct_below}
use Rattle.std.proofs.lemmas.Bool.{or_parts as neither, eqb-true as equal_of}
use Rattle.pdu.specs.declared.user.Role.{Role}
use Rattle.pdu.specs.declared.user.UserInformation.{UserInformation}
use Rattle.pdu.specs.declared.context.ProposedContext.{ProposedContext}
use Rattle.pdu.specs.declared.request.Request.{Request}
use Rattle.pdu.specs.Grammar.{is_among, are_distinct}
use Rattle.pdu.specs.Spelling.{item_of, items_text, HasLength, role_item, length_items, class_items, user_items}
use Rattle.pdu.specs.Spelling.{syntax_item, proposal_item, answer_item, request_items, IsUidText, FitsRole, FitsUser}
use Rattle.pdu.specs.Spelling.{FitsProposal, FitsAnswer, FitsOpening, FitsRequest, FitsAccept}
use Rattle.pdu.proofs.Again.{all_right}
use Rattle.pdu.proofs.Sizes.{item_size, items_size, written_size, body_items, body_size, body_long}
use Rattle.ul_state.specs.declared.answer.TheConstants.{IMPLEMENTATION_CLASS}
use Rattle.ul_state.specs.Answer.{HasByteId, is_storage, taken_syntax, answer_syntax, answered, opening_back}
use Rattle.ul_state.specs.Answer.{accept_for}

-- ---- how many contexts there are

no_other : (a b : Bool) → not a && b ≡ true → (a ≡ false) × (b ≡ true)
no_other true b e = absurd cc
no_other false b e = (refl, e)

the_other : (a b : Bool) → a ≡ false → (a || b) ≡ true → b ≡ true
the_other true b is e = absurd cc
the_other false b is e = e

turned : (m n : ℕ) → eqb m n ≡ false → eqb n m ≡ false
turned m n e = grind (arith, e)

none_equal : (n : ℕ) (ns : List ℕ) → is_among n ns ≡ false → AllByRecursion (λ m. eqb n m ≡ false) ns
none_equal n [] e = tt
none_equal n (m ∷ ms) e = let both = neither (eqb m n) (is_among n ms) e in (turned m n both.0, none_equal n ms both.1)

distinct : (ns : List ℕ) → are_distinct ns ≡ true → IsDistinct eqb ns
unfolding IsDistinct
distinct [] e = tt
distinct (n ∷ ns) e = let both = no_other (is_among n ns) (are_distinct ns) e in
    (none_equal n ns both.0, distinct ns both.1)

below : (cs : List ProposedContext) → AllByRecursion HasByteId cs → (n : ℕ)
    → list_any (eqb n) (map (λ c. c.id) cs) ≡ true → n < 256
below [] all n e = absurd cc
below (c ∷ cs) all n e = by_test (eqb n c.id) refl (below cs all.1 n)
  where
    by_test : (b : Bool) → eqb n c.id ≡ b → (list_any (eqb n) (map (λ c. c.id) cs) ≡ true → n < 256) → n < 256
    by_test true is rest = omega (arith, equal_of n c.id is, all.0)
    by_test false is rest = rest (the_other (eqb n c.id) _ is e)

length_map : {A B : Type 0} (f : A → B) (xs : List A) → length (map f xs) ≡ length xs
length_map f [] = refl
length_map f (x ∷ xs) = ap suc (length_map f xs)

few : (cs : List ProposedContext) → AllByRecursion HasByteId cs → are_distinct (map (λ c. c.id) cs) ≡ true
    → length cs ≤ 256
few cs all e = omega (
  arith,
  length-le_from_distinct_below (map (λ c. c.id) cs) 256 (distinct (map (λ c. c.id) cs) e)
      (below cs all),
  length_map (λ (c : ProposedContext). c.id) cs,
)

-- ---- contexts

syntax_fits : (taken : Result Bool ℕ) → IsUidText (answer_syntax taken)
syntax_fits (Ok true) = (refl, refl)
syntax_fits (Ok false) = (refl, refl)
syntax_fits (Err number) = (refl, refl)

syntax_short : (taken : Result Bool ℕ) → length (answer_syntax taken) ≤ 19
syntax_short (Ok true) = omega arith
syntax_short (Ok false) = omega arith
syntax_short (Err number) = omega arith

answered_short : (roles : List Role) (c : ProposedContext) → length (answer_item (answered roles c)).content ≤ 27
unfolding answered
answered_short roles c = omega (
  arith,
  syntax_short (taken_syntax roles c),
  item_size
      (syntax_item (answer_syntax (taken_syntax roles c))) [],
)

answered_fits : (roles : List Role) (c : ProposedContext) → FitsProposal c → FitsAnswer (answered roles c)
unfolding answered
answered_fits roles c fits = record {
  odd = fits.odd;
  transfer_syntax = syntax_fits (taken_syntax roles c);
  lengths = (omega (arith, syntax_short (taken_syntax roles c)), tt);
}

all_answered : (roles : List Role) (cs : List ProposedContext) → AllByRecursion FitsProposal cs
    → AllByRecursion FitsAnswer (map (answered roles) cs)
all_answered roles [] fits = tt
all_answered roles (c ∷ cs) fits = (answered_fits roles c fits.0, all_answered roles cs fits.1)

answers_long : (roles : List Role) (cs : List ProposedContext)
    → AllByRecursion HasLength (map answer_item (map (answered roles) cs))
answers_long roles [] = tt
answers_long roles (c ∷ cs) = (omega (arith, answered_short roles c), answers_long roles cs)

same_id : (roles : List Role) (c : ProposedContext) → (answered roles c).id ≡ c.id
unfolding answered
same_id roles c = refl

same_ids : (roles : List Role) (cs : List ProposedContext) → map (λ c. c.id) (map (answered roles) cs) ≡ map (λ c. c.id)
    cs
same_ids roles [] = refl
same_ids roles (c ∷ cs) = ap (λ (n : ℕ). n ∷ map (λ c. c.id) (map (answered roles) cs)) (same_id roles c)
    ∙ ap (λ (ns : List ℕ). c.id ∷ ns) (same_ids roles cs)

one_syntax : (syntaxes : List (List ℕ)) → length syntaxes ≢ 0 → 4 ≤ length (items_text (map syntax_item syntaxes))
one_syntax [] some = absurd (some refl)
one_syntax (s ∷ ss) some = omega (arith, item_size (syntax_item s) (map syntax_item ss))

proposal_least : (c : ProposedContext) → FitsProposal c → 12 ≤ length (proposal_item c).content
proposal_least c fits = omega (
  arith,
  one_syntax c.transfer_syntaxes fits.some,
  item_size
      (item_of 0x30 c.abstract_syntax) (map syntax_item c.transfer_syntaxes),
)

-- an answer takes at most 15 bytes more than its proposal
answers_size : (roles : List Role) (cs : List ProposedContext) → AllByRecursion FitsProposal cs
    → length (items_text (map answer_item (map (answered roles) cs))) ≤ length (items_text (map proposal_item cs)) + 15
    * length cs
answers_size roles [] fits = omega arith
answers_size roles (c ∷ cs) fits =
    omega (
      arith,
      item_size (answer_item (answered roles c)) (map answer_item (map (answered roles) cs)),
      item_size (proposal_item c) (map proposal_item cs),
      answered_short roles c,
      proposal_least c fits.0,
      answers_size roles cs fits.1,
    )

-- ---- roles

kept_fit : {X : Type 0} (P : X → Type 0) (test : X → Bool) (xs : List X) → AllByRecursion P xs
    → AllByRecursion P (filter test xs)
kept_fit P test [] all = tt
kept_fit P test (x ∷ xs) all = by_test (test x) all.0 (kept_fit P test xs all.1)
  where
    by_test : (b : Bool) → P x → AllByRecursion P (filter test xs)
        → AllByRecursion P (cond b (x ∷ filter test xs) (filter test xs))
    by_test true one others = (one, others)
    by_test false one others = others

roles_long : (roles : List Role) → AllByRecursion HasLength (map role_item roles)
    → AllByRecursion (λ role. HasLength (role_item role)) roles
roles_long [] all = tt
roles_long (role ∷ roles) all = (all.0, roles_long roles all.1)

items_long : (roles : List Role) → AllByRecursion (λ role. HasLength (role_item role)) roles
    → AllByRecursion HasLength (map role_item roles)
items_long [] all = tt
items_long (role ∷ roles) all = (all.0, items_long roles all.1)

kept_size : (test : Role → Bool) (roles : List Role) → length (items_text (map role_item (filter test roles))) ≤
    length (items_text (map role_item roles))
kept_size test [] = omega arith
kept_size test (role ∷ roles) = by_test (test role) (kept_size test roles)
  where
    by_test : (b : Bool) → length (items_text (map role_item (filter test roles))) ≤
        length (items_text (map role_item roles))
        → length (items_text (map role_item (cond b (role ∷ filter test roles) (filter test roles)))) ≤
        length (items_text (map role_item (role ∷ roles)))
    by_test true le = omega (
      arith,
      item_size (role_item role) (map role_item (filter test roles)),
      item_size
          (role_item role) (map role_item roles),
      le,
    )
    by_test false le = omega (arith, item_size (role_item role) (map role_item roles), le)

-- ---- the acceptance

abbrev stored : Role → Bool
stored role = is_storage role.class

abbrev our_user : List Role → UserInformation
our_user roles = record { maximum_length = 65536; implementation_class = Some IMPLEMENTATION_CLASS; roles = roles }

our_size : (roles : List Role) → length (items_text (user_items (our_user roles))) ≡ 23 +
    length (items_text (map role_item roles))
our_size roles =
    omega (
      arith,
      item_size (item_of 0x51 (to_be_bytes w32 65536)) (item_of 0x52 IMPLEMENTATION_CLASS ∷ map role_item roles),
      item_size (item_of 0x52 IMPLEMENTATION_CLASS) (map role_item roles),
    )

user_size : (user : UserInformation) → length (items_text (map role_item user.roles)) ≤
    length (items_text (user_items user))
user_size user =
    omega (
      arith,
      items_size (length_items user.maximum_length) (class_items user.implementation_class ++ map role_item user.roles),
      items_size (class_items user.implementation_class) (map role_item user.roles),
    )

class_fits : IsUidText IMPLEMENTATION_CLASS
class_fits = (refl, refl)

our_fits : (user : UserInformation) → FitsUser user → FitsUser (our_user (filter stored user.roles))
our_fits user fits =
    let roles = all_right HasLength (class_items user.implementation_class) (map role_item user.roles)
    (all_right HasLength (length_items user.maximum_length) (class_items user.implementation_class ++ map role_item
    user.roles) fits.lengths) in
    record {
      maximum_length = omega arith;
      class = class_fits;
      roles = kept_fit FitsRole stored user.roles fits.roles;
      lengths = (
        omega arith,
        (
          omega arith,
          items_long (filter stored user.roles)
              (kept_fit (λ role. HasLength (role_item role)) stored user.roles (roles_long user.roles roles)),
        ),
      );
    }

-- how much the contexts and the user information of a lawful request take
request_size : (request : Request) → FitsRequest request
    → 76 + length request.application_context + length (items_text (map proposal_item request.contexts)) +
    length (items_text (user_items request.user)) ≤ 65536
request_size request fits =
    omega (
      arith,
      fits.whole,
      written_size request.opening (items_text (request_items request)) fits.opening,
      body_size request.application_context (map proposal_item request.contexts) (items_text (user_items request.user)),
    )

back_fits : (request : Request) → FitsRequest request → FitsOpening (opening_back request.opening)
back_fits request fits = record {
  version = omega arith;
  called = fits.opening.called;
  calling = fits.opening.calling;
  reserved = fits.opening.reserved;
}

pub accept_fits : (request : Request) → AllByRecursion HasByteId request.contexts → FitsRequest request
    → FitsAccept (accept_for request)
unfolding accept_for
accept_fits request octets fits =
    let roles = request.user.roles in
    let kept = filter stored roles in
    let contexts = map (answered roles) request.contexts in
    let size = request_size request fits in
    let user = user_size request.user in
    let kept_roles = kept_size stored roles in
    let ours = our_size kept in
    record {
      opening = back_fits request fits;
      application_context = fits.application_context;
      contexts = all_answered roles request.contexts fits.contexts;
      distinct = ap are_distinct (same_ids roles request.contexts) ∙ fits.distinct;
      user = our_fits request.user fits.user;
      lengths = body_long request.application_context (map answer_item contexts)
          (items_text (user_items (our_user kept))) fits.lengths.0 (answers_long roles request.contexts)
          (omega (arith, size, user, kept_roles, ours));
      whole = omega (
        arith,
        size,
        user,
        kept_roles,
        ours,
        answers_size roles request.contexts fits.contexts,
        few request.contexts octets fits.distinct,
        written_size (opening_back request.opening)
            (items_text (body_items request.application_context (map answer_item contexts)
            (items_text (user_items (our_user kept))))) (back_fits request fits),
        body_size request.application_context (map answer_item contexts) (items_text (user_items (our_user kept))),
      );
    }
