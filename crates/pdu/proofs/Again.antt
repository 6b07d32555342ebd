-- What is written for a PDU spells it.
use Rattle.std.proofs.Common.{◌≡◌, ℕ, ◌+◌, ◌<◌, ◌≤◌, ◌^◌, Bool, true, false, cond, eqb, List, [], ◌∷◌, ◌++◌, length}
use Rattle.std.proofs.Common.{take, map, append_assoc, length-append, Option, Some, None, refl, sym, ap, subst, ◌∙◌}
use Rattle.std.proofs.Common.{arith}
use Rattle.std.specs.Prelude.{IfSome}
use Rattle.std.specs.Int.{w16, w32, to_be_bytes}
use Rattle.std.specs.List.{flat_map, AllByRecursion}
use Rattle.std.proofs.lemmas.List.{append-nil, take_at}
use Rattle.std.proofs.lemmas.Nat.{from_be_bytes-to_be_bytes_2, from_be_bytes-to_be_bytes_4}
use Rattle.pdu.specs.declared.item.TheConstants.{APPLICATION_CONTEXT, PROPOSED_CONTEXT, ANSWERED_CONTEXT}
use Rattle.pdu.specs.declared.item.TheConstants.{ABSTRACT_SYNTAX, TRANSFER_SYNTAX, USER_INFORMATION, MAXIMUM_LENGTH}
use Rattle.pdu.specs.declared.item.TheConstants.{IMPLEMENTATION_CLASS, ROLE_SELECTION}
use Rattle.pdu.specs.declared.item.Item.{Item}
use Rattle.pdu.specs.declared.user.Role.{Role}
use Rattle.pdu.specs.declared.user.UserInformation.{UserInformation}
use Rattle.pdu.specs.declared.context.ProposedContext.{ProposedContext}
use Rattle.pdu.specs.declared.context.AnsweredContext.{AnsweredContext}
use Rattle.pdu.specs.declared.opening.Opening.{Opening}
use Rattle.pdu.specs.declared.request.Request.{Request}
use Rattle.pdu.specs.declared.accept.Accept.{Accept}
use Rattle.pdu.specs.declared.pdv.Pdv.{Pdv}
use Rattle.pdu.specs.declared.value.Pdu.{Pdu}
use Rattle.pdu.specs.declared.value.Pdu.TheVariants.{AssociateRq, AssociateAc, AssociateRj, PData, ReleaseRq, ReleaseRp}
use Rattle.pdu.specs.declared.value.Pdu.TheVariants.{Abort}
use Rattle.pdu.specs.Header.{header_fault}
use Rattle.pdu.specs.Grammar.{Fill, Each, BeginsItem, contents_of, IsUid, IsLength, IsRole, first_or, first_of, IsUser}
use Rattle.pdu.specs.Grammar.{IsProposal, IsAnswer, BeginsOpening, IsRequest, IsAccept, is_command, is_last, BeginsPdv}
use Rattle.pdu.specs.Grammar.{IsBody, code_of, Spells}
use Rattle.pdu.specs.Spelling.{item_of, items_text, HasLength, role_text, role_item, class_items, user_items, user_item}
use Rattle.pdu.specs.Spelling.{proposal_items, proposal_item, answer_items, answer_item, opening_text, request_items}
use Rattle.pdu.specs.Spelling.{accept_items, control_of, pdv_text, body_text, text_of, IsUidText, FitsRole, FitsUser}
use Rattle.pdu.specs.Spelling.{FitsProposal, FitsAnswer, FitsOpening, FitsRequest, FitsAccept, IsPdu}

-- ---- items

items_fill : (items : List Item) → AllByRecursion HasLength items → Fill BeginsItem items (items_text items)
items_fill [] fits = refl
items_fill (i ∷ is) fits = (
  items_text is,
  (
    0,
    _,
    _,
    from_be_bytes-to_be_bytes_2 (length i.content) fits.0,
    ap (λ (t : List ℕ). i.kind ∷ 0 ∷ t)
        (append_assoc (to_be_bytes w16 (length i.content)) i.content (items_text is)),
  ),
  items_fill is fits.1,
)

contents_append : (k : ℕ) (xs ys : List Item) → contents_of k (xs ++ ys) ≡ contents_of k xs ++ contents_of k ys
contents_append k [] ys = refl
contents_append k (x ∷ xs) ys = by_kind (eqb x.kind k) x.content _ _ _ (contents_append k xs ys)
  where
    by_kind : (b : Bool) (c : List ℕ) (all left right : List (List ℕ)) → all ≡ left ++ right
        → cond b (c ∷ all) all ≡ cond b (c ∷ left) left ++ right
    by_kind true c all left right e = ap (λ (t : List (List ℕ)). c ∷ t) e
    by_kind false c all left right e = e

-- of items of one kind, all or none are of a kind
contents_same : {A : Type 0} (k : ℕ) (f : A → List ℕ) (xs : List A) → eqb k k ≡ true
    → contents_of k (map (λ x. item_of k (f x)) xs) ≡ map f xs
contents_same k f [] e = refl
contents_same k f (x ∷ xs) e = rw e (ap (λ (t : List (List ℕ)). f x ∷ t) (contents_same k f xs e))

contents_other : {A : Type 0} (k j : ℕ) (f : A → List ℕ) (xs : List A) → eqb j k ≡ false
    → contents_of k (map (λ x. item_of j (f x)) xs) ≡ []
contents_other k j f [] e = refl
contents_other k j f (x ∷ xs) e = rw e (contents_other k j f xs e)

each_map : {V : Type 0} (Is : V → List ℕ → Type 0) (Fits : V → Type 0) (f : V → List ℕ)
    → ((v : V) → Fits v → Is v (f v)) → (vs : List V) → AllByRecursion Fits vs → Each Is vs (map f vs)
each_map Is Fits f one [] fits = tt
each_map Is Fits f one (v ∷ vs) fits = (one v fits.0, each_map Is Fits f one vs fits.1)

-- the same beside the lengths of the items
each_map_long : {V : Type 0} (Is : V → List ℕ → Type 0) (Fits : V → Type 0) (g : V → Item)
    → ((v : V) → Fits v → HasLength (g v) → Is v (g v).content) → (vs : List V) → AllByRecursion Fits vs
    → AllByRecursion HasLength (map g vs) → Each Is vs (map (λ v. (g v).content) vs)
each_map_long Is Fits g one [] fits long = tt
each_map_long Is Fits g one (v ∷ vs) fits long = (one v fits.0 long.0, each_map_long Is Fits g one vs fits.1 long.1)

all_left : {X : Type 0} (P : X → Type 0) (xs ys : List X) → AllByRecursion P (xs ++ ys) → AllByRecursion P xs
all_left P [] ys all = tt
all_left P (x ∷ xs) ys all = (all.0, all_left P xs ys all.1)

pub all_right : {X : Type 0} (P : X → Type 0) (xs ys : List X) → AllByRecursion P (xs ++ ys) → AllByRecursion P ys
all_right P [] ys all = all
all_right P (x ∷ xs) ys all = all_right P xs ys all.1

uid_again : (uid : List ℕ) → IsUidText uid → IsUid uid uid
uid_again uid fits = fits

uids_again : (uids : List (List ℕ)) → AllByRecursion IsUidText uids → Each IsUid uids uids
uids_again [] fits = tt
uids_again (u ∷ us) fits = (fits.0, uids_again us fits.1)

-- ---- user information

role_again : (role : Role) → FitsRole role → IsRole role (role_text role)
role_again role fits = record {
  high = _;
  low = _;
  text = role.class;
  size = from_be_bytes-to_be_bytes_2 (length role.class) fits.short;
  uid = fits.class;
  parts = refl;
}

-- the lengths, the classes and the roles that are written
abbrev lengths_of : Bool → ℕ → List ℕ
lengths_of true n = []
lengths_of false n = n ∷ []

abbrev classes_of : Option (List ℕ) → List (List ℕ)
classes_of None = []
classes_of (Some class) = class ∷ []

abbrev length_part : Bool → ℕ → List Item
length_part b n = cond b [] (item_of MAXIMUM_LENGTH (to_be_bytes w32 n) ∷ [])

user_lengths : (b : Bool) (n : ℕ) (class : Option (List ℕ)) (roles : List Role) → contents_of MAXIMUM_LENGTH
    (length_part b n ++ (class_items class ++ map role_item roles)) ≡ map (to_be_bytes w32) (lengths_of b n)
user_lengths true n None roles = contents_other MAXIMUM_LENGTH ROLE_SELECTION role_text roles refl
user_lengths true n (Some class) roles = contents_other MAXIMUM_LENGTH ROLE_SELECTION role_text roles refl
user_lengths false n None roles = ap (λ (t : List (List ℕ)). to_be_bytes w32 n ∷ t)
    (contents_other MAXIMUM_LENGTH ROLE_SELECTION role_text roles refl)
user_lengths false n (Some class) roles = ap (λ (t : List (List ℕ)). to_be_bytes w32 n ∷ t)
    (contents_other MAXIMUM_LENGTH ROLE_SELECTION role_text roles refl)

user_classes : (b : Bool) (n : ℕ) (class : Option (List ℕ)) (roles : List Role) → contents_of IMPLEMENTATION_CLASS
    (length_part b n ++ (class_items class ++ map role_item roles)) ≡ classes_of class
user_classes true n None roles = contents_other IMPLEMENTATION_CLASS ROLE_SELECTION role_text roles refl
user_classes true n (Some class) roles = ap (λ (t : List (List ℕ)). class ∷ t) (contents_other IMPLEMENTATION_CLASS
    ROLE_SELECTION role_text roles refl)
user_classes false n None roles = contents_other IMPLEMENTATION_CLASS ROLE_SELECTION role_text roles refl
user_classes false n (Some class) roles = ap (λ (t : List (List ℕ)). class ∷ t) (contents_other IMPLEMENTATION_CLASS
    ROLE_SELECTION role_text roles refl)

user_roles : (b : Bool) (n : ℕ) (class : Option (List ℕ)) (roles : List Role) → contents_of ROLE_SELECTION
    (length_part b n ++ (class_items class ++ map role_item roles)) ≡ map role_text roles
user_roles true n None roles = contents_same ROLE_SELECTION role_text roles refl
user_roles true n (Some class) roles = contents_same ROLE_SELECTION role_text roles refl
user_roles false n None roles = contents_same ROLE_SELECTION role_text roles refl
user_roles false n (Some class) roles = contents_same ROLE_SELECTION role_text roles refl

length_again : (b : Bool) (n : ℕ) → n < 2 ^ 32 → Each IsLength (lengths_of b n) (map (to_be_bytes w32) (lengths_of b n))
length_again true n lt = tt
length_again false n lt = ((_, _, _, _, from_be_bytes-to_be_bytes_4 n lt, refl), tt)

first_again : (b : Bool) (n : ℕ) → eqb n 0 ≡ b → first_or 0 (lengths_of b n) ≡ n
first_again true n e = sym (zero_of n e)
  where
    zero_of : (n : ℕ) → eqb n 0 ≡ true → n ≡ 0
    zero_of n e = grind arith
first_again false n e = refl

class_again : (class : Option (List ℕ)) → IfSome class IsUidText → Each IsUid (classes_of class) (classes_of class)
class_again None fits = tt
class_again (Some class) fits = (fits, tt)

first_class_again : (class : Option (List ℕ)) → first_of (classes_of class) ≡ class
first_class_again None = refl
first_class_again (Some class) = refl

user_again : (user : UserInformation) → FitsUser user → IsUser user (items_text (user_items user))
user_again user fits =
    let b = eqb user.maximum_length 0 in
    record {
      items = user_items user;
      filled = items_fill (user_items user) fits.lengths;
      lengths = lengths_of b user.maximum_length;
      are_lengths = subst (Each IsLength (lengths_of b user.maximum_length))
          (sym (user_lengths b user.maximum_length user.implementation_class user.roles))
          (length_again b user.maximum_length fits.maximum_length);
      maximum_length = first_again b user.maximum_length refl;
      classes = classes_of user.implementation_class;
      are_classes = subst (Each IsUid (classes_of user.implementation_class))
          (sym (user_classes b user.maximum_length user.implementation_class user.roles))
          (class_again user.implementation_class fits.class);
      implementation_class = first_class_again user.implementation_class;
      roles = subst (Each IsRole user.roles) (sym (user_roles b user.maximum_length user.implementation_class
          user.roles)) (each_map IsRole FitsRole role_text role_again user.roles fits.roles);
    }

-- ---- presentation contexts

map_same : (xs : List (List ℕ)) → map (λ x. x) xs ≡ xs
map_same [] = refl
map_same (x ∷ xs) = ap (λ (t : List (List ℕ)). x ∷ t) (map_same xs)

proposal_again : (context : ProposedContext) → FitsProposal context → IsProposal context (proposal_item context).content
proposal_again context fits = record {
  a = 0;
  b = 0;
  c = 0;
  text = items_text (proposal_items context);
  parts = refl;
  odd = fits.odd;
  items = proposal_items context;
  filled = items_fill (proposal_items context) fits.lengths;
  abstract_syntax = (
    context.abstract_syntax,
    ap (λ (t : List (List ℕ)). context.abstract_syntax ∷ t)
        (contents_other ABSTRACT_SYNTAX TRANSFER_SYNTAX (λ x. x) context.transfer_syntaxes refl),
    fits.abstract_syntax,
  );
  transfer_syntaxes = subst (Each IsUid context.transfer_syntaxes)
      (sym (contents_same TRANSFER_SYNTAX (λ x. x) context.transfer_syntaxes refl ∙ map_same context.transfer_syntaxes))
      (uids_again context.transfer_syntaxes fits.transfer_syntaxes);
  some = fits.some;
}

answer_again : (context : AnsweredContext) → FitsAnswer context → IsAnswer context (answer_item context).content
answer_again context fits = record {
  a = 0;
  b = 0;
  text = items_text (answer_items context);
  parts = refl;
  odd = fits.odd;
  items = answer_items context;
  filled = items_fill (answer_items context) fits.lengths;
  transfer_syntax = (context.transfer_syntax, refl, fits.transfer_syntax);
}

-- ---- bodies

opening_again : (opening : Opening) (rest : List ℕ) → FitsOpening opening
    → BeginsOpening opening (opening_text opening ++ rest) rest
opening_again opening rest fits = record {
  high = _;
  low = _;
  a = 0;
  b = 0;
  version = from_be_bytes-to_be_bytes_2 opening.version fits.version;
  called = fits.called;
  calling = fits.calling;
  reserved = fits.reserved;
  parts = ap (λ (t : List ℕ). to_be_bytes w16 opening.version ++ 0 ∷ 0 ∷ t)
      (append_assoc opening.called (opening.calling ++ opening.reserved) rest ∙ ap (λ (t : List ℕ). opening.called ++ t)
      (append_assoc opening.calling opening.reserved rest));
}

-- of the items of a body, those of each kind
first_kind : (context : List ℕ) (middle : List Item) (user : List ℕ) → contents_of APPLICATION_CONTEXT middle ≡ []
    → contents_of APPLICATION_CONTEXT (item_of APPLICATION_CONTEXT context ∷ (middle ++ item_of USER_INFORMATION user
    ∷ [])) ≡ context ∷ []
first_kind context middle user e = ap (λ (t : List (List ℕ)). context ∷ t) (contents_append APPLICATION_CONTEXT
    middle (item_of USER_INFORMATION user ∷ []) ∙ ap (λ (t : List (List ℕ)). t ++ []) e)

last_kind : (context : List ℕ) (middle : List Item) (user : List ℕ) → contents_of USER_INFORMATION middle ≡ []
    → contents_of USER_INFORMATION (item_of APPLICATION_CONTEXT context ∷ (middle ++ item_of USER_INFORMATION user
    ∷ [])) ≡ user ∷ []
last_kind context middle user e = contents_append USER_INFORMATION middle (item_of USER_INFORMATION user ∷ [])
    ∙ ap (λ (t : List (List ℕ)). t ++ user ∷ []) e

request_again : (request : Request) → FitsRequest request → IsRequest request (body_text (AssociateRq request))
request_again request fits =
    let f = λ (c : ProposedContext). (proposal_item c).content in
    let contexts = map proposal_item request.contexts in
    let user = items_text (user_items request.user) in
    record {
      text = items_text (request_items request);
      opening = opening_again request.opening (items_text (request_items request)) fits.opening;
      items = request_items request;
      filled = items_fill (request_items request) fits.lengths;
      application_context = (
        request.application_context,
        first_kind request.application_context contexts
            user (contents_other APPLICATION_CONTEXT PROPOSED_CONTEXT f request.contexts refl),
        fits.application_context,
      );
      contexts = subst (Each IsProposal request.contexts)
          (sym (contents_append PROPOSED_CONTEXT contexts (user_item request.user ∷ []) ∙ append-nil _
          ∙ contents_same PROPOSED_CONTEXT f request.contexts refl))
          (each_map IsProposal FitsProposal f proposal_again request.contexts fits.contexts);
      distinct = fits.distinct;
      user = (
        user,
        last_kind request.application_context contexts user (contents_other USER_INFORMATION
            PROPOSED_CONTEXT f request.contexts refl),
        user_again request.user fits.user,
      );
    }

accept_again : (accept : Accept) → FitsAccept accept → IsAccept accept (body_text (AssociateAc accept))
accept_again accept fits =
    let f = λ (c : AnsweredContext). (answer_item c).content in
    let contexts = map answer_item accept.contexts in
    let user = items_text (user_items accept.user) in
    record {
      text = items_text (accept_items accept);
      opening = opening_again accept.opening (items_text (accept_items accept)) fits.opening;
      items = accept_items accept;
      filled = items_fill (accept_items accept) fits.lengths;
      application_context = (
        accept.application_context,
        first_kind accept.application_context contexts
            user (contents_other APPLICATION_CONTEXT ANSWERED_CONTEXT f accept.contexts refl),
        fits.application_context,
      );
      contexts = subst (Each IsAnswer accept.contexts)
          (sym (contents_append ANSWERED_CONTEXT contexts (user_item accept.user ∷ []) ∙ append-nil _
          ∙ contents_same ANSWERED_CONTEXT f accept.contexts refl))
          (each_map IsAnswer FitsAnswer f answer_again accept.contexts fits.contexts);
      distinct = fits.distinct;
      user = (
        user,
        last_kind accept.application_context contexts user (contents_other USER_INFORMATION ANSWERED_CONTEXT
            f accept.contexts refl),
        user_again accept.user fits.user,
      );
    }

command_again : (c l : Bool) → is_command (control_of c l) ≡ c
command_again false false = refl
command_again true false = refl
command_again false true = refl
command_again true true = refl

last_again : (c l : Bool) → is_last (control_of c l) ≡ l
last_again false false = refl
last_again true false = refl
last_again false true = refl
last_again true true = refl

data_again : (vs : List Pdv) → length (flat_map pdv_text vs) ≤ 65536 → Fill BeginsPdv vs (flat_map pdv_text vs)
data_again [] fits = refl
data_again (v ∷ vs) fits =
    let short : length (pdv_text v) + length (flat_map pdv_text vs) ≤ 65536 =
    omega (arith, fits, length-append (pdv_text v) (flat_map pdv_text vs)) in
    let n = 2 + length v.fragment in
    let lt : n < 2 ^ 32 = omega (arith, short) in (
      flat_map pdv_text vs,
      (
        _,
        _,
        _,
        _,
        control_of v.command v.last,
        from_be_bytes-to_be_bytes_4 n lt,
        command_again v.command v.last,
        last_again v.command v.last,
        append_assoc (to_be_bytes w32 n) (v.context ∷ control_of v.command v.last ∷ v.fragment) (flat_map pdv_text vs),
      ),
      data_again vs (omega (arith, short)),
    )

body_again : (p : Pdu) → IsPdu p → IsBody p (body_text p)
body_again (AssociateRq request) fits = request_again request fits
body_again (AssociateAc accept) fits = accept_again accept fits
body_again (AssociateRj reject) fits = (0, refl)
body_again (PData values) fits = (fits.0, data_again values fits.1)
body_again ReleaseRq fits = refl
body_again ReleaseRp fits = refl
body_again (Abort source reason) fits = (0, 0, refl)

opening_long : (opening : Opening) (rest : List ℕ) → FitsOpening opening → 68 ≤ length (opening_text opening ++ rest)
opening_long opening rest fits =
    omega (
      arith,
      fits.called,
      fits.calling,
      fits.reserved,
      length-append (opening_text opening) rest,
      length-append
          opening.called (opening.calling ++ opening.reserved),
      length-append opening.calling opening.reserved,
    )

lawful_request : (n : ℕ) → 68 ≤ n → n ≤ 65536 → header_fault 1 n ≡ None
lawful_request n low high = grind arith

lawful_accept : (n : ℕ) → 68 ≤ n → n ≤ 70000 → header_fault 2 n ≡ None
lawful_accept n low high = grind arith

lawful_data : (n : ℕ) → n ≤ 65536 → header_fault 4 n ≡ None
lawful_data n high = grind arith

-- what is written has a lawful length
pub lawful_body : (p : Pdu) → IsPdu p → header_fault (code_of p) (length (body_text p)) ≡ None
lawful_body (AssociateRq request) fits = lawful_request
    _ (opening_long request.opening (items_text (request_items request)) fits.opening) fits.whole
lawful_body (AssociateAc accept) fits = lawful_accept _ (opening_long accept.opening (items_text (accept_items accept))
    fits.opening) fits.whole
lawful_body (AssociateRj reject) fits = refl
lawful_body (PData values) fits = lawful_data _ fits.1
lawful_body ReleaseRq fits = refl
lawful_body ReleaseRp fits = refl
lawful_body (Abort source reason) fits = refl

pub body_small : (p : Pdu) → IsPdu p → length (body_text p) < 2 ^ 32
body_small (AssociateRq request) fits = omega (arith, fits.whole)
body_small (AssociateAc accept) fits = omega (arith, fits.whole)
body_small (AssociateRj reject) fits = omega arith
body_small (PData values) fits = omega (arith, fits.1)
body_small ReleaseRq fits = omega arith
body_small ReleaseRp fits = omega arith
body_small (Abort source reason) fits = omega arith

-- what is written for a PDU spells it
pub spells_again : (p : Pdu) → IsPdu p → Spells p (text_of p)
unfolding text_of
spells_again p fits = record {
  reserved = 0;
  a = _;
  b = _;
  c = _;
  d = _;
  body = body_text p;
  size = from_be_bytes-to_be_bytes_4 (length (body_text p)) (body_small p fits);
  lawful = lawful_body p fits;
  is_body = body_again p fits;
  parts = refl;
}

-- the same, whatever follows
pub spells_before : (p : Pdu) (more : List ℕ) → IsPdu p → Spells p (take (length (text_of p)) (text_of p ++ more))
spells_before p more fits = subst (Spells p) (sym (take_at (text_of p) more (length (text_of p)) refl))
    (spells_again p fits)
