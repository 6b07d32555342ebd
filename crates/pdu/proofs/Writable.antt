-- What bytes spell is a value that can be written.
use Rattle.std.proofs.Common.{◌≡◌, ℕ, zero, suc, ◌+◌, ◌<◌, ◌≤◌, ◌^◌, Bool, true, false, cond, eqb, ◌&&◌, List, [], ◌∷◌}
use Rattle.std.proofs.Common.{◌++◌, length, take, drop, map, length-append, Option, None, Result, Ok, Err, refl, sym}
use Rattle.std.proofs.Common.{ap, subst, ◌∙◌, arith, ◌⊎◌, inl, inr}
use Rattle.std.specs.Prelude.{IfSome}
use Rattle.std.specs.Int.{w16, w32, to_be_bytes, from_be_bytes}
use Rattle.std.specs.List.{flat_map, AllByRecursion}
use Rattle.std.proofs.lemmas.List.{take-append-drop}
use Rattle.octets.specs.Bytes.{IsBytes}
use Rattle.octets.proofs.ByteLaws.{IsBytes-tail}
use Rattle.pdu.proofs.Sizes.{all_both, item_size, items_size, written_size, body_size, body_long}
use Rattle.pdu.specs.declared.item.TheConstants.{APPLICATION_CONTEXT, PROPOSED_CONTEXT, ANSWERED_CONTEXT}
use Rattle.pdu.specs.declared.item.TheConstants.{ABSTRACT_SYNTAX, TRANSFER_SYNTAX, USER_INFORMATION, MAXIMUM_LENGTH}
use Rattle.pdu.specs.declared.item.TheConstants.{IMPLEMENTATION_CLASS, ROLE_SELECTION}
use Rattle.pdu.specs.declared.item.Item.{Item}
use Rattle.pdu.specs.declared.user.Role.{Role}
use Rattle.pdu.specs.declared.user.UserInformation.{UserInformation}
use Rattle.pdu.specs.declared.context.ProposedContext.{ProposedContext}
use Rattle.pdu.specs.declared.context.AnsweredContext.{AnsweredContext}
use Rattle.pdu.specs.declared.opening.Opening.{Opening}
use Rattle.pdu.specs.declared.request.Request.{Request}
use Rattle.pdu.specs.declared.accept.Accept.{Accept}
use Rattle.pdu.specs.declared.pdv.Pdv.{Pdv}
use Rattle.pdu.specs.declared.value.Pdu.{Pdu}
use Rattle.pdu.specs.declared.value.Pdu.TheVariants.{AssociateRq, AssociateAc, AssociateRj, PData, ReleaseRq, ReleaseRp}
use Rattle.pdu.specs.declared.value.Pdu.TheVariants.{Abort}
use Rattle.pdu.specs.declared.value.Step.{Step}
use Rattle.pdu.specs.declared.value.Step.TheVariants.{Need, Done}
use Rattle.pdu.specs.declared.fault.PduFault.{PduFault}
use Rattle.pdu.specs.Header.{header_fault}
use Rattle.octets.specs.Padding.{without_padding}
use Rattle.octets.proofs.PaddingLaws.{bare_again, bare_is_no_longer}
use Rattle.pdu.specs.Grammar.{Fill, Each, Sole, BeginsItem, contents_of, IsUid, IsLength}
use Rattle.pdu.specs.Grammar.{IsRole, first_or, first_of, IsUser, IsProposal, IsAnswer, BeginsOpening, IsRequest}
use Rattle.pdu.specs.Grammar.{IsAccept, BeginsPdv, IsBody, code_of, Spells, IfDone}
use Rattle.pdu.specs.Spelling.{item_of, items_text, HasLength, role_text, role_item, class_items, user_items}
use Rattle.pdu.specs.Spelling.{syntax_item, proposal_item, answer_item, request_items, accept_items, pdv_text}
use Rattle.pdu.specs.Spelling.{body_text, text_of, IsUidText, FitsRole, FitsUser, FitsProposal, FitsAnswer, FitsOpening}
use Rattle.pdu.specs.Spelling.{FitsRequest, FitsAccept, IsPdu}

-- ---- bytes

bytes_right : (front text : List ℕ) → IsBytes (front ++ text) → IsBytes text
bytes_right [] text h = h
bytes_right (b ∷ bs) text h = bytes_right bs text (IsBytes-tail b (bs ++ text) h)

bytes_left : (front text : List ℕ) → IsBytes (front ++ text) → IsBytes front
bytes_left [] text h i = omega arith
bytes_left (b ∷ bs) text h zero = h zero
bytes_left (b ∷ bs) text h (suc i) = bytes_left bs text (IsBytes-tail b (bs ++ text) h) i

bytes_take : (n : ℕ) (text : List ℕ) → IsBytes text → IsBytes (take n text)
bytes_take n text h = bytes_left (take n text) (drop n text)
    (subst (λ (t : List ℕ). IsBytes t) (sym (take-append-drop n text)) h)

two_bytes : (high low : ℕ) → high < 256 → low < 256 → from_be_bytes w16 (high ∷ low ∷ []) < 2 ^ 16
two_bytes high low p q = omega (arith, p, q)

four_bytes : (a b c d : ℕ) → a < 256 → b < 256 → c < 256 → d < 256 → from_be_bytes w32 (a ∷ b ∷ c ∷ d ∷ []) < 2 ^ 32
four_bytes a b c d p q r s = omega (arith, p, q, r, s)

-- ---- UIDs

uid_fits : (uid content : List ℕ) → IsUid uid content → IsUidText uid
uid_fits uid content is = (is.0 ∙ sym (bare_again content) ∙ ap without_padding (sym is.0), is.1)

uid_short : (uid content : List ℕ) → IsUid uid content → length uid ≤ length content
uid_short uid content is = omega (arith, ap length is.0, bare_is_no_longer content)

-- ---- items

-- what stands in an item of a text
abbrev IsContent : List ℕ → Type 0
IsContent content = (length content < 2 ^ 16) × IsBytes content

-- how much contents take with what stands before each
abbrev sizes : List (List ℕ) → ℕ
sizes [] = 0
sizes (c ∷ cs) = 4 + length c + sizes cs

fill_contents : (items : List Item) (text : List ℕ) → IsBytes text → Fill BeginsItem items text
    → AllByRecursion (λ i. IsContent i.content) items
fill_contents [] text h fill = tt
fill_contents (i ∷ is) text h (rest, (reserved, high, low, size, parts), fill) =
    let all : IsBytes (i.kind ∷ reserved ∷ high ∷ low ∷ (i.content ++ rest)) = subst (λ (t : List ℕ). IsBytes t) parts h
    in
    let behind : IsBytes (i.content ++ rest) = λ n. all (suc (suc (suc (suc n)))) in (
      (omega (arith, two_bytes high low (all 2) (all 3), size), bytes_left i.content rest behind),
      fill_contents is
          rest (bytes_right i.content rest behind) fill,
    )

fill_size : (items : List Item) (text : List ℕ) → Fill BeginsItem items text → length text ≡ length (items_text items)
fill_size [] text fill = ap length fill
fill_size (i ∷ is) text (rest, (reserved, high, low, size, parts), fill) =
    omega (arith, ap length parts, length-append i.content rest, item_size i is, fill_size is rest fill)

contents_all : (k : ℕ) (items : List Item) → AllByRecursion (λ i. IsContent i.content) items
    → AllByRecursion IsContent (contents_of k items)
contents_all k [] all = tt
contents_all k (i ∷ is) all = by_kind (eqb i.kind k) i.content (contents_of k is) all.0 (contents_all k is all.1)
  where
    by_kind : (b : Bool) (c : List ℕ) (cs : List (List ℕ)) → IsContent c → AllByRecursion IsContent cs
        → AllByRecursion IsContent (cond b (c ∷ cs) cs)
    by_kind true c cs one others = (one, others)
    by_kind false c cs one others = others

-- an item is of one kind
one_kind : (n i j : ℕ) → eqb i j ≡ false → (eqb n i && eqb n j) ≡ false
one_kind n i j apart = grind (arith, apart)

three_at : (a b d : Bool) (c : List ℕ) (xs ys zs : List (List ℕ)) (rest : ℕ) → (a && b) ≡ false → (a && d) ≡ false
    → (b && d) ≡ false → sizes xs + sizes ys + sizes zs ≤ rest
    → sizes (cond a (c ∷ xs) xs) + sizes (cond b (c ∷ ys) ys) + sizes (cond d (c ∷ zs) zs) ≤ 4 + length c + rest
three_at true true d c xs ys zs rest p q r le = absurd cc
three_at true false true c xs ys zs rest p q r le = absurd cc
three_at true false false c xs ys zs rest p q r le = omega (arith, le)
three_at false true true c xs ys zs rest p q r le = absurd cc
three_at false true false c xs ys zs rest p q r le = omega (arith, le)
three_at false false true c xs ys zs rest p q r le = omega (arith, le)
three_at false false false c xs ys zs rest p q r le = omega (arith, le)

-- the items of three kinds take no more than all
three_kinds : (i j k : ℕ) (items : List Item) → eqb i j ≡ false → eqb i k ≡ false → eqb j k ≡ false
    → sizes (contents_of i items) + sizes (contents_of j items) + sizes (contents_of k items) ≤
    length (items_text items)
three_kinds i j k [] p q r = omega arith
three_kinds i j k (x ∷ xs) p q r =
    let e = item_size x xs in
    let le = three_at (eqb x.kind i) (eqb x.kind j) (eqb x.kind k) x.content (contents_of i xs) (contents_of j xs)
    (contents_of k xs) (length (items_text xs)) (one_kind x.kind i j p) (one_kind x.kind i k q)
    (one_kind x.kind j k r) (three_kinds i j k xs p q r) in
    omega (arith, e, le)

-- ---- a value for each content

each_fits : {V : Type 0} (Is : V → List ℕ → Type 0) (Fits : V → Type 0) → ((v : V) (c : List ℕ) → IsContent c → Is v c
    → Fits v) → (vs : List V) (cs : List (List ℕ)) → AllByRecursion IsContent cs → Each Is vs cs → AllByRecursion Fits
    vs
each_fits Is Fits one [] [] all each = tt
each_fits Is Fits one [] (c ∷ cs) all each = absurd each
each_fits Is Fits one (v ∷ vs) [] all each = absurd each
each_fits Is Fits one (v ∷ vs) (c ∷ cs) all each = (one v c all.0 each.0, each_fits Is Fits one vs cs all.1 each.1)

each_long : {V : Type 0} (Is : V → List ℕ → Type 0) (g : V → Item)
    → ((v : V) (c : List ℕ) → Is v c → length (g v).content ≤ length c) → (vs : List V) (cs : List (List ℕ))
    → AllByRecursion IsContent cs → Each Is vs cs → AllByRecursion HasLength (map g vs)
each_long Is g one [] [] all each = tt
each_long Is g one [] (c ∷ cs) all each = absurd each
each_long Is g one (v ∷ vs) [] all each = absurd each
each_long Is g one (v ∷ vs) (c ∷ cs) all each = (
  omega (arith, one v c each.0, all.0.0),
  each_long Is g one vs cs all.1
      each.1,
)

each_size : {V : Type 0} (Is : V → List ℕ → Type 0) (g : V → Item)
    → ((v : V) (c : List ℕ) → Is v c → length (g v).content ≤ length c) → (vs : List V) (cs : List (List ℕ))
    → Each Is vs cs → length (items_text (map g vs)) ≤ sizes cs
each_size Is g one [] [] each = omega arith
each_size Is g one [] (c ∷ cs) each = absurd each
each_size Is g one (v ∷ vs) [] each = absurd each
each_size Is g one (v ∷ vs) (c ∷ cs) each = omega (
  arith,
  item_size (g v) (map g vs),
  one v c each.0,
  each_size Is g one
      vs cs each.1,
)

sole_content : {V : Type 0} (Is : V → List ℕ → Type 0) (v : V) (cs : List (List ℕ)) → AllByRecursion IsContent cs
    → (sole : Sole Is v cs) → IsContent sole.0
sole_content Is v cs all sole = (subst (λ (t : List (List ℕ)). AllByRecursion IsContent t) sole.1 all).0

sole_size : {V : Type 0} (Is : V → List ℕ → Type 0) (v : V) (cs : List (List ℕ)) → (sole : Sole Is v cs)
    → sizes cs ≡ 4 + length sole.0
sole_size Is v cs sole = ap sizes sole.1 ∙ omega arith

-- ---- user information

role_short : (role : Role) (content : List ℕ) → IsRole role content → length (role_text role) ≤ length content
role_short role content r =
    omega (
      arith,
      ap length r.parts,
      length-append r.text (role.scu ∷ role.scp ∷ []),
      length-append role.class
          (role.scu ∷ role.scp ∷ []),
      uid_short role.class r.text r.uid,
    )

role_fits : (role : Role) (content : List ℕ) → IsContent content → IsRole role content → FitsRole role
role_fits role content is r = record {
  class = uid_fits role.class r.text r.uid;
  short = omega (
    arith,
    is.0,
    ap length r.parts,
    length-append r.text (role.scu ∷ role.scp ∷ []),
    uid_short role.class
        r.text r.uid,
  );
}

length_fits : (n : ℕ) (content : List ℕ) → IsContent content → IsLength n content → n < 2 ^ 32
length_fits n content is (a, b, c, d, value, parts) =
    let h : IsBytes (a ∷ b ∷ c ∷ d ∷ []) = subst (λ (t : List ℕ). IsBytes t) parts is.1 in
    omega (arith, four_bytes a b c d (h 0) (h 1) (h 2) (h 3), value)

first_fits : (n : ℕ) (ns : List ℕ) → first_or 0 ns ≡ n → AllByRecursion (λ m. m < 2 ^ 32) ns → n < 2 ^ 32
first_fits n [] is all = omega (arith, is)
first_fits n (m ∷ ms) is all = omega (arith, is, all.0)

class_fits : (class : Option (List ℕ)) (classes : List (List ℕ)) → first_of classes ≡ class → AllByRecursion IsUidText
    classes → IfSome class IsUidText
class_fits class [] is all = subst (λ (o : Option (List ℕ)). IfSome o IsUidText) is tt
class_fits class (c ∷ cs) is all = subst (λ (o : Option (List ℕ)). IfSome o IsUidText) is all.0

abbrev length_part : Bool → ℕ → List Item
length_part b n = cond b [] (item_of MAXIMUM_LENGTH (to_be_bytes w32 n) ∷ [])

length_long : (b : Bool) (n : ℕ) → AllByRecursion HasLength (length_part b n)
length_long true n = tt
length_long false n = (omega arith, tt)

length_size : (b : Bool) (n : ℕ) (ns : List ℕ) (cs : List (List ℕ)) → eqb n 0 ≡ b → first_or 0 ns ≡ n
    → Each IsLength ns cs → length (items_text (length_part b n)) ≤ sizes cs
length_size true n ns cs test is each = omega arith
length_size false n [] cs test is each = absurd (grind (arith, test, is))
length_size false n (m ∷ ms) [] test is each = absurd each
length_size false n (m ∷ ms) (c ∷ cs) test is ((a, b, d, e, value, parts), each) = omega (arith, ap length parts)

class_long : (class : Option (List ℕ)) (classes cs : List (List ℕ)) → first_of classes ≡ class
    → AllByRecursion IsContent cs → Each IsUid classes cs → AllByRecursion HasLength (class_items class)
class_long class [] cs is all each = subst (λ (o : Option (List ℕ)). AllByRecursion HasLength (class_items o)) is tt
class_long class (u ∷ us) [] is all each = absurd each
class_long class (u ∷ us) (c ∷ cs) is all each = subst (λ (o : Option (List ℕ)). AllByRecursion HasLength
    (class_items o)) is (omega (arith, uid_short u c each.0, all.0.0), tt)

class_size : (class : Option (List ℕ)) (classes cs : List (List ℕ)) → first_of classes ≡ class → Each IsUid classes cs
    → length (items_text (class_items class)) ≤ sizes cs
class_size class [] cs is each = subst (λ (o : Option (List ℕ)). length (items_text (class_items o)) ≤ sizes cs)
    is (omega arith)
class_size class (u ∷ us) [] is each = absurd each
class_size class (u ∷ us) (c ∷ cs) is each =
    subst (λ (o : Option (List ℕ)). length (items_text (class_items o)) ≤ sizes (c ∷ cs))
    is (omega (arith, item_size (item_of IMPLEMENTATION_CLASS u) [], uid_short u c each.0))

user_short : (user : UserInformation) (text : List ℕ) → IsUser user text → length (items_text (user_items user)) ≤
    length text
user_short user text h =
    let b = eqb user.maximum_length 0 in
    let parts = three_kinds MAXIMUM_LENGTH IMPLEMENTATION_CLASS ROLE_SELECTION h.items refl refl refl in
    let lengths = length_size b user.maximum_length h.lengths (contents_of MAXIMUM_LENGTH h.items) refl h.maximum_length
    h.are_lengths in
    let classes = class_size user.implementation_class h.classes (contents_of IMPLEMENTATION_CLASS h.items)
    h.implementation_class h.are_classes in
    let roles = each_size IsRole role_item role_short user.roles (contents_of ROLE_SELECTION h.items) h.roles in
    omega (
      arith,
      fill_size h.items text h.filled,
      parts,
      lengths,
      classes,
      roles,
      items_size (length_part b user.maximum_length) (class_items user.implementation_class ++ map role_item
          user.roles),
      items_size (class_items user.implementation_class) (map role_item user.roles),
    )

user_fits : (user : UserInformation) (text : List ℕ) → IsContent text → IsUser user text → FitsUser user
user_fits user text is h =
    let b = eqb user.maximum_length 0 in
    let all = fill_contents h.items text is.1 h.filled in
    record {
      maximum_length = first_fits user.maximum_length h.lengths h.maximum_length (each_fits IsLength (λ n. n < 2 ^ 32)
          length_fits h.lengths _ (contents_all MAXIMUM_LENGTH h.items all) h.are_lengths);
      class = class_fits user.implementation_class h.classes h.implementation_class
          (each_fits IsUid IsUidText (λ uid c content is_uid. uid_fits uid c is_uid) h.classes
          _ (contents_all IMPLEMENTATION_CLASS h.items all) h.are_classes);
      roles = each_fits IsRole FitsRole role_fits user.roles _ (contents_all ROLE_SELECTION h.items all) h.roles;
      lengths = all_both HasLength (length_part b user.maximum_length) (class_items user.implementation_class ++ map
          role_item user.roles) (length_long b user.maximum_length)
          (all_both HasLength (class_items user.implementation_class) (map role_item user.roles)
          (class_long user.implementation_class h.classes _ h.implementation_class (contents_all IMPLEMENTATION_CLASS
          h.items all) h.are_classes)
          (each_long IsRole role_item role_short user.roles _ (contents_all ROLE_SELECTION h.items all) h.roles));
    }

-- ---- presentation contexts

proposal_short : (context : ProposedContext) (content : List ℕ) → IsProposal context content
    → length (proposal_item context).content ≤ length content
proposal_short context content h =
    let syntaxes = each_size IsUid syntax_item uid_short context.transfer_syntaxes (contents_of TRANSFER_SYNTAX h.items)
    h.transfer_syntaxes in
    omega (
      arith,
      ap length h.parts,
      fill_size h.items h.text h.filled,
      three_kinds ABSTRACT_SYNTAX TRANSFER_SYNTAX ROLE_SELECTION h.items refl refl refl,
      sole_size IsUid context.abstract_syntax (contents_of ABSTRACT_SYNTAX h.items) h.abstract_syntax,
      uid_short context.abstract_syntax h.abstract_syntax.0 h.abstract_syntax.2,
      item_size (item_of ABSTRACT_SYNTAX context.abstract_syntax) (map syntax_item context.transfer_syntaxes),
      syntaxes,
    )

proposal_fits : (context : ProposedContext) (content : List ℕ) → IsContent content → IsProposal context content
    → FitsProposal context
proposal_fits context content is h =
    let whole : IsBytes (context.id ∷ h.a ∷ h.b ∷ h.c ∷ h.text) = subst (λ (t : List ℕ). IsBytes t) h.parts is.1 in
    let all = fill_contents h.items h.text (λ i. whole (suc (suc (suc (suc i))))) h.filled in
    let one = sole_content IsUid context.abstract_syntax (contents_of ABSTRACT_SYNTAX h.items)
    (contents_all ABSTRACT_SYNTAX h.items all) h.abstract_syntax in
    record {
      odd = h.odd;
      abstract_syntax = uid_fits context.abstract_syntax h.abstract_syntax.0 h.abstract_syntax.2;
      some = h.some;
      transfer_syntaxes = each_fits IsUid IsUidText (λ uid c content is_uid. uid_fits uid c is_uid)
          context.transfer_syntaxes _ (contents_all TRANSFER_SYNTAX h.items all) h.transfer_syntaxes;
      lengths = (
        omega (arith, one.0, uid_short context.abstract_syntax h.abstract_syntax.0 h.abstract_syntax.2),
        each_long IsUid syntax_item uid_short context.transfer_syntaxes _ (contents_all TRANSFER_SYNTAX h.items all)
            h.transfer_syntaxes,
      );
    }

answer_short : (context : AnsweredContext) (content : List ℕ) → IsAnswer context content
    → length (answer_item context).content ≤ length content
answer_short context content h =
    omega (
      arith,
      ap length h.parts,
      fill_size h.items h.text h.filled,
      three_kinds TRANSFER_SYNTAX ABSTRACT_SYNTAX ROLE_SELECTION h.items refl refl refl,
      sole_size IsUid context.transfer_syntax (contents_of TRANSFER_SYNTAX h.items) h.transfer_syntax,
      uid_short context.transfer_syntax h.transfer_syntax.0 h.transfer_syntax.2,
      item_size (syntax_item context.transfer_syntax) [],
    )

answer_fits : (context : AnsweredContext) (content : List ℕ) → IsContent content → IsAnswer context content
    → FitsAnswer context
answer_fits context content is h =
    let whole : IsBytes (context.id ∷ h.a ∷ context.result ∷ h.b ∷ h.text) = subst (λ (t : List ℕ). IsBytes t) h.parts
    is.1 in
    let all = fill_contents h.items h.text (λ i. whole (suc (suc (suc (suc i))))) h.filled in
    let one = sole_content IsUid context.transfer_syntax (contents_of TRANSFER_SYNTAX h.items)
    (contents_all TRANSFER_SYNTAX h.items all) h.transfer_syntax in
    record {
      odd = h.odd;
      transfer_syntax = uid_fits context.transfer_syntax h.transfer_syntax.0 h.transfer_syntax.2;
      lengths = (omega (arith, one.0, uid_short context.transfer_syntax h.transfer_syntax.0 h.transfer_syntax.2), tt);
    }

-- ---- bodies

opening_fits : (opening : Opening) (body text : List ℕ) → IsBytes body → BeginsOpening opening body text
    → FitsOpening opening
opening_fits opening body text is h =
    let all : IsBytes (h.high ∷ h.low ∷ h.a ∷ h.b ∷ (opening.called ++ (opening.calling ++ (opening.reserved ++ text))))
    = subst (λ (t : List ℕ). IsBytes t) h.parts is in
    record {
      version = omega (arith, two_bytes h.high h.low (all 0) (all 1), h.version);
      called = h.called;
      calling =
          h.calling;
      reserved = h.reserved;
    }

-- what stands behind an opening
behind_opening : (opening : Opening) (body text : List ℕ) → IsBytes body → BeginsOpening opening body text
    → IsBytes text
behind_opening opening body text is h =
    let all : IsBytes (h.high ∷ h.low ∷ h.a ∷ h.b ∷ (opening.called ++ (opening.calling ++ (opening.reserved ++ text))))
    = subst (λ (t : List ℕ). IsBytes t) h.parts is in
    bytes_right opening.reserved text (bytes_right opening.calling (opening.reserved ++ text)
    (bytes_right opening.called (opening.calling ++ (opening.reserved ++ text))
    (λ i. all (suc (suc (suc (suc i)))))))

opening_size : (opening : Opening) (body text : List ℕ) → BeginsOpening opening body text → length body ≡ 68 + length
    text
opening_size opening body text h =
    omega (
      arith,
      ap length h.parts,
      h.called,
      h.calling,
      h.reserved,
      length-append opening.called (opening.calling ++ (opening.reserved ++ text)),
      length-append opening.calling (opening.reserved ++ text),
      length-append opening.reserved text,
    )

request_short : (request : Request) (body : List ℕ) → IsBytes body → IsRequest request body
    → length (body_text (AssociateRq request)) ≤ length body
request_short request body is h =
    omega (
      arith,
      opening_size request.opening body h.text h.opening,
      written_size request.opening (items_text (request_items request)) (opening_fits request.opening body h.text is
          h.opening),
      body_size request.application_context (map proposal_item request.contexts) (items_text (user_items request.user)),
      fill_size h.items h.text h.filled,
      three_kinds APPLICATION_CONTEXT PROPOSED_CONTEXT USER_INFORMATION h.items refl refl refl,
      sole_size IsUid request.application_context (contents_of APPLICATION_CONTEXT h.items) h.application_context,
      uid_short request.application_context h.application_context.0 h.application_context.2,
      each_size IsProposal proposal_item proposal_short request.contexts (contents_of PROPOSED_CONTEXT h.items)
          h.contexts,
      sole_size IsUser request.user (contents_of USER_INFORMATION h.items) h.user,
      user_short request.user h.user.0 h.user.2,
    )

request_fits : (request : Request) (body : List ℕ) → IsBytes body → length body ≤ 65536 → IsRequest request body
    → FitsRequest request
request_fits request body is le h =
    let all = fill_contents h.items h.text (behind_opening request.opening body h.text is h.opening) h.filled in
    let context = sole_content IsUid request.application_context (contents_of APPLICATION_CONTEXT h.items)
    (contents_all APPLICATION_CONTEXT h.items all) h.application_context in
    let user = sole_content IsUser request.user (contents_of USER_INFORMATION h.items)
    (contents_all USER_INFORMATION h.items all) h.user in
    record {
      opening = opening_fits request.opening body h.text is h.opening;
      application_context = uid_fits request.application_context h.application_context.0 h.application_context.2;
      contexts = each_fits IsProposal FitsProposal proposal_fits request.contexts
          _ (contents_all PROPOSED_CONTEXT h.items all) h.contexts;
      distinct = h.distinct;
      user = user_fits request.user h.user.0 user h.user.2;
      lengths = body_long request.application_context (map proposal_item request.contexts)
          (items_text (user_items request.user))
          (omega (
            arith,
            context.0,
            uid_short request.application_context h.application_context.0
                h.application_context.2,
          ))
          (each_long IsProposal proposal_item proposal_short request.contexts _ (contents_all PROPOSED_CONTEXT h.items
          all) h.contexts)
          (omega (arith, user.0, user_short request.user h.user.0 h.user.2));
      whole = omega (arith, le, request_short request body is h);
    }

accept_short : (accept : Accept) (body : List ℕ) → IsBytes body → IsAccept accept body
    → length (body_text (AssociateAc accept)) ≤ length body
accept_short accept body is h =
    omega (
      arith,
      opening_size accept.opening body h.text h.opening,
      written_size accept.opening (items_text (accept_items accept)) (opening_fits accept.opening body h.text is
          h.opening),
      body_size accept.application_context (map answer_item accept.contexts) (items_text (user_items accept.user)),
      fill_size h.items h.text h.filled,
      three_kinds APPLICATION_CONTEXT ANSWERED_CONTEXT USER_INFORMATION h.items refl refl refl,
      sole_size IsUid accept.application_context (contents_of APPLICATION_CONTEXT h.items) h.application_context,
      uid_short accept.application_context h.application_context.0 h.application_context.2,
      each_size IsAnswer answer_item answer_short accept.contexts (contents_of ANSWERED_CONTEXT h.items) h.contexts,
      sole_size IsUser accept.user (contents_of USER_INFORMATION h.items) h.user,
      user_short accept.user h.user.0 h.user.2,
    )

accept_fits : (accept : Accept) (body : List ℕ) → IsBytes body → length body ≤ 70000 → IsAccept accept body
    → FitsAccept accept
accept_fits accept body is le h =
    let all = fill_contents h.items h.text (behind_opening accept.opening body h.text is h.opening) h.filled in
    let context = sole_content IsUid accept.application_context (contents_of APPLICATION_CONTEXT h.items)
    (contents_all APPLICATION_CONTEXT h.items all) h.application_context in
    let user = sole_content IsUser accept.user (contents_of USER_INFORMATION h.items)
    (contents_all USER_INFORMATION h.items all) h.user in
    record {
      opening = opening_fits accept.opening body h.text is h.opening;
      application_context = uid_fits accept.application_context h.application_context.0 h.application_context.2;
      contexts = each_fits IsAnswer FitsAnswer answer_fits accept.contexts _ (contents_all ANSWERED_CONTEXT h.items all)
          h.contexts;
      distinct = h.distinct;
      user = user_fits accept.user h.user.0 user h.user.2;
      lengths = body_long accept.application_context (map answer_item accept.contexts)
          (items_text (user_items accept.user))
          (omega (
            arith,
            context.0,
            uid_short accept.application_context h.application_context.0
                h.application_context.2,
          ))
          (each_long IsAnswer answer_item answer_short accept.contexts _ (contents_all ANSWERED_CONTEXT h.items all)
          h.contexts)
          (omega (arith, user.0, user_short accept.user h.user.0 h.user.2));
      whole = omega (arith, le, accept_short accept body is h);
    }

data_size : (values : List Pdv) (body : List ℕ) → Fill BeginsPdv values body
    → length body ≡ length (flat_map pdv_text values)
data_size [] body fill = ap length fill
data_size (v ∷ vs) body (rest, (a, b, c, d, control, size, command, last, parts), fill) =
    omega (
      arith,
      ap length parts,
      length-append v.fragment rest,
      length-append (pdv_text v) (flat_map pdv_text vs),
      data_size vs rest fill,
    )

short_request : (n : ℕ) → header_fault 1 n ≡ None → n ≤ 65536
short_request n e = grind (arith, e)

short_accept : (n : ℕ) → header_fault 2 n ≡ None → n ≤ 70000
short_accept n e = grind (arith, e)

short_data : (n : ℕ) → header_fault 4 n ≡ None → n ≤ 65536
short_data n e = grind (arith, e)

-- what stands behind a header
behind_header : (p : Pdu) (text : List ℕ) → IsBytes text → (s : Spells p text) → IsBytes s.body
behind_header p text is s = λ i. (subst (λ (t : List ℕ). IsBytes t) s.parts is) (suc (suc (suc (suc (suc (suc i))))))

-- whatever bytes are the body of can be written
pub body_writable : (p : Pdu) (body : List ℕ) → IsBytes body → header_fault (code_of p) (length body) ≡ None
    → IsBody p body → IsPdu p
body_writable (AssociateRq request) body is lawful h = request_fits request body is (short_request (length body) lawful)
    h
body_writable (AssociateAc accept) body is lawful h = accept_fits accept body is (short_accept (length body) lawful) h
body_writable (AssociateRj reject) body is lawful h = tt
body_writable (PData values) body is lawful h =
    (h.0, omega (arith, short_data (length body) lawful, data_size values body h.1))
body_writable ReleaseRq body is lawful h = tt
body_writable ReleaseRp body is lawful h = tt
body_writable (Abort source reason) body is lawful h = tt

-- whatever bytes spell can be written
pub writable : (text : List ℕ) (p : Pdu) → IsBytes text → Spells p text → IsPdu p
writable text p is s = body_writable p s.body (behind_header p text is s) s.lawful s.is_body

fixed_size : (code n : ℕ) → (code ≡ 3) ⊎ ((code ≡ 5) ⊎ ((code ≡ 6) ⊎ (code ≡ 7))) → header_fault code n ≡ None → n ≡ 4
fixed_size code n which e = grind (arith, which, e)

body_short : (p : Pdu) (body : List ℕ) → IsBytes body → header_fault (code_of p) (length body) ≡ None → IsBody p body
    → length (body_text p) ≤ length body
body_short (AssociateRq request) body is lawful h = request_short request body is h
body_short (AssociateAc accept) body is lawful h = accept_short accept body is h
body_short (AssociateRj reject) body is lawful h = omega (arith, fixed_size 3 (length body) (inl refl) lawful)
body_short (PData values) body is lawful h = omega (arith, data_size values body h.1)
body_short ReleaseRq body is lawful h = omega (arith, fixed_size 5 (length body) (inr (inl refl)) lawful)
body_short ReleaseRp body is lawful h = omega (arith, fixed_size 6 (length body) (inr (inr (inl refl))) lawful)
body_short (Abort source reason) body is lawful h = omega (
  arith,
  fixed_size 7 (length body) (inr (inr (inr refl)))
      lawful,
)

text_size : (p : Pdu) → length (text_of p) ≡ 6 + length (body_text p)
unfolding text_of
text_size p = omega (arith, length-append (to_be_bytes w32 (length (body_text p))) (body_text p))

-- what is written for it is no longer
pub no_longer : (text : List ℕ) (p : Pdu) → IsBytes text → Spells p text → length (text_of p) ≤ length text
no_longer text p is s = omega (
  arith,
  text_size p,
  ap length s.parts,
  body_short p s.body (behind_header p text is s)
      s.lawful s.is_body,
)

-- what was read of bytes
pub read_writable : (r : Result Step PduFault) (bytes : List ℕ) → IsBytes bytes → IfDone r (λ p n. (n ≤ length bytes)
    × Spells p (take n bytes)) → IfDone r (λ p n. IsPdu p)
read_writable (Ok Need) bytes is done = tt
read_writable (Ok (Done p n)) bytes is done = writable (take n bytes) p (bytes_take n bytes is) done.1
read_writable (Err fault) bytes is done = tt
