-- What an item's content says is what it has, and the other way round.
use Rattle.std.proofs.Common.{◌≡◌, ◌≢◌, ℕ, zero, suc, ◌+◌, Bool, true, false, not, cond, eqb, ◌&&◌, List, [], ◌∷◌, ◌++◌}
use Rattle.std.proofs.Common.{length, take, drop, get_or, length-append, length-drop, drop-cons, Option, Result, Ok}
use Rattle.std.proofs.Common.{Err, refl, sym, ap, subst, ◌∙◌, arith}
use Rattle.std.specs.List.{list_all}
use Rattle.std.specs.Int.{w16, w32, from_be_bytes}
use Rattle.std.proofs.lemmas.List.{take_at, drop_at, take-append-drop, length-take, nil_from_length}
use Rattle.std.proofs.lemmas.Bool.{and_parts as and_true, eqb-true as eq_of_test, eq-eqb as test_of_eq}
use Rattle.octets.specs.Gives.{◌>>=◌}
use Rattle.octets.proofs.ByteLaws.{bind_ok, guard_end, ok_is, done}
use Rattle.pdu.specs.declared.item.TheConstants.{ABSTRACT_SYNTAX, TRANSFER_SYNTAX, MAXIMUM_LENGTH, IMPLEMENTATION_CLASS}
use Rattle.pdu.specs.declared.item.TheConstants.{ROLE_SELECTION}
use Rattle.pdu.specs.declared.item.Item.{Item}
use Rattle.pdu.specs.declared.fault.PduFault.{PduFault}
use Rattle.pdu.specs.declared.fault.PduFault.TheVariants.{BadItem}
use Rattle.pdu.specs.declared.user.Role.{Role}
use Rattle.pdu.specs.declared.user.UserInformation.{UserInformation}
use Rattle.pdu.specs.declared.context.ProposedContext.{ProposedContext}
use Rattle.pdu.specs.declared.context.AnsweredContext.{AnsweredContext}
use Rattle.octets.specs.Graphic.{is_graphic}
use Rattle.octets.specs.Padding.{without_padding}
use Rattle.pdu.specs.Grammar.{Fill, Each, BeginsItem, contents_of, IsUid, IsLength, IsRole, first_or, first_of, IsUser}
use Rattle.pdu.specs.Grammar.{is_odd, IsProposal, IsAnswer}
use Rattle.pdu.specs.Reading.{pieces_of, item_at, each_at, sole_at, uid_at, length_at, role_at, user_at, proposal_at}
use Rattle.pdu.specs.Reading.{answer_at}
use Rattle.pdu.proofs.Pieces.{FoundIn, AgainIn, pieces-found, pieces-again, each-found, each-again, sole-found}
use Rattle.pdu.proofs.Pieces.{sole-again}
use Rattle.pdu.proofs.Items.{item-found, item-again, item-shorter}

-- a test that was passed before a reading
pub tested : {A : Type 0} (t : Bool) (read : Result A PduFault) (x : A) → cond t read (Err BadItem) ≡ Ok x → (t ≡ true)
    × (read ≡ Ok x)
tested true read x e = (refl, e)
tested false read x e = absurd cc

-- ---- UIDs and lengths

pub uid-found : FoundIn uid_at IsUid
unfolding uid_at
uid-found content v e =
    let g = guard_end (list_all is_graphic (without_padding content)) BadItem (without_padding content) v e in
    (sym g.1, subst (λ u. list_all is_graphic u ≡ true) g.1 g.0)

pub uid-again : AgainIn uid_at IsUid
unfolding uid_at
uid-again v content (is, graphic) =
    let g : list_all is_graphic (without_padding content) ≡ true =
    subst (λ u. list_all is_graphic u ≡ true) is graphic in
    rw g (ap Ok (sym is))

pub length-found : FoundIn length_at IsLength
length-found (a ∷ b ∷ c ∷ d ∷ []) n e = (a, b, c, d, ok_is PduFault (from_be_bytes w32 (a ∷ b ∷ c ∷ d ∷ [])) n e, refl)
length-found _ n e = absurd cc

pub length-again : AgainIn length_at IsLength
length-again n content (a, b, c, d, is, parts) = ap length_at parts ∙ ap Ok is

-- ---- roles

abbrev role : List ℕ → ℕ → ℕ → Role
role class scu scp = record { class = class; scu = scu; scp = scp }

two_last : (size : ℕ) (rest : List ℕ) → length rest ≡ size + 2 → rest ≡ take size rest ++ get_or rest size 0 ∷ get_or
    rest (size + 1) 0 ∷ []
two_last size rest len =
    let one : drop size rest ≡ get_or rest size 0 ∷ drop (suc size) rest = drop-cons rest size 0 (omega (arith, len)) in
    let two : drop (suc size) rest ≡ get_or rest (suc size) 0 ∷ drop (suc (suc size)) rest = drop-cons rest (suc size)
    0 (omega (arith, len)) in
    let none : drop (suc (suc size)) rest ≡ [] = nil_from_length (drop (suc (suc size)) rest)
    (omega (arith, length-drop (suc (suc size)) rest, len)) in
    let next : suc size ≡ size + 1 = omega arith in
    sym (take-append-drop size rest) ∙ ap (λ (t : List ℕ). take size rest ++ t)
    (one ∙ ap (λ (t : List ℕ). get_or rest size 0 ∷ t) (two ∙ ap (λ (t : List ℕ). get_or rest (suc size) 0 ∷ t)
    none))
    ∙ ap (λ (n : ℕ). take size rest ++ get_or rest size 0 ∷ get_or rest n 0 ∷ []) next

pub role-found : FoundIn role_at IsRole
unfolding role_at
role-found (high ∷ low ∷ rest) v e =
    let size = from_be_bytes w16 (high ∷ low ∷ []) in
    let last = λ (class : List ℕ). role class (get_or rest size 0) (get_or rest (size + 1) 0) in
    let t = tested (eqb (length rest) (size + 2)) (uid_at (take size rest) >>= λ class. Ok (last class)) v e in
    let len : length rest ≡ size + 2 = eq_of_test _ _ t.0 in
    let u = bind_ok (uid_at (take size rest)) (λ class. Ok (last class)) v t.1 in
    subst (λ r. IsRole r (high ∷ low ∷ rest)) (ok_is PduFault (last u.0) v u.2) (record {
      high = high;
      low = low;
      text = take size rest;
      size = omega (arith, len, length-take size rest);
      uid = uid-found (take size rest) u.0 u.1;
      parts = ap (λ (t : List ℕ). high ∷ low ∷ t) (two_last size rest len);
    })
role-found _ v e = absurd cc

last_two : (size : ℕ) (text : List ℕ) (p q : ℕ) → size ≡ length text → drop size (text ++ p ∷ q ∷ []) ≡ p ∷ q ∷ []
last_two size text p q is = drop_at text (p ∷ q ∷ []) size (sym is)

read_role : (size : ℕ) (class text : List ℕ) (p q : ℕ) → size ≡ length text → uid_at text ≡ Ok class
    → cond (eqb (length (text ++ p ∷ q ∷ [])) (size + 2)) (uid_at (take size (text ++ p ∷ q ∷ [])) >>=
    λ c. Ok (role c (get_or (text ++ p ∷ q ∷ []) size 0) (get_or (text ++ p ∷ q ∷ []) (size + 1) 0))) (Err BadItem) ≡ Ok
    (role class p q)
read_role size class text p q is uid =
    let long : eqb (length (text ++ p ∷ q ∷ [])) (size + 2) ≡ true = test_of_eq _
    _ (omega (arith, is, length-append text (p ∷ q ∷ []))) in
    let cut : take size (text ++ p ∷ q ∷ []) ≡ text = take_at text (p ∷ q ∷ []) size (sym is) in
    let first : get_or (text ++ p ∷ q ∷ []) size 0 ≡ p = at_length size text p q is in
    let second : get_or (text ++ p ∷ q ∷ []) (size + 1) 0 ≡ q = past_length size text p q is in
    rw (long, cut, uid, first, second) refl
  where
    at_length : (size : ℕ) (text : List ℕ) (p q : ℕ) → size ≡ length text → get_or (text ++ p ∷ q ∷ []) size 0 ≡ p
    at_length size [] p q is = ap (λ (n : ℕ). get_or (p ∷ q ∷ []) n 0) is
    at_length zero (t ∷ ts) p q is = absurd (omega (arith, is))
    at_length (suc n) (t ∷ ts) p q is = at_length n ts p q (omega (arith, is))

    past_length : (size : ℕ) (text : List ℕ) (p q : ℕ) → size ≡ length text → get_or (text ++ p ∷ q ∷ []) (size + 1)
        0 ≡ q
    past_length size text p q is = ap (λ (n : ℕ). get_or (text ++ p ∷ q ∷ []) n 0) (omega (arith, is)) ∙ behind text p q
      where
        behind : (text : List ℕ) (p q : ℕ) → get_or (text ++ p ∷ q ∷ []) (suc (length text)) 0 ≡ q
        behind [] p q = refl
        behind (t ∷ ts) p q = behind ts p q

pub role-again : AgainIn role_at IsRole
unfolding role_at
role-again v content r =
    ap role_at r.parts ∙ read_role (from_be_bytes w16 (r.high ∷ r.low ∷ [])) v.class r.text v.scu v.scp
    r.size (uid-again v.class r.text r.uid)

-- ---- user information

abbrev user : ℕ → Option (List ℕ) → List Role → UserInformation
user n class roles = record { maximum_length = n; implementation_class = class; roles = roles }

-- the roles behind the other sub-items
abbrev roles_read : List Item → ℕ → Option (List ℕ) → Result UserInformation PduFault
roles_read items n class = each_at role_at (contents_of ROLE_SELECTION items) >>= λ roles. Ok (user n class roles)

-- the class and the roles
abbrev classes_read : List Item → ℕ → Result UserInformation PduFault
classes_read items n = each_at uid_at (contents_of IMPLEMENTATION_CLASS items) >>= λ classes. roles_read items n
    (first_of classes)

-- what the sub-items say
abbrev user_read : List Item → Result UserInformation PduFault
user_read items = each_at length_at (contents_of MAXIMUM_LENGTH items) >>= λ lengths. classes_read items
    (first_or 0 lengths)

user_is : (text : List ℕ) (items : List Item) (filled : Fill BeginsItem items text) (lengths : List ℕ)
    (are_lengths : Each IsLength lengths (contents_of MAXIMUM_LENGTH items)) (classes : List (List ℕ))
    (are_classes : Each IsUid classes (contents_of IMPLEMENTATION_CLASS items)) (roles : List Role)
    → Each IsRole roles (contents_of ROLE_SELECTION items) → (v : UserInformation)
    → user (first_or 0 lengths) (first_of classes) roles ≡ v → IsUser v text
user_is text items filled lengths are_lengths classes are_classes roles are_roles v is =
    subst (λ u. IsUser u text) is (record {
      items = items;
      filled = filled;
      lengths = lengths;
      are_lengths = are_lengths;
      maximum_length = refl;
      classes = classes;
      are_classes = are_classes;
      implementation_class = refl;
      roles = are_roles;
    })

roles-found : (text : List ℕ) (items : List Item) (filled : Fill BeginsItem items text) (lengths : List ℕ)
    (are_lengths : Each IsLength lengths (contents_of MAXIMUM_LENGTH items)) (classes : List (List ℕ))
    (are_classes : Each IsUid classes (contents_of IMPLEMENTATION_CLASS items)) (v : UserInformation)
    → roles_read items (first_or 0 lengths) (first_of classes) ≡ Ok v → IsUser v text
roles-found text items filled lengths are_lengths classes are_classes v e =
    behind (bind_ok (each_at role_at (contents_of ROLE_SELECTION items))
    (λ roles. Ok (user (first_or 0 lengths) (first_of classes) roles)) v e)
  where
    behind : (roles : List Role) × (each_at role_at (contents_of ROLE_SELECTION items) ≡ Ok roles)
        × (done PduFault (user (first_or 0 lengths) (first_of classes) roles) ≡ Ok v) → IsUser v text
    behind (roles, read, is) =
        user_is text items filled lengths are_lengths classes are_classes roles
        (each-found role_at IsRole role-found (contents_of ROLE_SELECTION items) roles read) v
        (ok_is PduFault (user (first_or 0 lengths) (first_of classes) roles) v is)

classes-found : (text : List ℕ) (items : List Item) (filled : Fill BeginsItem items text) (lengths : List ℕ)
    (are_lengths : Each IsLength lengths (contents_of MAXIMUM_LENGTH items)) (v : UserInformation)
    → classes_read items (first_or 0 lengths) ≡ Ok v → IsUser v text
classes-found text items filled lengths are_lengths v e =
    behind (bind_ok (each_at uid_at (contents_of IMPLEMENTATION_CLASS items))
    (λ classes. roles_read items (first_or 0 lengths) (first_of classes)) v e)
  where
    behind : (classes : List (List ℕ)) × (each_at uid_at (contents_of IMPLEMENTATION_CLASS items) ≡ Ok classes)
        × (roles_read items (first_or 0 lengths) (first_of classes) ≡ Ok v) → IsUser v text
    behind (classes, read, rest) =
        roles-found text items filled lengths are_lengths classes
        (each-found uid_at IsUid uid-found (contents_of IMPLEMENTATION_CLASS items) classes read) v rest

lengths-found : (text : List ℕ) (items : List Item) (filled : Fill BeginsItem items text) (v : UserInformation)
    → user_read items ≡ Ok v → IsUser v text
lengths-found text items filled v e =
    behind (bind_ok (each_at length_at (contents_of MAXIMUM_LENGTH items))
    (λ lengths. classes_read items (first_or 0 lengths)) v e)
  where
    behind : (lengths : List ℕ) × (each_at length_at (contents_of MAXIMUM_LENGTH items) ≡ Ok lengths)
        × (classes_read items (first_or 0 lengths) ≡ Ok v) → IsUser v text
    behind (lengths, read, rest) =
        classes-found text items filled lengths
        (each-found length_at IsLength length-found (contents_of MAXIMUM_LENGTH items) lengths read) v rest

pub user-found : FoundIn user_at IsUser
unfolding user_at
user-found text v e =
    behind (bind_ok (pieces_of item_at text) user_read v e)
  where
    behind : (items : List Item) × (pieces_of item_at text ≡ Ok items) × (user_read items ≡ Ok v) → IsUser v text
    behind (items, read, rest) = lengths-found text items (pieces-found item_at _ item-found text items read) v rest

pub user-again : AgainIn user_at IsUser
unfolding user_at
user-again v text h =
    let i = pieces-again item_at _ item-shorter item-again h.items text h.filled in
    let l = each-again length_at IsLength length-again h.lengths _ h.are_lengths in
    let c = each-again uid_at IsUid uid-again h.classes _ h.are_classes in
    let r = each-again role_at IsRole role-again v.roles _ h.roles in
    rw (i, l, c, r) (ap (λ (n : ℕ). Ok (user n (first_of h.classes) v.roles)) h.maximum_length
    ∙ ap (λ (o : Option (List ℕ)). Ok (user v.maximum_length o v.roles)) h.implementation_class)

-- ---- presentation contexts

some_of_test : (n : ℕ) → not (eqb n 0) ≡ true → n ≢ 0
some_of_test zero e z = absurd cc
some_of_test (suc n) e z = absurd (omega (arith, z))

test_of_some : (n : ℕ) → n ≢ 0 → not (eqb n 0) ≡ true
test_of_some n some = grind (arith, some)

abbrev proposal : ℕ → List ℕ → List (List ℕ) → ProposedContext
proposal id abstract syntaxes = record { id = id; abstract_syntax = abstract; transfer_syntaxes = syntaxes }

pub proposal-found : FoundIn proposal_at IsProposal
unfolding proposal_at
proposal-found (id ∷ a ∷ b ∷ c ∷ text) v e =
    let i = bind_ok (pieces_of item_at text) (λ items. sole_at uid_at (contents_of ABSTRACT_SYNTAX items) >>=
    λ abstract. each_at uid_at (contents_of TRANSFER_SYNTAX items) >>= λ syntaxes. cond
    (is_odd id && not (eqb (length syntaxes) 0)) (Ok (proposal id abstract syntaxes)) (Err BadItem)) v e in
    let s = bind_ok (sole_at uid_at (contents_of ABSTRACT_SYNTAX i.0))
    (λ abstract. each_at uid_at (contents_of TRANSFER_SYNTAX i.0) >>= λ syntaxes. cond
    (is_odd id && not (eqb (length syntaxes) 0)) (Ok (proposal id abstract syntaxes)) (Err BadItem)) v i.2 in
    let t = bind_ok (each_at uid_at (contents_of TRANSFER_SYNTAX i.0))
    (λ syntaxes. cond (is_odd id && not (eqb (length syntaxes) 0)) (Ok (proposal id s.0 syntaxes)) (Err BadItem)) v
    s.2 in
    let g = guard_end (is_odd id && not (eqb (length t.0) 0)) BadItem (proposal id s.0 t.0) v t.2 in
    let both = and_true (is_odd id) (not (eqb (length t.0) 0)) g.0 in
    subst (λ p. IsProposal p (id ∷ a ∷ b ∷ c ∷ text)) g.1 (record {
      a = a;
      b = b;
      c = c;
      text = text;
      parts = refl;
      odd = both.0;
      items = i.0;
      filled = pieces-found item_at _ item-found text i.0 i.1;
      abstract_syntax = sole-found uid_at IsUid uid-found _ s.0 s.1;
      transfer_syntaxes = each-found uid_at IsUid uid-found _ t.0 t.1;
      some = some_of_test (length t.0) both.1;
    })
proposal-found _ v e = absurd cc

pub proposal-again : AgainIn proposal_at IsProposal
unfolding proposal_at
proposal-again v content h =
    let i = pieces-again item_at _ item-shorter item-again h.items h.text h.filled in
    let s = sole-again uid_at IsUid uid-again v.abstract_syntax _ h.abstract_syntax in
    let t = each-again uid_at IsUid uid-again v.transfer_syntaxes _ h.transfer_syntaxes in
    ap proposal_at h.parts ∙ rw (i, s, t, h.odd, test_of_some (length v.transfer_syntaxes) h.some) refl

abbrev answer : ℕ → ℕ → List ℕ → AnsweredContext
answer id result syntax = record { id = id; result = result; transfer_syntax = syntax }

pub answer-found : FoundIn answer_at IsAnswer
unfolding answer_at
answer-found (id ∷ a ∷ result ∷ b ∷ text) v e =
    let i = bind_ok (pieces_of item_at text) (λ items. sole_at uid_at (contents_of TRANSFER_SYNTAX items) >>=
    λ syntax. cond (is_odd id) (Ok (answer id result syntax)) (Err BadItem)) v e in
    let s = bind_ok (sole_at uid_at (contents_of TRANSFER_SYNTAX i.0))
    (λ syntax. cond (is_odd id) (Ok (answer id result syntax)) (Err BadItem)) v i.2 in
    let g = guard_end (is_odd id) BadItem (answer id result s.0) v s.2 in
    subst (λ p. IsAnswer p (id ∷ a ∷ result ∷ b ∷ text)) g.1 (record {
      a = a;
      b = b;
      text = text;
      parts = refl;
      odd = g.0;
      items = i.0;
      filled = pieces-found item_at _ item-found text i.0 i.1;
      transfer_syntax = sole-found uid_at IsUid uid-found _ s.0 s.1;
    })
answer-found _ v e = absurd cc

pub answer-again : AgainIn answer_at IsAnswer
unfolding answer_at
answer-again v content h =
    let i = pieces-again item_at _ item-shorter item-again h.items h.text h.filled in
    let s = sole-again uid_at IsUid uid-again v.transfer_syntax _ h.transfer_syntax in
    ap answer_at h.parts ∙ rw (i, s, h.odd) refl
