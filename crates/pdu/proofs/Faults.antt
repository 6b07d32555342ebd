-- A body that is read comes to a value, or to BadItem and no other fault.
use Rattle.std.proofs.Common.{◌≡◌, ℕ, zero, suc, ◌-◌, Bool, true, false, not, ◌&&◌, cond, ltb, eqb, List, [], ◌∷◌}
use Rattle.std.proofs.Common.{length, Result, Ok, Err, refl, sym, ◌∙◌}
use Rattle.std.specs.Prelude.{map}
use Rattle.std.specs.Int.{w16, w32, from_be_bytes}
use Rattle.octets.specs.Gives.{◌>>=◌}
use Rattle.pdu.specs.declared.fault.PduFault.{PduFault}
use Rattle.pdu.specs.declared.fault.PduFault.TheVariants.{BadItem}
use Rattle.pdu.specs.declared.item.TheConstants.{PROPOSED_CONTEXT, ANSWERED_CONTEXT, USER_INFORMATION, TRANSFER_SYNTAX}
use Rattle.pdu.specs.declared.item.TheConstants.{MAXIMUM_LENGTH, IMPLEMENTATION_CLASS, ROLE_SELECTION}
use Rattle.pdu.specs.declared.value.Pdu.TheVariants.{ReleaseRq, ReleaseRp}
use Rattle.pdu.specs.Grammar.{contents_of, first_or, first_of, is_odd, are_distinct}
use Rattle.pdu.specs.Reading.{Piece, pieces_in, pieces_of, item_at, pdv_at, each_at, sole_at, uid_at, length_at}
use Rattle.pdu.specs.Reading.{role_at, user_at, proposal_at, answer_at, opening_at, request_in, request_at, accept_in}
use Rattle.pdu.specs.Reading.{accept_at, data_at, reject_at, abort_at, body_at}

abbrev pub OnlyBad : {A : Type 0} → Result A PduFault → Type 0
OnlyBad read = (fault : PduFault) → read ≡ Err fault → fault ≡ BadItem

abbrev failed : (A : Type 0) → PduFault → Result A PduFault
failed A fault = Err fault

fault_is : (A : Type 0) (d e : PduFault) → failed A d ≡ failed A e → d ≡ e
fault_is A d e is = cc

only_ok : {A : Type 0} (x : A) → OnlyBad (Ok x)
only_ok x fault e = absurd cc

only_bad : (A : Type 0) → OnlyBad (failed A BadItem)
only_bad A fault e = sym (fault_is A BadItem fault e)

only_bind : {A B : Type 0} (r : Result A PduFault) (f : A → Result B PduFault) → OnlyBad r → ((x : A) → OnlyBad (f x))
    → OnlyBad (r >>= f)
only_bind (Ok x) f one more = more x
only_bind {A} {B} (Err d) f one more = λ fault e. sym (fault_is B d fault e) ∙ one d refl

only_test : {A : Type 0} (t : Bool) (r s : Result A PduFault) → OnlyBad r → OnlyBad s → OnlyBad (cond t r s)
only_test true r s one other = one
only_test false r s one other = other

pieces_in-bad : {V : Type 0} (at : List ℕ → Piece V) → ((text : List ℕ) → OnlyBad (at text)) → (n : ℕ) (text : List ℕ)
    → OnlyBad (pieces_in at n text)
pieces_in-bad at bad n [] = only_ok []
pieces_in-bad at bad zero (b ∷ bs) = (only_bad _)
pieces_in-bad at bad (suc n) (b ∷ bs) = only_bind (at (b ∷ bs)) _ (bad (b ∷ bs)) (λ x. only_bind (pieces_in at n x.1)
    _ (pieces_in-bad at bad n x.1) (λ others. only_ok (x.0 ∷ others)))

pieces-bad : {V : Type 0} (at : List ℕ → Piece V) → ((text : List ℕ) → OnlyBad (at text)) → (text : List ℕ)
    → OnlyBad (pieces_of at text)
unfolding pieces_of
pieces-bad at bad text = pieces_in-bad at bad (length text) text

each-bad : {V : Type 0} (at : List ℕ → Result V PduFault) → ((text : List ℕ) → OnlyBad (at text))
    → (contents : List (List ℕ)) → OnlyBad (each_at at contents)
each-bad at bad [] = only_ok []
each-bad at bad (content ∷ contents) = only_bind (at content) _ (bad content) (λ v. only_bind (each_at at contents)
    _ (each-bad at bad contents) (λ others. only_ok (v ∷ others)))

sole-bad : {V : Type 0} (at : List ℕ → Result V PduFault) → ((text : List ℕ) → OnlyBad (at text))
    → (contents : List (List ℕ)) → OnlyBad (sole_at at contents)
sole-bad at bad [] = (only_bad _)
sole-bad at bad (content ∷ []) = bad content
sole-bad at bad (content ∷ other ∷ contents) = (only_bad _)

item-bad : (text : List ℕ) → OnlyBad (item_at text)
item-bad (kind ∷ reserved ∷ high ∷ low ∷ rest) = only_test (ltb (length rest) (from_be_bytes w16 (high ∷ low ∷ []))) _
    _ (only_bad _) (only_ok _)
item-bad _ = (only_bad _)

pdv-bad : (text : List ℕ) → OnlyBad (pdv_at text)
pdv-bad (a ∷ b ∷ c ∷ d ∷ context ∷ control ∷ rest) =
    only_test (ltb (from_be_bytes w32 (a ∷ b ∷ c ∷ d ∷ [])) 2) _ _ (only_bad _)
    (only_test (ltb (length rest) (from_be_bytes w32 (a ∷ b ∷ c ∷ d ∷ []) - 2)) _ _ (only_bad _) (only_ok _))
pdv-bad _ = (only_bad _)

uid-bad : (text : List ℕ) → OnlyBad (uid_at text)
unfolding uid_at
uid-bad text = only_test _ _ _ (only_ok _) (only_bad _)

length-bad : (text : List ℕ) → OnlyBad (length_at text)
length-bad (a ∷ b ∷ c ∷ d ∷ []) = only_ok _
length-bad _ = (only_bad _)

role-bad : (text : List ℕ) → OnlyBad (role_at text)
unfolding role_at
role-bad (high ∷ low ∷ rest) = only_test _ _ _ (only_bind _ _ (uid-bad _) (λ class. only_ok _)) (only_bad _)
role-bad _ = (only_bad _)

user-bad : (text : List ℕ) → OnlyBad (user_at text)
unfolding user_at
user-bad text =
    only_bind _ _ (pieces-bad item_at item-bad text)
    (λ items. only_bind _ _ (each-bad length_at length-bad (contents_of MAXIMUM_LENGTH items)) (λ lengths.
    only_bind _ _ (each-bad uid_at uid-bad (contents_of IMPLEMENTATION_CLASS items))
    (λ classes. only_bind _ _ (each-bad role_at role-bad (contents_of ROLE_SELECTION items))
    (λ roles. only_ok (record {
      maximum_length = first_or 0 lengths;
      implementation_class = first_of classes;
      roles = roles;
    })))))

proposal-bad : (text : List ℕ) → OnlyBad (proposal_at text)
unfolding proposal_at
proposal-bad (id ∷ a ∷ b ∷ c ∷ text) =
    only_bind _ _ (pieces-bad item_at item-bad text) (λ items. only_bind _ _ (sole-bad uid_at uid-bad _) (λ abstract.
    only_bind _ _ (each-bad uid_at uid-bad (contents_of TRANSFER_SYNTAX items))
    (λ syntaxes. only_test (is_odd id && not (eqb (length syntaxes) 0)) _
    _ (only_ok (record { id = id; abstract_syntax = abstract; transfer_syntaxes = syntaxes })) (only_bad _))))
proposal-bad _ = (only_bad _)

answer-bad : (text : List ℕ) → OnlyBad (answer_at text)
unfolding answer_at
answer-bad (id ∷ a ∷ result ∷ b ∷ text) =
    only_bind _ _ (pieces-bad item_at item-bad text) (λ items. only_bind _ _ (sole-bad uid_at uid-bad _)
    (λ syntax. only_test _ _ _ (only_ok _) (only_bad _)))
answer-bad _ = (only_bad _)

opening-bad : (text : List ℕ) → OnlyBad (opening_at text)
unfolding opening_at
opening-bad (v ∷ w ∷ r ∷ s ∷ rest) = only_test _ _ _ (only_bad _) (only_ok _)
opening-bad _ = (only_bad _)

request-bad : (body : List ℕ) → OnlyBad (request_at body)
unfolding request_at request_in
request-bad body =
    only_bind _ _ (opening-bad body) (λ o. only_bind _ _ (pieces-bad item_at item-bad _)
    (λ items. only_bind _ _ (sole-bad uid_at uid-bad _) (λ context.
    only_bind _ _ (each-bad proposal_at proposal-bad (contents_of PROPOSED_CONTEXT items))
    (λ contexts. only_bind _ _ (sole-bad user_at user-bad (contents_of USER_INFORMATION items)) (λ user.
    only_test (are_distinct (map (λ c. c.id) contexts)) _
    _ (only_ok (record { opening = o; application_context = context; contexts = contexts; user = user }))
    (only_bad _))))))

accept-bad : (body : List ℕ) → OnlyBad (accept_at body)
unfolding accept_at accept_in
accept-bad body =
    only_bind _ _ (opening-bad body) (λ o. only_bind _ _ (pieces-bad item_at item-bad _)
    (λ items. only_bind _ _ (sole-bad uid_at uid-bad _) (λ context.
    only_bind _ _ (each-bad answer_at answer-bad (contents_of ANSWERED_CONTEXT items))
    (λ contexts. only_bind _ _ (sole-bad user_at user-bad (contents_of USER_INFORMATION items)) (λ user.
    only_test (are_distinct (map (λ c. c.id) contexts)) _
    _ (only_ok (record { opening = o; application_context = context; contexts = contexts; user = user }))
    (only_bad _))))))

data-bad : (body : List ℕ) → OnlyBad (data_at body)
unfolding data_at
data-bad body = only_bind _ _ (pieces-bad pdv_at pdv-bad body) (λ values. only_test _ _ _ (only_bad _) (only_ok _))

reject-bad : (body : List ℕ) → OnlyBad (reject_at body)
reject-bad (reserved ∷ result ∷ source ∷ reason ∷ []) = only_ok _
reject-bad _ = (only_bad _)

abort-bad : (body : List ℕ) → OnlyBad (abort_at body)
abort-bad (a ∷ b ∷ source ∷ reason ∷ []) = only_ok _
abort-bad _ = (only_bad _)

pub body-bad : (code : ℕ) (body : List ℕ) → OnlyBad (body_at code body)
unfolding body_at
body-bad code body =
    only_test _ _ _ (only_bind _ _ (request-bad body) (λ r. only_ok _)) (
    only_test _ _ _ (only_bind _ _ (accept-bad body) (λ r. only_ok _)) (
    only_test _ _ _ (only_bind _ _ (reject-bad body) (λ r. only_ok _)) (
    only_test _ _ _ (only_bind _ _ (data-bad body) (λ r. only_ok _)) (
    only_test (eqb code 5) _ _ (only_ok ReleaseRq) (
    only_test (eqb code 6) _ _ (only_ok ReleaseRp) (abort-bad body))))))
