-- What was put together or cut can be sent, and so can what answers a request.
use Rattle.std.proofs.Common.{◌≡◌, ℕ, ◌≤◌, Bool, true, false, cond, List, [], ◌∷◌, ◌++◌, length, take, drop}
use Rattle.std.proofs.Common.{length-append, Option, Some, None, refl, sym, ap, subst, ◌∙◌, arith, inl}
use Rattle.std.proofs.Common.{inr}
use Rattle.std.specs.Prelude.{IfSome, MatchOption, All, is_some, ◌==◌, ◌&&◌, ◌||◌, not}
use Rattle.std.specs.List.{AllByRecursion}
use Rattle.std.proofs.lemmas.List.{length-take}
use Rattle.std.proofs.lemmas.List.Elements.{All-from_recursion}
use Rattle.pdu.specs.declared.pdv.Pdv.{Pdv}
use Rattle.pdu.specs.declared.value.Pdu.{Pdu}
use Rattle.pdu.specs.Spelling.{IsPdu}
use Rattle.pdu.specs.declared.context.Context.{Context}
use Rattle.dimse.specs.declared.command.Command.{Command}
use Rattle.dimse.specs.declared.message.Message.{Message}
use Rattle.dimse.specs.CommandField.{is_response_code, names_class_code}
use Rattle.dimse.specs.Uid.{IsUid}
use Rattle.dimse.specs.Command.{command_text, is_complete, IsCommand}
use Rattle.dimse.specs.Response.{IsToldOf, IsResponseTo, response_code, response_of}
use Rattle.dimse.specs.declared.assembler.Stage.{Stage}
use Rattle.dimse.specs.Assembly.{is_over, fault_of, Keeps}
use Rattle.dimse.proofs.RunLaws.{faultless_parts}
use Rattle.dimse.specs.Sending.{size_of, sent, Sends, IsSending}

-- ---- fragments

sent_fits : (max context : ℕ) (command last : Bool) (fragment : List ℕ) → 8 ≤ max → max ≤ 65536 → length fragment ≤
    size_of max → IsPdu (sent context command last fragment)
sent_fits max context command last fragment least most le =
    (λ e. absurd (omega (arith, e)), omega (arith, least, most, le, length-append fragment []))

text_fits : (max context : ℕ) (command : Bool) (text : List ℕ) (pdus : List Pdu) → 8 ≤ max → max ≤ 65536
    → Sends (size_of max) context command text pdus → AllByRecursion IsPdu pdus
text_fits max context command text [] least most sends = absurd sends
text_fits max context command text (p ∷ []) least most sends =
    (subst IsPdu (sym sends.1) (sent_fits max context command true text least most sends.0), tt)
text_fits max context command text (p ∷ q ∷ ps) least most sends = (
  subst IsPdu (sym sends.1) (sent_fits max context command false (take (size_of max) text) least
      most (omega (arith, length-take (size_of max) text))),
  text_fits max context command (drop (size_of max) text) (q ∷ ps) least most sends.2,
)

body_fits : (max context : ℕ) (body : Option (List ℕ)) (pdus : List Pdu) → 8 ≤ max → max ≤ 65536
    → MatchOption body (pdus ≡ []) (λ b. Sends (size_of max) context false b pdus) → AllByRecursion IsPdu pdus
body_fits max context None pdus least most is = subst (λ (ps : List Pdu). AllByRecursion IsPdu ps) (sym is) tt
body_fits max context (Some body) pdus least most sends = text_fits max context false body pdus least most sends

both_fit : (ps qs : List Pdu) → AllByRecursion IsPdu ps → AllByRecursion IsPdu qs → AllByRecursion IsPdu (ps ++ qs)
both_fit [] qs one other = other
both_fit (p ∷ ps) qs one other = (one.0, both_fit ps qs one.1 other)

-- each PDU that is sent can be written
pub sending_fits : (m : Message) (max : ℕ) (pdus : List Pdu) → 8 ≤ max → IsSending m max pdus → max ≤ 65536
    → All IsPdu pdus
sending_fits m max pdus least s most =
    let first = text_fits max m.context true (command_text m.command) s.of_command least most s.command in
    let second = body_fits max m.context m.body s.of_data least most s.data_set in
    All-from_recursion IsPdu pdus (subst (λ (ps : List Pdu). AllByRecursion IsPdu ps) (sym s.parts)
    (both_fit s.of_command s.of_data first second))

-- ---- responses

told_fits : (P : List ℕ → Type 0) (request response : Option (List ℕ)) → IfSome request P → IsToldOf request response
    → IfSome response P
told_fits P request response fits (inl is) = subst (λ (o : Option (List ℕ)). IfSome o P) (sym is) fits
told_fits P request response fits (inr is) = subst (λ (o : Option (List ℕ)). IfSome o P) (sym is) tt

id_told : (t a b p q : Bool) → t ≡ false → (cond t a b && p && q) ≡ true → b ≡ true
id_told true a b p q e all = absurd cc
id_told false a true p q e all = refl
id_told false a false p q e all = absurd cc

all_told : (t a b n i f j : Bool) → t ≡ true → a ≡ true → n ≡ false → f ≡ false
    → (cond t a b && (not n || i) && (not f || j)) ≡ true
all_told t a b n i f j p q r s = rw (p, q, r, s) refl

names_none : (code : ℕ) → is_response_code code ≡ true → names_class_code code ≡ false
names_none code e = grind (arith, e)

no_store : (code : ℕ) → is_response_code code ≡ true → (code == 0x0001) ≡ false
no_store code e = grind (arith, e)

complete : (request response : Command) → is_complete request ≡ true → IsResponseTo request response
    → is_complete response ≡ true
unfolding is_complete
complete request response whole h =
    let id : is_some request.message_id ≡ true = id_told (is_response_code request.field) (is_some request.responded_to)
    (is_some request.message_id) _ _ h.asked whole in
    let told : is_some response.responded_to ≡ true = ap is_some h.responded_to ∙ id in
    all_told (is_response_code response.field) (is_some response.responded_to) (is_some response.message_id)
    (names_class_code response.field) (is_some response.affected_class) (response.field == 0x0001)
    (is_some response.affected_instance) h.field told (names_none response.field h.field)
    (no_store response.field h.field)

pub response_lawful : (request response : Command) → IsCommand request → IsResponseTo request response
    → IsCommand response
response_lawful request response is h = record {
  affected_class = told_fits IsUid request.affected_class response.affected_class is.affected_class h.affected_class;
  affected_instance = told_fits IsUid request.affected_instance response.affected_instance is.affected_instance
      h.affected_instance;
  complete = complete request response is.complete h;
}

has_high_bit : (code : ℕ) → is_response_code (response_code code) ≡ true
has_high_bit code = grind arith

told : (t : Bool) (instance : Option (List ℕ)) → IsToldOf instance (cond t instance None)
told true instance = inl refl
told false instance = inr refl

pub answers_it : (request : Command) (status : ℕ) → is_response_code request.field ≡ false
    → IsResponseTo request (response_of request status)
unfolding response_of
answers_it request status asked = record {
  asked = asked;
  field = has_high_bit request.field;
  responded_to = refl;
  affected_class = inl refl;
  affected_instance = told (request.field == 0x0001) request.affected_instance;
}

pub answer_lawful : (request : Command) (status : ℕ) → is_response_code request.field ≡ false → IsCommand request
    → IsCommand (response_of request status)
answer_lawful request status asked is = response_lawful request (response_of request status)
    is (answers_it request status asked)

-- ---- messages

-- A fragment without a fault leaves what is read no longer than its limit.
pub when_taken : {P : Type 0} (contexts : List Context) (was stage : Stage) (p : Pdv) → stage ≡ was → Keeps
    was → fault_of contexts stage p ≡ None → (Keeps stage → is_over stage p ≡ false → P) → P
when_taken contexts was stage p is keeps none sound = sound (subst Keeps (sym is) keeps)
    (faultless_parts contexts stage p none).room
