-- A header and the body behind it, read one after the other.
use Rattle.std.proofs.Common.{◌≡◌, ℕ, ◌+◌, List, [], ◌∷◌, ◌++◌, length, take, Option, Some, None, Result, Ok, Err}
use Rattle.std.proofs.Common.{refl, sym, ap, subst, ◌∙◌, arith, take_all}
use Rattle.std.specs.Prelude.{IfOk, IfErr, IsOk}
use Rattle.std.specs.Int.{w32, from_be_bytes}
use Rattle.octets.specs.Bytes.{IsBytes}
use Rattle.pdu.specs.declared.fault.PduFault.{PduFault}
use Rattle.pdu.specs.declared.fault.PduFault.TheVariants.{UnknownType, BadLength, BadItem, TooLong, Memory}
use Rattle.pdu.specs.declared.value.Pdu.{Pdu}
use Rattle.pdu.specs.Fault.{Gives, IsBodyFault}
use Rattle.pdu.specs.Header.{HeaderParts, header_fault, or_fault}
use Rattle.pdu.specs.Grammar.{IsBody, code_of, Spells, type_of, size_of, HasHeaderFault, HasLawfulHeader, HasBadBody}
use Rattle.pdu.specs.Grammar.{IsHeader}
use Rattle.pdu.specs.Spelling.{IsPdu}
use Rattle.pdu.specs.Reading.{body_at}
use Rattle.pdu.proofs.Bodies.{body-found, body-again}
use Rattle.pdu.proofs.Faults.{body-bad}
use Rattle.pdu.proofs.Writable.{body_writable}

-- ---- six bytes

abbrev pub HeaderResult : Type 0
HeaderResult = Result HeaderParts PduFault

-- What six bytes are told to be: what they say, or their fault.
pub record IsTold (bytes : List ℕ) (r : HeaderResult) : Type 0 where
  pub found : IfOk r (λ h. IsHeader h bytes)
  pub lawful : IsOk r → HasLawfulHeader bytes
  pub read : HasLawfulHeader bytes → IsOk r
  pub fault : IfErr r (λ f. HasHeaderFault f bytes)
  pub told : (f : PduFault) → HasHeaderFault f bytes → r ≡ Err f

apart : (o : Option PduFault) (f : PduFault) → o ≡ None → o ≡ Some f → ⊥
apart o f none some = cc

one_fault : (o : Option PduFault) (f g : PduFault) → o ≡ Some f → o ≡ Some g → f ≡ g
one_fault o f g a b = cc

abbrev refused : PduFault → HeaderResult
refused f = Err f

told : (bytes : List ℕ) (o : Option PduFault) → length bytes ≡ 6 → header_fault (type_of bytes) (size_of bytes) ≡ o
    → IsTold bytes (or_fault o (record { code = type_of bytes; length = size_of bytes }))
told bytes None six is = record {
  found = (six, refl, refl);
  lawful = λ ok. (omega (arith, six), is);
  read = λ lawful. refl;
  fault = tt;
  told = λ f has. absurd (apart (header_fault (type_of bytes) (size_of bytes)) f is has.1);
}
told bytes (Some g) six is = record {
  found = tt;
  lawful = λ ok. absurd cc;
  read = λ lawful. absurd (apart (header_fault (type_of bytes) (size_of bytes)) g lawful.1 is);
  fault = (omega (arith, six), is);
  told = λ f has. ap refused (one_fault (header_fault (type_of bytes) (size_of bytes)) g f is has.1);
}

pub is_told : (bytes : List ℕ) (r : HeaderResult) → length bytes ≡ 6
    → r ≡ or_fault (header_fault (type_of bytes) (size_of bytes))
    (record { code = type_of bytes; length = size_of bytes }) → IsTold bytes r
is_told bytes r six e = subst (IsTold bytes) (sym e) (told bytes (header_fault (type_of bytes) (size_of bytes)) six
    refl)

-- Each fault is told exactly where it is.
pub fault_told : (bytes : List ℕ) (r : HeaderResult) (f : PduFault) → IsTold bytes r
    → (r ≡ Err f → HasHeaderFault f bytes) × (HasHeaderFault f bytes → r ≡ Err f)
fault_told bytes r f t = (λ e. subst (λ (s : HeaderResult). IfErr s (λ g. HasHeaderFault g bytes)) e t.fault, t.told f)

-- ---- a body behind them

-- what a header and its body are together
record IsText (header : HeaderParts) (bytes body : List ℕ) : Type 0 where
  lawful : HasLawfulHeader (bytes ++ body)
  code : type_of (bytes ++ body) ≡ header.code
  size : size_of (bytes ++ body) ≡ header.length
  whole : length (bytes ++ body) ≡ header.length + 6
  spelled : (p : Pdu) → code_of p ≡ header.code → IsBody p body → Spells p (bytes ++ body)
  is_body : (p : Pdu) → Spells p (bytes ++ body) → (code_of p ≡ header.code) × IsBody p body

first_is : (a b : ℕ) (xs ys : List ℕ) → a ∷ xs ≡ b ∷ ys → a ≡ b
first_is a b xs ys e = cc

behind_is : (k r a b c d l s h i m n : ℕ) (xs ys : List ℕ) → k ∷ r ∷ a ∷ b ∷ c ∷ d ∷ xs ≡ l ∷ s ∷ h ∷ i ∷ m ∷ n ∷ ys
    → xs ≡ ys
behind_is k r a b c d l s h i m n xs ys e = cc

text_of_six : (k r a b c d : ℕ) (body : List ℕ) → header_fault k (length body) ≡ None
    → from_be_bytes w32 (a ∷ b ∷ c ∷ d ∷ []) ≡ length body
    → IsText (record { code = k; length = length body }) (k ∷ r ∷ a ∷ b ∷ c ∷ d ∷ []) body
text_of_six k r a b c d body lawful size = record {
  lawful = (omega arith, ap (header_fault k) size ∙ lawful);
  code = refl;
  size = size;
  whole = omega arith;
  spelled = λ p code is. record {
    reserved = r;
    a = a;
    b = b;
    c = c;
    d = d;
    body = body;
    size = size;
    lawful = ap (λ (n : ℕ). header_fault n (length body)) code ∙ lawful;
    is_body = is;
    parts = ap (λ (n : ℕ). n ∷ r ∷ a ∷ b ∷ c ∷ d ∷ body) (sym code);
  };
  is_body = λ p s. (
    sym (first_is k (code_of p) _ _ s.parts),
    subst (IsBody p) (sym (behind_is k r a b c d (code_of p) s.reserved s.a s.b s.c s.d body s.body s.parts)) s.is_body,
  );
}

is_text : (header : HeaderParts) (bytes body : List ℕ) → header_fault header.code header.length ≡ None
    → length body ≡ header.length → IsHeader header bytes → IsText header bytes body
is_text header (k ∷ r ∷ a ∷ b ∷ c ∷ d ∷ []) body lawful long is =
    let same : record { code = k; length = length body } ≡ header = ap (λ (n : ℕ). made n (length body)) is.1
    ∙ ap (made header.code) long in
    subst (λ (h : HeaderParts). IsText h (k ∷ r ∷ a ∷ b ∷ c ∷ d ∷ []) body) same
    (text_of_six k r a b c d body (ap (λ (n : ℕ). header_fault n (length body)) is.1 ∙ ap (header_fault header.code)
    long ∙ lawful) (is.2 ∙ sym long))
  where
    made : ℕ → ℕ → HeaderParts
    made code length = record { code = code; length = length }
is_text header _ body lawful long is = absurd (omega (arith, is.0))

abbrev BodyResult : Type 0
BodyResult = Result Pdu PduFault

-- what reading a body comes to
pub record IsRead (header : HeaderParts) (body : List ℕ) (r : BodyResult) : Type 0 where
  pub done : IfOk r (λ p. (bytes : List ℕ) → IsHeader header bytes → Spells p (bytes ++ body))
  pub only : (p : Pdu) (bytes : List ℕ) → IsHeader header bytes → Spells p (bytes ++ body) → Gives r (Ok p)
  pub lawful : IfOk r IsPdu
  pub bad_item : r ≡ Err BadItem → (bytes : List ℕ) → IsHeader header bytes → HasBadBody (bytes ++ body)
  pub bad_item_told : (bytes : List ℕ) → IsHeader header bytes → HasBadBody (bytes ++ body) → Gives r (Err BadItem)
  pub fault : IfErr r IsBodyFault

wholly : (n : ℕ) (text : List ℕ) → length text ≡ n → take n text ≡ text
wholly n text e = take_all n text (omega (arith, e))

-- A text that is read as a PDU has no bad body.
not_bad : (header : HeaderParts) (bytes body : List ℕ) (p : Pdu) → IsText header bytes body → Spells p (bytes ++ body)
    → HasBadBody (bytes ++ body) → ⊥
not_bad header bytes body p t s bad =
    bad.2 p (subst (Spells p) (sym (wholly (size_of (bytes ++ body) + 6) (bytes ++ body)
    (t.whole ∙ ap (λ (n : ℕ). n + 6) (sym t.size)))) s)

-- A text that spells no PDU has one.
has_bad : (header : HeaderParts) (bytes body : List ℕ) → IsText header bytes body
    → ((p : Pdu) → Spells p (bytes ++ body) → ⊥) → HasBadBody (bytes ++ body)
has_bad header bytes body t none = (
  t.lawful,
  omega (arith, t.whole, t.size),
  λ p s. none p (subst (Spells p) (wholly (size_of (bytes ++ body) + 6) (bytes ++ body)
      (t.whole ∙ ap (λ (n : ℕ). n + 6) (sym t.size))) s),
)

-- What a body is spelled by is read of it.
read_again : (header : HeaderParts) (bytes body : List ℕ) (p : Pdu) → IsText header bytes body
    → Spells p (bytes ++ body) → body_at header.code body ≡ Ok p
read_again header bytes body p t s =
    let is = t.is_body p s in
    ap (λ (k : ℕ). body_at k body) (sym is.0) ∙ body-again p body is.1

abbrev value : Pdu → BodyResult
value p = Ok p

same_value : (p q : Pdu) → value p ≡ value q → p ≡ q
same_value p q e = cc

no_value : (p : Pdu) (f : PduFault) (r : BodyResult) → r ≡ Ok p → r ≡ Err f → ⊥
no_value p f r a b = cc

not_that : (p : Pdu) (f : PduFault) → value p ≡ Err f → ⊥
not_that p f e = cc

two_faults : ◌≡◌ {A = BodyResult} (Err Memory) (Err BadItem) → ⊥
two_faults e = cc

type_is_bad : UnknownType ≡ BadItem → ⊥
type_is_bad e = cc

length_is_bad : BadLength ≡ BadItem → ⊥
length_is_bad e = cc

long_is_bad : TooLong ≡ BadItem → ⊥
long_is_bad e = cc

pub is_read : (header : HeaderParts) (body : List ℕ) (r : BodyResult) → header_fault header.code header.length ≡ None
    → length body ≡ header.length → IsBytes body → Gives r (body_at header.code body) → IsRead header body r
is_read header body (Ok p) lawful long octets gives =
    let here : header_fault header.code (length body) ≡ None = ap (header_fault header.code) long ∙ lawful in
    let is = body-found header.code body p here gives in
    record {
      done = λ bytes h. (is_text header bytes body lawful long h).spelled p is.0 is.1;
      only = λ q bytes h s. sym (read_again header bytes body q (is_text header bytes body lawful long h) s) ∙ gives;
      lawful = body_writable p body octets (ap (λ (k : ℕ). header_fault k (length body)) is.0 ∙ here) is.1;
      bad_item = λ e. absurd (not_that p BadItem e);
      bad_item_told = λ bytes h bad. let t = is_text header bytes body lawful long h in
          absurd (not_bad header bytes body p t (t.spelled p is.0 is.1) bad);
      fault = tt;
    }
is_read header body (Err Memory) lawful long octets gives = record {
  done = tt;
  only = λ q bytes h s. tt;
  lawful = tt;
  bad_item = λ e. absurd (two_faults e);
  bad_item_told = λ bytes h bad. tt;
  fault = tt;
}
is_read header body (Err BadItem) lawful long octets gives =
    let none : (bytes : List ℕ) → IsHeader header bytes → (p : Pdu) → Spells p (bytes ++ body)
    → ⊥ = λ bytes h p s. no_value p BadItem (body_at header.code body)
    (read_again header bytes body p (is_text header bytes body lawful long h) s) gives in
    record {
      done = tt;
      only = λ q bytes h s. absurd (none bytes h q s);
      lawful = tt;
      bad_item = λ e bytes h. has_bad header bytes body (is_text header bytes body lawful long h) (none bytes h);
      bad_item_told = λ bytes h bad. refl;
      fault = tt;
    }
is_read header body (Err UnknownType) lawful long octets gives =
    absurd (type_is_bad (body-bad header.code body UnknownType gives))
is_read header body (Err BadLength) lawful long octets gives =
    absurd (length_is_bad (body-bad header.code body BadLength gives))
is_read header body (Err TooLong) lawful long octets gives =
    absurd (long_is_bad (body-bad header.code body TooLong gives))
