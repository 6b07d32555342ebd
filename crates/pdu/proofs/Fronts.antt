-- The front of a stream: what it can be, and what is told of it.
use Rattle.std.proofs.Common.{◌≡◌, ◌≢◌, ℕ, ◌+◌, ◌-◌, ◌≤◌, List, [], ◌∷◌, ◌++◌, length, take, drop, Option, Some, None}
use Rattle.std.proofs.Common.{Result, Ok, Err, refl, sym, ap, subst, ◌∙◌, arith, inl, inr, ◌⊎◌}
use Rattle.std.specs.Int.{w32, from_be_bytes}
use Rattle.std.proofs.Math.Seq.{take-append-add}
use Rattle.std.proofs.lemmas.Bool.{cases_lt, lt-ltb, le-ltb}
use Rattle.std.proofs.lemmas.List.{take_at, take-append-drop, length-take}
use Rattle.octets.specs.Gives.{◌>>=◌}
use Rattle.octets.proofs.ByteLaws.{ok_is}
use Rattle.pdu.specs.declared.fault.PduFault.{PduFault}
use Rattle.pdu.specs.declared.fault.PduFault.TheVariants.{UnknownType, BadLength, BadItem, TooLong, Memory}
use Rattle.pdu.specs.declared.value.Pdu.{Pdu}
use Rattle.pdu.specs.declared.value.Step.{Step}
use Rattle.pdu.specs.declared.value.Step.TheVariants.{Need, Done}
use Rattle.pdu.specs.Fault.{Gives}
use Rattle.pdu.specs.Header.{header_fault, HeaderParts, or_fault, header_at}
use Rattle.pdu.specs.Grammar.{IsBody, code_of, Spells, type_of, size_of, HasHeaderFault, HasLawfulHeader, IsUnfinished}
use Rattle.pdu.specs.Grammar.{HasBadBody, IfDone}
use Rattle.pdu.specs.Reading.{behind_header, front_at, Behind, Answers, body_at}
use Rattle.pdu.proofs.Bodies.{body-found, body-again}
use Rattle.pdu.proofs.Faults.{body-bad}

-- ---- what is known of a front that is spelled

pub record Front (p : Pdu) (n : ℕ) (bytes : List ℕ) : Type 0 where
  pub long : 6 ≤ length bytes
  pub code : code_of p ≡ type_of bytes
  pub size : n ≡ size_of bytes + 6
  pub lawful : header_fault (type_of bytes) (size_of bytes) ≡ None
  pub body : IsBody p (take (size_of bytes) (drop 6 bytes))

front_of : (p : Pdu) (k r a b c d : ℕ) (body rest : List ℕ) → code_of p ≡ k
    → from_be_bytes w32 (a ∷ b ∷ c ∷ d ∷ []) ≡ length body → header_fault (code_of p) (length body) ≡ None
    → IsBody p body
    → Front p (length (k ∷ r ∷ a ∷ b ∷ c ∷ d ∷ body)) (k ∷ r ∷ a ∷ b ∷ c ∷ d ∷ (body ++ rest))
front_of p k r a b c d body rest code size lawful is =
    let n = from_be_bytes w32 (a ∷ b ∷ c ∷ d ∷ []) in
    record {
      long = omega arith;
      code = code;
      size = omega (arith, size);
      lawful = ap (λ (m : ℕ). header_fault m n) (sym code) ∙ ap (λ (m : ℕ). header_fault (code_of p) m) size ∙ lawful;
      body = subst (IsBody p) (sym (take_at body rest n (sym size))) is;
    }

pub front : (p : Pdu) (n : ℕ) (bytes : List ℕ) → n ≤ length bytes → Spells p (take n bytes) → Front p n bytes
front p n bytes whole s =
    let start = code_of p ∷ s.reserved ∷ s.a ∷ s.b ∷ s.c ∷ s.d ∷ s.body in
    let all : start ++ drop n bytes ≡ bytes = ap (λ (t : List ℕ). t ++ drop n bytes) (sym s.parts) ∙ take-append-drop n
    bytes in
    let len : length start ≡ n = ap length (sym s.parts) ∙ omega (arith, whole, length-take n bytes) in
    subst (λ (t : List ℕ). Front p n t) all (subst (λ (k : ℕ). Front p k (start ++ drop n bytes)) len
    (front_of p (code_of p) s.reserved s.a s.b s.c s.d s.body (drop n bytes) refl s.size s.lawful s.is_body))

-- what a lawful header and its body spell
spelled : (bytes : List ℕ) (p : Pdu) → 6 ≤ length bytes → size_of bytes + 6 ≤ length bytes
    → header_fault (type_of bytes) (size_of bytes) ≡ None → code_of p ≡ type_of bytes
    → IsBody p (take (size_of bytes) (drop 6 bytes)) → Spells p (take (size_of bytes + 6) bytes)
spelled (k ∷ r ∷ a ∷ b ∷ c ∷ d ∷ rest) p long whole lawful code body =
    let size = from_be_bytes w32 (a ∷ b ∷ c ∷ d ∷ []) in
    let len : length (take size rest) ≡ size = omega (arith, whole, length-take size rest) in
    let cut : take (size + 6) (k ∷ r ∷ a ∷ b ∷ c ∷ d ∷ rest) ≡ k ∷ r ∷ a ∷ b ∷ c ∷ d ∷ take size rest =
    ap (λ (n : ℕ). take n (k ∷ r ∷ a ∷ b ∷ c ∷ d ∷ rest)) (swap size) ∙ take-append-add (k ∷ r ∷ a ∷ b ∷ c ∷ d ∷ [])
    rest size in
    record {
      reserved = r;
      a = a;
      b = b;
      c = c;
      d = d;
      body = take size rest;
      size = sym len;
      lawful = ap (λ (n : ℕ). header_fault (code_of p) n) len ∙ ap (λ (x : ℕ). header_fault x size) code ∙ lawful;
      is_body = body;
      parts = cut ∙ ap (λ (x : ℕ). x ∷ r ∷ a ∷ b ∷ c ∷ d ∷ take size rest) (sym code);
    }
  where
    swap : (n : ℕ) → n + 6 ≡ 6 + n
    swap n = omega arith
spelled _ p long whole lawful code body = absurd (omega (arith, long))

-- a text spells one PDU
pub one_pdu : (bytes : List ℕ) (p q : Pdu) (n m : ℕ) → n ≤ length bytes → m ≤ length bytes → Spells p (take n bytes)
    → Spells q (take m bytes) → (p ≡ q) × (n ≡ m)
one_pdu bytes p q n m le lf s t =
    let f = front p n bytes le s in
    let g = front q m bytes lf t in
    let body = take (size_of bytes) (drop 6 bytes) in (
      ok_is PduFault p q (sym (body-again p body f.body) ∙ ap (λ (k : ℕ). body_at k body) (f.code ∙ sym g.code)
          ∙ body-again q body g.body),
      f.size ∙ sym g.size,
    )

-- ---- what a front is

abbrev Whole : List ℕ → Type 0
Whole bytes = HasLawfulHeader bytes × (size_of bytes + 6 ≤ length bytes)

abbrev header_in : List ℕ → HeaderParts
header_in bytes = record { code = type_of bytes; length = size_of bytes }

abbrev FrontIs : List ℕ → Result (Option HeaderParts) PduFault → Type 0
FrontIs bytes read = ((read ≡ Ok None) × IsUnfinished bytes)
    ⊎ (((fault : PduFault) × (read ≡ Err fault) × HasHeaderFault fault bytes)
    ⊎ ((read ≡ Ok (Some (header_in bytes))) × Whole bytes))

behind_is : (bytes : List ℕ) (o : Option PduFault) → 6 ≤ length bytes → header_fault (type_of bytes) (size_of bytes) ≡ o
    → FrontIs bytes (behind_header (or_fault o (header_in bytes)) bytes)
behind_is bytes (Some fault) long is = inr (inl (fault, refl, (long, is)))
behind_is bytes None long is =
    elim (cases_lt (length bytes - 6) (size_of bytes)) [
      | inl lt ↦ inl (rw (lt-ltb _ _ lt) refl, inr ((long, is), omega (arith, lt, long)))
      | inr le ↦ inr (inr (rw (le-ltb _ _ le) refl, ((long, is), omega (arith, le, long))))
    ]

front_is : (bytes : List ℕ) → FrontIs bytes (front_at bytes)
unfolding front_at
front_is bytes =
    elim (cases_lt (length bytes) 6) [
      | inl lt ↦ inl (rw (lt-ltb _ _ lt) refl, inl lt)
      | inr le ↦ subst (FrontIs bytes) (sym (past le)) (behind_is bytes (header_fault (type_of bytes) (size_of bytes))
          le refl)
    ]
  where
    past : 6 ≤ length bytes → front_at bytes ≡ behind_header (header_at (type_of bytes) (size_of bytes)) bytes
    past le = rw (le-ltb _ _ le) refl

-- ---- what is told of it

abbrev Outcome : Result Step PduFault → List ℕ → Type 0
Outcome result bytes = ((result ≡ Ok Need) × IsUnfinished bytes)
    ⊎ (((fault : PduFault) × (result ≡ Err fault) × HasHeaderFault fault bytes)
    ⊎ (((result ≡ Err Memory) × Whole bytes)
    ⊎ (((result ≡ Err BadItem) × HasBadBody bytes)
    ⊎ ((p : Pdu) × (result ≡ Ok (Done p (size_of bytes + 6))) × Whole bytes
    × Spells p (take (size_of bytes + 6) bytes)))))

given : (result : Result Step PduFault) (step : Step) → Gives result (Ok step) → (result ≡ Err Memory)
    ⊎ (result ≡ Ok step)
given (Ok x) step e = inr (sym e)
given (Err Memory) step e = inl refl
given (Err UnknownType) step e = absurd cc
given (Err BadLength) step e = absurd cc
given (Err BadItem) step e = absurd cc
given (Err TooLong) step e = absurd cc

failed : (result : Result Step PduFault) → Gives result (Err BadItem) → (result ≡ Err Memory) ⊎ (result ≡ Err BadItem)
failed (Ok x) e = absurd cc
failed (Err Memory) e = inl refl
failed (Err UnknownType) e = absurd cc
failed (Err BadLength) e = absurd cc
failed (Err BadItem) e = inr refl
failed (Err TooLong) e = absurd cc

no_value : {A : Type 0} (r : Result A PduFault) (x : A) (e : PduFault) → r ≡ Ok x → r ≡ Err e → ⊥
no_value r x e a b = cc

told_body : (bytes : List ℕ) (result : Result Step PduFault) (read : Result Pdu PduFault) → Whole bytes
    → body_at (type_of bytes) (take (size_of bytes) (drop 6 bytes)) ≡ read
    → Gives result (read >>= λ p. Ok (Done p (size_of bytes + 6))) → Outcome result bytes
told_body bytes result (Ok p) whole is gives =
    let body = take (size_of bytes) (drop 6 bytes) in
    let len : length body ≡ size_of bytes = cut_length (size_of bytes) bytes whole.1 in
    let f = body-found (type_of bytes) body p (ap (λ (n : ℕ). header_fault (type_of bytes) n) len ∙ whole.0.1) is in
    elim (given result (Done p (size_of bytes + 6)) gives) [
      | inl memory ↦ inr (inr (inl (memory, whole)))
      | inr done ↦ inr (inr (inr (inr (p, done, whole, spelled bytes p whole.0.0 whole.1 whole.0.1 f.0 f.1))))
    ]
  where
    cut_length : (n : ℕ) (bytes : List ℕ) → n + 6 ≤ length bytes → length (take n (drop 6 bytes)) ≡ n
    cut_length n (k ∷ r ∷ a ∷ b ∷ c ∷ d ∷ rest) le = omega (arith, le, length-take n rest)
    cut_length n _ le = absurd (omega (arith, le))
told_body bytes result (Err e) whole is gives =
    let bad : e ≡ BadItem = body-bad (type_of bytes) (take (size_of bytes) (drop 6 bytes)) e is in
    elim (failed result (subst (λ f. Gives result (Err f)) bad gives)) [
      | inl memory ↦ inr (inr (inl (memory, whole)))
      | inr told ↦ inr (inr (inr (inl (told, (whole.0, whole.1, λ p s. none p s)))))
    ]
  where
    none : (p : Pdu) → Spells p (take (size_of bytes + 6) bytes) → ⊥
    none p s =
        let f = front p (size_of bytes + 6) bytes whole.1 s in
        no_value (body_at (type_of bytes) (take (size_of bytes) (drop 6 bytes))) p e
        (ap (λ (k : ℕ). body_at k (take (size_of bytes) (drop 6 bytes))) (sym f.code)
        ∙ body-again p (take (size_of bytes) (drop 6 bytes)) f.body) is

pub outcome : (result : Result Step PduFault) (bytes : List ℕ) → Answers result bytes → Outcome result bytes
unfolding Answers
outcome result bytes answers = by_front (front_is bytes)
  where
    by_front : FrontIs bytes (front_at bytes) → Outcome result bytes
    by_front (inl (is, unfinished)) = inl (subst (λ r. Behind r bytes result) is answers, unfinished)
    by_front (inr (inl (fault, is, has))) = inr (inl (fault, subst (λ r. Behind r bytes result) is answers, has))
    by_front (inr (inr (is, whole))) = told_body bytes result _ whole refl (subst (λ r. Behind r bytes result) is
        answers)

-- ---- each clause

lawful_or_not : (bytes : List ℕ) (f : PduFault) → HasLawfulHeader bytes → HasHeaderFault f bytes → ⊥
lawful_or_not bytes f lawful has = no_fault (header_fault (type_of bytes) (size_of bytes)) f lawful.1 has.1
  where
    no_fault : (o : Option PduFault) (f : PduFault) → o ≡ None → o ≡ Some f → ⊥
    no_fault o f a b = cc

unfinished_or_fault : (bytes : List ℕ) (f : PduFault) → IsUnfinished bytes → HasHeaderFault f bytes → ⊥
unfinished_or_fault bytes f (inl short) has = absurd (omega (arith, short, has.0))
unfinished_or_fault bytes f (inr unfinished) has = lawful_or_not bytes f unfinished.0 has

unfinished_or_whole : (bytes : List ℕ) → IsUnfinished bytes → Whole bytes → ⊥
unfinished_or_whole bytes (inl short) whole = absurd (omega (arith, short, whole.0.0))
unfinished_or_whole bytes (inr unfinished) whole = absurd (omega (arith, unfinished.1, whole.1))

one_fault : (bytes : List ℕ) (f g : PduFault) → HasHeaderFault f bytes → HasHeaderFault g bytes → f ≡ g
one_fault bytes f g a b = same (header_fault (type_of bytes) (size_of bytes)) f g a.1 b.1
  where
    same : (o : Option PduFault) (f g : PduFault) → o ≡ Some f → o ≡ Some g → f ≡ g
    same o f g a b = cc

-- a header has no other fault than these
of_header : (code size : ℕ) (f : PduFault) → header_fault code size ≡ Some f → (f ≡ BadItem) ⊎ (f ≡ Memory) → ⊥
of_header code size f e (inl bad) = grind (arith, e, bad)
of_header code size f e (inr memory) = grind (arith, e, memory)

-- what is spelled has a whole lawful front, of this many bytes
front_whole : (p : Pdu) (n : ℕ) (bytes : List ℕ) → n ≤ length bytes → Spells p (take n bytes) → Whole bytes
    × (n ≡ size_of bytes + 6)
front_whole p n bytes le s = let f = front p n bytes le s in (((f.long, f.lawful), omega (arith, f.size, le)), f.size)

abbrev err : PduFault → Result Step PduFault
err f = Err f

same_err : (f g : PduFault) → err f ≡ err g → f ≡ g
same_err f g e = cc

err_or_need : (f : PduFault) → err f ≡ Ok Need → ⊥
err_or_need f e = cc

err_or_done : (p : Pdu) (n : ℕ) (f : PduFault) → ◌≡◌ {A = Result Step PduFault} (Ok (Done p n)) (Err f) → ⊥
err_or_done p n f e = cc

pub says_done : (result : Result Step PduFault) (bytes : List ℕ) → Outcome result bytes
    → IfDone result (λ p n. (n ≤ length bytes) × Spells p (take n bytes))
says_done result bytes (inl (is, unfinished)) = rw is tt
says_done result bytes (inr (inl (f, is, has))) = rw is tt
says_done result bytes (inr (inr (inl (is, whole)))) = rw is tt
says_done result bytes (inr (inr (inr (inl (is, bad))))) = rw is tt
says_done result bytes (inr (inr (inr (inr (p, is, whole, spells))))) = rw is (whole.1, spells)

pub says_only : (result : Result Step PduFault) (bytes : List ℕ) → Outcome result bytes → (p : Pdu) (n : ℕ)
    → n ≤ length bytes → Spells p (take n bytes) → Gives result (Ok (Done p n))
says_only result bytes (inl (is, unfinished)) p n le s =
    absurd (unfinished_or_whole bytes unfinished (front_whole p n bytes le s).0)
says_only result bytes (inr (inl (f, is, has))) p n le s =
    absurd (lawful_or_not bytes f (front_whole p n bytes le s).0.0 has)
says_only result bytes (inr (inr (inl (is, whole)))) p n le s = rw is tt
says_only result bytes (inr (inr (inr (inl (is, bad))))) p n le s =
    absurd (bad.2 p (subst (λ k. Spells p (take k bytes)) (front_whole p n bytes le s).1 s))
says_only result bytes (inr (inr (inr (inr (q, is, whole, spells))))) p n le s =
    let one = one_pdu bytes p q n (size_of bytes + 6) le whole.1 s spells in
    rw is (ap (λ (x : Pdu). Ok (Done x n)) one.0 ∙ ap (λ (k : ℕ). Ok (Done q k)) one.1)

pub says_need : (result : Result Step PduFault) (bytes : List ℕ) → Outcome result bytes
    → (result ≡ Ok Need → IsUnfinished bytes) × (IsUnfinished bytes → result ≡ Ok Need)
says_need result bytes (inl (is, unfinished)) = (λ _. unfinished, λ _. is)
says_need result bytes (inr (inl (f, is, has))) = (
  λ e. absurd (err_or_need f (sym is ∙ e)),
  λ u. absurd
      (unfinished_or_fault bytes f u has),
)
says_need result bytes (inr (inr (inl (is, whole)))) = (
  λ e. absurd (err_or_need Memory (sym is ∙ e)),
  λ u. absurd
      (unfinished_or_whole bytes u whole),
)
says_need result bytes (inr (inr (inr (inl (is, bad))))) = (
  λ e. absurd (err_or_need BadItem (sym is ∙ e)),
  λ u. absurd
      (unfinished_or_whole bytes u (bad.0, bad.1)),
)
says_need result bytes (inr (inr (inr (inr (p, is, whole, spells))))) =
    (λ e. absurd (done_or_need p (size_of bytes + 6) (sym is ∙ e)), λ u. absurd (unfinished_or_whole bytes u whole))
  where
    done_or_need : (p : Pdu) (n : ℕ) → ◌≡◌ {A = Result Step PduFault} (Ok (Done p n)) (Ok Need) → ⊥
    done_or_need p n e = cc

need_or_err : (f : PduFault) → ◌≡◌ {A = Result Step PduFault} (Ok Need) (Err f) → ⊥
need_or_err f e = cc

-- a fault of the header is told exactly where it is
pub says_fault : (f : PduFault) → (f ≢ BadItem) → (f ≢ Memory) → (result : Result Step PduFault) (bytes : List ℕ)
    → Outcome result bytes → (result ≡ Err f → HasHeaderFault f bytes) × (HasHeaderFault f bytes → result ≡ Err f)
says_fault f item memory result bytes (inl (is, unfinished)) = (
  λ e. absurd (need_or_err f (sym is ∙ e)),
  λ has. absurd
      (unfinished_or_fault bytes f unfinished has),
)
says_fault f item memory result bytes (inr (inl (g, is, has))) = (
  λ e. subst (λ x. HasHeaderFault x bytes) (same_err g f (sym is ∙ e)) has,
  λ own. is
      ∙ ap err (one_fault bytes g f has own),
)
says_fault f item memory result bytes (inr (inr (inl (is, whole)))) =
    (λ e. absurd (memory (sym (same_err Memory f (sym is ∙ e)))), λ has. absurd (lawful_or_not bytes f whole.0 has))
says_fault f item memory result bytes (inr (inr (inr (inl (is, bad))))) =
    (λ e. absurd (item (sym (same_err BadItem f (sym is ∙ e)))), λ has. absurd (lawful_or_not bytes f bad.0 has))
says_fault f item memory result bytes (inr (inr (inr (inr (p, is, whole, spells))))) =
    (λ e. absurd (err_or_done p (size_of bytes + 6) f (sym is ∙ e)), λ has. absurd (lawful_or_not bytes f whole.0 has))

pub says_bad : (result : Result Step PduFault) (bytes : List ℕ) → Outcome result bytes → result ≡ Err BadItem
    → HasBadBody bytes
says_bad result bytes (inl (is, unfinished)) e = absurd (need_or_err BadItem (sym is ∙ e))
says_bad result bytes (inr (inl (f, is, has))) e = absurd (of_header (type_of bytes) (size_of bytes) f
    has.1 (inl (same_err f BadItem (sym is ∙ e))))
says_bad result bytes (inr (inr (inl (is, whole)))) e = absurd (two (same_err Memory BadItem (sym is ∙ e)))
  where
    two : Memory ≡ BadItem → ⊥
    two e = cc
says_bad result bytes (inr (inr (inr (inl (is, bad))))) e = bad
says_bad result bytes (inr (inr (inr (inr (p, is, whole, spells))))) e =
    absurd (err_or_done p (size_of bytes + 6) BadItem (sym is ∙ e))

pub says_bad_told : (result : Result Step PduFault) (bytes : List ℕ) → Outcome result bytes → HasBadBody bytes
    → Gives result (Err BadItem)
says_bad_told result bytes (inl (is, unfinished)) bad = absurd (unfinished_or_whole bytes unfinished (bad.0, bad.1))
says_bad_told result bytes (inr (inl (f, is, has))) bad = absurd (lawful_or_not bytes f bad.0 has)
says_bad_told result bytes (inr (inr (inl (is, whole)))) bad = rw is tt
says_bad_told result bytes (inr (inr (inr (inl (is, none))))) bad = rw is refl
says_bad_told result bytes (inr (inr (inr (inr (p, is, whole, spells))))) bad = absurd (bad.2 p spells)

pub not_item_1 : UnknownType ≢ BadItem
not_item_1 e = cc

pub not_item_2 : BadLength ≢ BadItem
not_item_2 e = cc

pub not_item_4 : TooLong ≢ BadItem
not_item_4 e = cc

pub not_memory_1 : UnknownType ≢ Memory
not_memory_1 e = cc

pub not_memory_2 : BadLength ≢ Memory
not_memory_2 e = cc

pub not_memory_4 : TooLong ≢ Memory
not_memory_4 e = cc
