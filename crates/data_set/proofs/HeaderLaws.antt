-- What is read of a header is spelled there, and what is spelled there is read.
use Rattle.std.proofs.Common.{◌≡◌, ℕ, zero, suc, ◌+◌, ◌*◌, ◌/◌, ◌%◌, ◌^◌, ◌<◌, Bool, true, false, not, ◌&&◌, ◌||◌, cond}
use Rattle.std.proofs.Common.{List, [], ◌∷◌, ◌++◌, Option, Some, None, Result, Ok, Err, refl, sym, ap, subst, ◌∙◌}
use Rattle.std.proofs.Common.{arith, MatchBool}
use Rattle.std.specs.Prelude.{◌==◌, IfOk}
use Rattle.std.specs.Borrow.{Bor}
use Rattle.std.specs.Int.{w16, w32, from_le_bytes, to_le_bytes}
use Rattle.std.proofs.lemmas.Bool.{eqb-true, and_parts as and_true, not-true as not_true, not-false as not_false}
use Rattle.std.proofs.lemmas.Nat.{le_bytes_2, le_bytes_4, from_le_bytes-to_le_bytes_2, from_le_bytes-to_le_bytes_4}
use Rattle.std.proofs.lemmas.Bool.{or_parts as or_false}
use mathlib.Core.Bool.{and-false as and_false}
use Rattle.data_set.specs.declared.fault.SetFault.{SetFault}
use Rattle.data_set.specs.declared.fault.SetFault.TheVariants.{Truncated, Order, Depth, Undefined, BadVr, Group}
use Rattle.data_set.specs.declared.syntax.Syntax.{Syntax}
use Rattle.data_set.specs.declared.syntax.Syntax.TheVariants.{Implicit, Explicit}
use Rattle.data_set.specs.declared.header.Header.{Header}
use Rattle.data_set.specs.declared.header.Front.{Front}
use Rattle.octets.specs.Bytes.{IsBytes}
use Rattle.octets.specs.Gives.{Gives, ◌>>=◌}
use Rattle.octets.proofs.ByteLaws.{IsBytes-two, IsBytes-four, bind_ok, guard_ok, ok_is}
use Rattle.data_set.specs.Fault.{is_memory}
use Rattle.dictionary.specs.Tags.{is_above, tag_from, tag_text}
use Rattle.data_set.specs.Tags.{item, is_item_tag, is_reserved_group}
use Rattle.data_set.specs.Vr.{has_bad_vr, inner_syntax, is_capital, is_short, is_undefined}
use Rattle.data_set.specs.Header.{checked, explicit_header, front_at, front_from, has_long_size, header_at}
use Rattle.data_set.specs.Header.{implicit_header, is_place, item_at, long_size, offence, short_size}
use Rattle.data_set.specs.Spelling.{Begins, BeginsItem, FitsHead, IsHead, SuitsSyntax}
use Rattle.data_set.proofs.Offences.{guard_none}

-- the tag that is spelled is the tag that is read
pub tag_again : (tag : ℕ) → tag < 2 ^ 32 → from_le_bytes w16 (to_le_bytes w16 (tag / 65536)) * 65536 + from_le_bytes
    w16 (to_le_bytes w16 (tag % 65536)) ≡ tag
tag_again tag lt =
    let high : tag / 65536 < 2 ^ 16 = omega arith in
    let low : tag % 65536 < 2 ^ 16 = omega arith in
    rw (from_le_bytes-to_le_bytes_2 (tag / 65536) high, from_le_bytes-to_le_bytes_2 (tag % 65536) low) (omega arith)

abbrev pub header : ℕ → Option (List ℕ) → ℕ → Header
header tag vr size = record { tag = tag; vr = vr; size = size }

pub implicit_again : (tag size : ℕ) (rest : List ℕ) → tag < 2 ^ 32 → size < 2 ^ 32
    → implicit_header (tag_text tag ++ (to_le_bytes w32 size ++ rest)) ≡ Ok (header tag None size, rest)
implicit_again tag size rest lt fits =
    let t = tag_again tag lt in
    let s = from_le_bytes-to_le_bytes_4 size fits in
    ap (λ (p : ℕ × ℕ). Ok (header p.0 None p.1, rest)) (ap (λ (x : ℕ). (x, from_le_bytes w32 (to_le_bytes w32 size))) t
    ∙ ap (λ (y : ℕ). (tag, y)) s)

-- what is known of a header in which nothing offends
pub record Faultless (previous : Option ℕ) (tag : ℕ) (vr : Option (List ℕ)) : Type 0 where
  pub item : is_item_tag tag ≡ false
  pub above : is_above previous tag ≡ true
  pub vr_good : has_bad_vr tag vr ≡ false

pub faultless_parts : (previous : Option ℕ) (tag : ℕ) (vr : Option (List ℕ)) (size : ℕ)
    → offence previous (header tag vr size) ≡ None → Faultless previous tag vr
unfolding offence
faultless_parts previous tag vr size e =
    let last = cond (is_undefined tag (inner_syntax tag vr size) size) (Some Undefined) None in
    let third = cond (has_bad_vr tag vr) (Some BadVr) last in
    let second = cond (is_reserved_group tag) (Some Group) third in
    let a = guard_none (is_item_tag tag || not (is_above previous tag)) Order second e in
    let order = or_false (is_item_tag tag) (not (is_above previous tag)) a.0 in
    let b = guard_none (is_reserved_group tag) Group third a.1 in
    let c = guard_none (has_bad_vr tag vr) BadVr last b.1 in
    record { item = order.0; above = not_false (is_above previous tag) order.1; vr_good = c.0 }

pub capitals : (tag a b : ℕ) → has_bad_vr tag (Some (a ∷ b ∷ [])) ≡ false → (is_capital a ≡ true)
    × (is_capital b ≡ true)
capitals tag a b e = and_true _ _ (not_false _ (or_false _ _ e).0)

pub explicit_short_again : (tag a b size : ℕ) (rest : List ℕ) → tag < 2 ^ 32 → size < 2 ^ 16 → is_short a b ≡ true
    → explicit_header (tag_text tag ++ (a ∷ b ∷ (to_le_bytes w16 size ++ rest))) ≡ Ok (
      header tag (Some (a ∷ b ∷ []))
          size,
      rest,
    )
explicit_short_again tag a b size rest lt fits is =
    let none : has_long_size tag a b ≡ false = rw is (and_false (not (is_item_tag tag) && is_capital a && is_capital b))
    in
    rw (tag_again tag lt, none, from_le_bytes-to_le_bytes_2 size fits) refl

pub explicit_long_again : (tag a b r0 r1 size : ℕ) (rest : List ℕ) → tag < 2 ^ 32 → size < 2 ^ 32 → is_short a b ≡ false
    → is_item_tag tag ≡ false → is_capital a ≡ true → is_capital b ≡ true
    → explicit_header (tag_text tag ++ (a ∷ b ∷ r0 ∷ r1 ∷ (to_le_bytes w32 size ++ rest))) ≡ Ok
    (header tag (Some (a ∷ b ∷ [])) size, rest)
explicit_long_again tag a b r0 r1 size rest lt fits is plain cap_a cap_b =
    let long : has_long_size tag a b ≡ true = rw (plain, cap_a, cap_b, is) refl in
    rw (tag_again tag lt, long, from_le_bytes-to_le_bytes_4 size fits) refl

-- the header that is spelled is the header that is read
abbrev ReadsHeader : Syntax → ℕ → Option (List ℕ) → ℕ → List ℕ → List ℕ → Type 0
ReadsHeader syntax tag vr size head rest = header_at syntax (tag_text tag ++ (head ++ rest)) ≡ Ok
    (header tag vr size, rest)

pair_again : (tag a b size : ℕ) (rest head : List ℕ) (known : Bool) → is_short a b ≡ known → tag < 2 ^ 32
    → is_item_tag tag ≡ false → is_capital a ≡ true → is_capital b ≡ true
    → MatchBool known (size < 2 ^ 16) (size < 2 ^ 32)
    → MatchBool known (head ≡ a ∷ b ∷ to_le_bytes w16 size)
    ((r0 r1 : ℕ) × (head ≡ a ∷ b ∷ r0 ∷ r1 ∷ to_le_bytes w32 size))
    → ReadsHeader Explicit tag (Some (a ∷ b ∷ [])) size head rest
unfolding header_at
pair_again tag a b size rest head true is lt plain cap_a cap_b fits spelled =
    ap (λ (t : List ℕ). explicit_header (tag_text tag ++ (t ++ rest))) spelled ∙ explicit_short_again tag a b size rest
    lt fits is
pair_again tag a b size rest head false is lt plain cap_a cap_b fits spelled =
    ap (λ (t : List ℕ). explicit_header (tag_text tag ++ (t ++ rest))) spelled.2 ∙ explicit_long_again tag a b spelled.0
    spelled.1 size rest lt fits is plain cap_a cap_b

header_again : (syntax : Syntax) (previous : Option ℕ) (tag : ℕ) (vr : Option (List ℕ)) (size : ℕ) (rest head : List ℕ)
    → tag < 2 ^ 32 → SuitsSyntax syntax vr → FitsHead vr size → Faultless previous tag vr → IsHead vr size head
    → ReadsHeader syntax tag vr size head rest
unfolding header_at
header_again Implicit previous tag None size rest head lt suits fits fine spelled =
    ap (λ (t : List ℕ). implicit_header (tag_text tag ++ (t ++ rest))) spelled ∙ implicit_again tag size rest lt fits
header_again Implicit previous tag (Some vr) size rest head lt suits fits fine spelled = absurd suits
header_again Explicit previous tag None size rest head lt suits fits fine spelled = absurd suits
header_again Explicit previous tag (Some []) size rest head lt suits fits fine spelled = absurd spelled
header_again Explicit previous tag (Some (a ∷ [])) size rest head lt suits fits fine spelled = absurd spelled
header_again Explicit previous tag (Some (a ∷ b ∷ [])) size rest head lt suits fits fine spelled =
    let caps = capitals tag a b fine.vr_good in
    pair_again tag a b size rest head (is_short a b) refl lt fine.item caps.0 caps.1 fits spelled
header_again Explicit previous tag (Some (a ∷ b ∷ c ∷ vr)) size rest head lt suits fits fine spelled = absurd spelled

-- what reading makes of a header
abbrev front_behind : Header → List ℕ → Result (Front × List ℕ) SetFault
front_behind h rest = cond (not (is_place h.size rest)) (Err Truncated) (Ok (front_from h, rest))

fine_front : (h : Header) (found : Option SetFault) (rest : List ℕ) → found ≡ None → is_place h.size rest ≡ true
    → (checked found >>= λ fine. front_behind h rest) ≡ Ok (front_from h, rest)
fine_front h None rest e place = rw place refl
fine_front h (Some f) rest e place = absurd cc

pub front_again : (syntax : Syntax) (previous : Option ℕ) (text : List ℕ) (front : Front) (rest : List ℕ)
    → Begins syntax previous text front rest → front_at syntax previous text ≡ Ok (front, rest)
unfolding front_at
front_again syntax previous text front rest b =
    let h = header front.tag front.vr front.size in
    let read : header_at syntax text ≡ Ok (h, rest) = ap (header_at syntax) b.parts ∙ header_again syntax previous
    front.tag front.vr front.size rest b.head b.tag b.suits b.fits (faultless_parts previous front.tag front.vr
    front.size b.faultless) b.spelled in
    let made : front_from h ≡ front = ap (λ (i : Option Syntax). record {
      tag = front.tag;
      vr = front.vr;
      inner =
          i;
      size = front.size;
    }) (sym b.inner) in
    rw read (fine_front h (offence previous h) rest b.faultless b.place) ∙ ap (λ (x : Front). Ok (x, rest)) made

tag_takes : (g0 g1 e0 e1 : ℕ) → g0 < 256 → g1 < 256 → e0 < 256 → e1 < 256
    → (tag_text (tag_from g0 g1 e0 e1) ≡ g0 ∷ g1 ∷ e0 ∷ e1 ∷ []) × (tag_from g0 g1 e0 e1 < 2 ^ 32)
tag_takes g0 g1 e0 e1 p q r s =
    let high : tag_from g0 g1 e0 e1 / 65536 ≡ from_le_bytes w16 (g0 ∷ g1 ∷ []) = omega arith in
    let low : tag_from g0 g1 e0 e1 % 65536 ≡ from_le_bytes w16 (e0 ∷ e1 ∷ []) = omega arith in
    let a : to_le_bytes w16 (tag_from g0 g1 e0 e1 / 65536) ≡ g0 ∷ g1 ∷ [] = le_bytes_2 (g0 ∷ g1 ∷ []) _
    refl (IsBytes-two g0 g1 p q) high in
    let b : to_le_bytes w16 (tag_from g0 g1 e0 e1 % 65536) ≡ e0 ∷ e1 ∷ [] = le_bytes_2 (e0 ∷ e1 ∷ []) _
    refl (IsBytes-two e0 e1 r s) low in (
      ap (λ (x : List ℕ). x ++ to_le_bytes w16 (tag_from g0 g1 e0 e1 % 65536)) a
          ∙ ap (λ (x : List ℕ). (g0 ∷ g1 ∷ []) ++ x) b,
      omega arith,
    )

-- what a header that was read says of the text
pub record Heads (syntax : Syntax) (h : Header) (text rest : List ℕ) : Type 0 where
  pub tag : h.tag < 2 ^ 32
  pub suits : SuitsSyntax syntax h.vr
  pub fits : FitsHead h.vr h.size
  pub head : List ℕ
  pub spelled : IsHead h.vr h.size head
  pub parts : text ≡ tag_text h.tag ++ (head ++ rest)

implicit_takes : (text : List ℕ) (x : Header × List ℕ) → IsBytes text → implicit_header text ≡ Ok x → Heads Implicit x.0
    text x.1
implicit_takes (g0 ∷ g1 ∷ e0 ∷ e1 ∷ l0 ∷ l1 ∷ l2 ∷ l3 ∷ rest) x fits e =
    let t = tag_takes g0 g1 e0 e1 (fits 0) (fits 1) (fits 2) (fits 3) in
    let tag = tag_from g0 g1 e0 e1 in
    let size = from_le_bytes w32 (l0 ∷ l1 ∷ l2 ∷ l3 ∷ []) in
    let l : to_le_bytes w32 size ≡ l0 ∷ l1 ∷ l2 ∷ l3 ∷ [] = le_bytes_4 (l0 ∷ l1 ∷ l2 ∷ l3 ∷ []) _
    refl (IsBytes-four l0 l1 l2 l3 (fits 4) (fits 5) (fits 6) (fits 7)) refl in
    let made : Header × List ℕ = (header tag None size, rest) in
    subst (λ (y : Header × List ℕ). Heads Implicit y.0 (g0 ∷ g1 ∷ e0 ∷ e1 ∷ l0 ∷ l1 ∷ l2 ∷ l3 ∷ rest) y.1)
    (ok_is SetFault made x e) (record {
      tag = t.1;
      suits = tt;
      fits = omega (arith, fits 4, fits 5, fits 6, fits 7);
      head = l0 ∷ l1 ∷ l2 ∷ l3 ∷ [];
      spelled = sym l;
      parts = ap (λ (g : List ℕ). g ++ (l0 ∷ l1 ∷ l2 ∷ l3 ∷ rest)) (sym t.0);
    })
implicit_takes _ x fits e = absurd cc

short_takes : (tag g0 g1 e0 e1 a b : ℕ) (text : List ℕ) (x : Header × List ℕ) → IsBytes text → tag < 2 ^ 32
    → tag_text tag ≡ g0 ∷ g1 ∷ e0 ∷ e1 ∷ [] → is_short a b ≡ true → short_size tag (a ∷ b ∷ []) text ≡ Ok x
    → Heads Explicit x.0 (g0 ∷ g1 ∷ e0 ∷ e1 ∷ a ∷ b ∷ text) x.1
short_takes tag g0 g1 e0 e1 a b (l0 ∷ l1 ∷ rest) x fits lt t is e =
    let size = from_le_bytes w16 (l0 ∷ l1 ∷ []) in
    let l : to_le_bytes w16 size ≡ l0 ∷ l1 ∷ [] = le_bytes_2 (l0 ∷ l1 ∷ []) _ refl (IsBytes-two l0 l1 (fits 0) (fits 1))
    refl in
    let made : Header × List ℕ = (header tag (Some (a ∷ b ∷ [])) size, rest) in
    subst (λ (y : Header × List ℕ). Heads Explicit y.0 (g0 ∷ g1 ∷ e0 ∷ e1 ∷ a ∷ b ∷ l0 ∷ l1 ∷ rest) y.1)
    (ok_is SetFault made x e) (record {
      tag = lt;
      suits = tt;
      fits = rw is (omega (arith, fits 0, fits 1));
      head = a ∷ b ∷ l0 ∷ l1 ∷ [];
      spelled = rw is (ap (λ (y : List ℕ). a ∷ b ∷ y) (sym l));
      parts = ap (λ (g : List ℕ). g ++ (a ∷ b ∷ l0 ∷ l1 ∷ rest)) (sym t);
    })
short_takes tag g0 g1 e0 e1 a b _ x fits lt t is e = absurd cc

long_takes : (tag g0 g1 e0 e1 a b : ℕ) (text : List ℕ) (x : Header × List ℕ) → IsBytes text → tag < 2 ^ 32
    → tag_text tag ≡ g0 ∷ g1 ∷ e0 ∷ e1 ∷ [] → is_short a b ≡ false → long_size tag (a ∷ b ∷ []) text ≡ Ok x
    → Heads Explicit x.0 (g0 ∷ g1 ∷ e0 ∷ e1 ∷ a ∷ b ∷ text) x.1
long_takes tag g0 g1 e0 e1 a b (r0 ∷ r1 ∷ l0 ∷ l1 ∷ l2 ∷ l3 ∷ rest) x fits lt t is e =
    let size = from_le_bytes w32 (l0 ∷ l1 ∷ l2 ∷ l3 ∷ []) in
    let l : to_le_bytes w32 size ≡ l0 ∷ l1 ∷ l2 ∷ l3 ∷ [] = le_bytes_4 (l0 ∷ l1 ∷ l2 ∷ l3 ∷ []) _
    refl (IsBytes-four l0 l1 l2 l3 (fits 2) (fits 3) (fits 4) (fits 5)) refl in
    let made : Header × List ℕ = (header tag (Some (a ∷ b ∷ [])) size, rest) in
    subst (λ (y : Header × List ℕ). Heads Explicit y.0 (g0 ∷ g1 ∷ e0 ∷ e1 ∷ a ∷ b ∷ r0 ∷ r1 ∷ l0 ∷ l1 ∷ l2 ∷ l3 ∷ rest)
    y.1) (ok_is SetFault made x e) (record {
      tag = lt;
      suits = tt;
      fits = rw is (omega (arith, fits 2, fits 3, fits 4, fits 5));
      head = a ∷ b ∷ r0 ∷ r1 ∷ l0 ∷ l1 ∷ l2 ∷ l3 ∷ [];
      spelled = rw is (r0, r1, ap (λ (y : List ℕ). a ∷ b ∷ r0 ∷ r1 ∷ y) (sym l));
      parts = ap (λ (g : List ℕ). g ++ (a ∷ b ∷ r0 ∷ r1 ∷ l0 ∷ l1 ∷ l2 ∷ l3 ∷ rest)) (sym t);
    })
long_takes tag g0 g1 e0 e1 a b _ x fits lt t is e = absurd cc

names_short : (tag : ℕ) (vr : List ℕ) (text : List ℕ) (x : Header × List ℕ) → short_size tag vr text ≡ Ok x
    → (x.0.tag ≡ tag) × (x.0.vr ≡ Some vr)
names_short tag vr (l0 ∷ l1 ∷ rest) x e =
    let made : Header × List ℕ = (header tag (Some vr) (from_le_bytes w16 (l0 ∷ l1 ∷ [])), rest) in
    let same = ok_is SetFault made x e in
    (sym (ap (λ (y : Header × List ℕ). y.0.tag) same), sym (ap (λ (y : Header × List ℕ). y.0.vr) same))
names_short tag vr _ x e = absurd cc

pair_takes : (previous : Option ℕ) (tag g0 g1 e0 e1 a b : ℕ) (text : List ℕ) (x : Header × List ℕ) (known : Bool)
    → IsBytes text → tag < 2 ^ 32 → tag_text tag ≡ g0 ∷ g1 ∷ e0 ∷ e1 ∷ [] → has_long_size tag a b ≡ known
    → cond known (long_size tag (a ∷ b ∷ []) text) (short_size tag (a ∷ b ∷ []) text) ≡ Ok x → Faultless previous
    x.0.tag x.0.vr → Heads Explicit x.0 (g0 ∷ g1 ∷ e0 ∷ e1 ∷ a ∷ b ∷ text) x.1
pair_takes previous tag g0 g1 e0 e1 a b text x true fits lt t long e fine =
    long_takes tag g0 g1 e0 e1 a b text x fits lt t (not_true _ (and_true _ _ long).1) e
pair_takes previous tag g0 g1 e0 e1 a b text x false fits lt t long e fine =
    let names = names_short tag (a ∷ b ∷ []) text x e in
    let good : has_bad_vr tag (Some (a ∷ b ∷ [])) ≡ false = ap (λ (v : Option (List ℕ)). has_bad_vr tag v) (sym names.1)
    ∙ ap (λ (n : ℕ). has_bad_vr n x.0.vr) (sym names.0) ∙ fine.vr_good in
    let caps = capitals tag a b good in
    let item : is_item_tag tag ≡ false = ap is_item_tag (sym names.0) ∙ fine.item in
    let is : is_short a b ≡ true = not_false _ (rw (item, caps.0, caps.1) at long) in
    short_takes tag g0 g1 e0 e1 a b text x fits lt t is e

pub rest_bytes : (front text : List ℕ) → IsBytes (front ++ text) → IsBytes text
rest_bytes [] text fits = fits
rest_bytes (b ∷ front) text fits = rest_bytes front text (λ i. fits (suc i))

explicit_takes : (previous : Option ℕ) (text : List ℕ) (x : Header × List ℕ) → IsBytes text → explicit_header text ≡ Ok
    x → Faultless previous x.0.tag x.0.vr → Heads Explicit x.0 text x.1
explicit_takes previous (g0 ∷ g1 ∷ e0 ∷ e1 ∷ a ∷ b ∷ rest) x fits e fine =
    let t = tag_takes g0 g1 e0 e1 (fits 0) (fits 1) (fits 2) (fits 3) in
    pair_takes previous (tag_from g0 g1 e0 e1) g0 g1 e0 e1 a b rest x _ (rest_bytes (g0 ∷ g1 ∷ e0 ∷ e1 ∷ a ∷ b ∷ [])
    rest fits) t.1 t.0 refl e fine
explicit_takes previous _ x fits e fine = absurd cc

header_takes : (syntax : Syntax) (previous : Option ℕ) (text : List ℕ) (x : Header × List ℕ) → IsBytes text
    → header_at syntax text ≡ Ok x → Faultless previous x.0.tag x.0.vr → Heads syntax x.0 text x.1
unfolding header_at
header_takes Implicit previous text x fits e fine = implicit_takes text x fits e
header_takes Explicit previous text x fits e fine = explicit_takes previous text x fits e fine

checked_ok : (found : Option SetFault) (u : Unit {0}) → checked found ≡ Ok u → found ≡ None
checked_ok None u e = refl
checked_ok (Some f) u e = absurd cc

guard_more : {A : Type 0} (b : Bool) (d : SetFault) (r : Result A SetFault) (y : A) → cond b (Err d) r ≡ Ok y
    → (b ≡ false) × (r ≡ Ok y)
guard_more true d r y e = absurd cc
guard_more false d r y e = (refl, e)

pub front_takes : (syntax : Syntax) (previous : Option ℕ) (text : List ℕ) (x : Front × List ℕ) → IsBytes text
    → front_at syntax previous text ≡ Ok x → Begins syntax previous text x.0 x.1
unfolding front_at
front_takes syntax previous text x fits e =
    let a = bind_ok (header_at syntax text) (λ h. checked (offence previous h.0) >>= λ fine. front_behind h.0 h.1) x e
    in
    let h = a.0.0 in
    let after = a.0.1 in
    let b = bind_ok (checked (offence previous h)) (λ fine. front_behind h after) x a.2 in
    let fine : offence previous h ≡ None = checked_ok _ b.0 b.1 in
    let made : Front × List ℕ = (front_from h, after) in
    let g = guard_ok (not (is_place h.size after)) Truncated made x b.2 in
    let heads = header_takes syntax previous text a.0 fits a.1 (faultless_parts previous h.tag h.vr h.size fine) in
    subst (λ (y : Front × List ℕ). Begins syntax previous text y.0 y.1) g.1 (record {
      tag = heads.tag;
      suits = heads.suits;
      fits = heads.fits;
      faultless = fine;
      inner = refl;
      place = not_false (is_place h.size after) g.0;
      head = heads.head;
      spelled = heads.spelled;
      parts = heads.parts;
    })

-- ---- items

abbrev item_behind : ℕ → Header → List ℕ → Result (ℕ × List ℕ) SetFault
item_behind n h rest = cond (not (h.tag == item)) (Err Order)
    (cond (n == 0) (Err Depth) (cond (not (is_place h.size rest)) (Err Truncated) (Ok (h.size, rest))))

above_none : (n : ℕ) → 0 < n → (n == 0) ≡ false
above_none zero lt = absurd (omega arith)
above_none (suc n) lt = grind arith

none_not_above : (n : ℕ) → (n == 0) ≡ false → 0 < n
none_not_above zero e = absurd cc
none_not_above (suc n) e = omega arith

pub item_again : (n : ℕ) (text : List ℕ) (size : ℕ) (rest : List ℕ) → BeginsItem n text size rest
    → item_at n text ≡ Ok (size, rest)
unfolding item_at header_at
item_again n text size rest b =
    let read : implicit_header text ≡ Ok (header item None size, rest) = ap implicit_header b.parts
    ∙ implicit_again item size rest (omega arith) b.fits in
    ap (λ (r : Result (Header × List ℕ) SetFault). r >>= λ h. item_behind n h.0 h.1) read
    ∙ rw (above_none n b.deep, b.place) refl

pub item_takes : (n : ℕ) (text : List ℕ) (x : ℕ × List ℕ) → IsBytes text → item_at n text ≡ Ok x → BeginsItem n text x.0
    x.1
unfolding item_at header_at
item_takes n text x fits e =
    let a = bind_ok (implicit_header text) (λ h. item_behind n h.0 h.1) x e in
    let h = a.0.0 in
    let after = a.0.1 in
    let g = guard_more (not (h.tag == item))
    Order (cond (n == 0) (Err Depth) (cond (not (is_place h.size after)) (Err Truncated) (Ok (h.size, after)))) x
    a.2 in
    let d = guard_more (n == 0) Depth (cond (not (is_place h.size after)) (Err Truncated) (Ok (h.size, after))) x g.1 in
    let made : ℕ × List ℕ = (h.size, after) in
    let p = guard_ok (not (is_place h.size after)) Truncated made x d.1 in
    let heads = implicit_takes text a.0 fits a.1 in
    let tag : h.tag ≡ item = eqb-true h.tag item (not_false (h.tag == item) g.0) in
    let implicit : h.vr ≡ None = no_vr h.vr heads.suits in
    let head : heads.head ≡ to_le_bytes w32 h.size = subst (λ (v : Option (List ℕ)). IsHead v h.size heads.head)
    implicit heads.spelled in
    let fit : h.size < 2 ^ 32 = subst (λ (v : Option (List ℕ)). FitsHead v h.size) implicit heads.fits in
    subst (λ (y : ℕ × List ℕ). BeginsItem n text y.0 y.1) p.1 (record {
      deep = none_not_above n d.0;
      fits = fit;
      place = not_false (is_place h.size after) p.0;
      parts = heads.parts ∙ ap (λ (t : ℕ). tag_text t ++ (heads.head ++ after)) tag
          ∙ ap (λ (l : List ℕ). tag_text item ++ (l ++ after)) head;
    })
  where
    no_vr : (vr : Option (List ℕ)) → SuitsSyntax Implicit vr → vr ≡ None
    no_vr None suits = refl
    no_vr (Some vr) suits = absurd suits

-- what a call gave, as the grammar has it
pub front_found : (syntax : Syntax) (previous : Option ℕ) (text : List ℕ) (r : Result (Front × Bor (List ℕ)) SetFault)
    → IsBytes text → Gives is_memory (λ x. (x.0, x.1.now)) r (front_at syntax previous text)
    → IfOk r (λ x. Begins syntax previous text x.0 x.1.now)
front_found syntax previous text (Ok x) fits given = front_takes syntax previous text (x.0, x.1.now) fits given
front_found syntax previous text (Err e) fits given = tt

pub item_found : (n : ℕ) (text : List ℕ) (r : Result (ℕ × Bor (List ℕ)) SetFault) → IsBytes text
    → Gives is_memory (λ x. (x.0, x.1.now)) r (item_at n text)
    → IfOk r (λ x. BeginsItem n text x.0 x.1.now)
item_found n text (Ok x) fits given = item_takes n text (x.0, x.1.now) fits given
item_found n text (Err e) fits given = tt
