-- What reading the bytes in hand tells of them.
use Rattle.std.proofs.Common.{◌≡◌, ◌⊎◌, inl, inr, ℕ, ◌+◌, ◌≤◌, List, length, take, Option, Some, None, Result, Ok, Err}
use Rattle.std.proofs.Common.{refl, sym, subst, ◌∙◌, arith}
use Rattle.std.specs.Prelude.{IfOk}
use Rattle.std.proofs.lemmas.List.{take_all}
use Rattle.pdu.specs.declared.fault.PduFault.{PduFault}
use Rattle.pdu.specs.declared.fault.PduFault.TheVariants.{UnknownType, BadLength, BadItem, TooLong, Memory}
use Rattle.pdu.specs.declared.value.Pdu.{Pdu}
use Rattle.pdu.specs.declared.value.Step.{Step}
use Rattle.pdu.specs.declared.value.Step.TheVariants.{Need, Done}
use Rattle.pdu.specs.Grammar.{Spells, HasHeaderFault, HasLawfulHeader, HasBadBody, IsUnfinished, IfDone, size_of}
use Rattle.pdu.specs.Spelling.{IsPdu}
use Rattle.pdu.proofs.Fronts.{front}
use Rattle.association_run.specs.declared.piece.Piece.{Piece}
use Rattle.association_run.specs.inner.Inbox.{Finds, IsPieceIn}

-- a header, or a PDU whose header is lawful
abbrev pub Ends : List ℕ → Type 0
Ends text = (length text ≡ 6) ⊎ (HasLawfulHeader text × (length text ≡ size_of text + 6))

abbrev pub IsErr : Result Step PduFault → PduFault → Type 0
IsErr step fault = step ≡ Err fault

all_taken : (text : List ℕ) (p : Pdu) (n : ℕ) → Ends text → n ≤ length text → Spells p (take n text) → length text ≡ n
all_taken text p n (inl six) le spells = let f = front p n text le spells in omega (arith, six, le, f.size)
all_taken text p n (inr whole) le spells = let f = front p n text le spells in whole.1 ∙ sym f.size

whole_is : (text : List ℕ) (p : Pdu) (n : ℕ) → length text ≡ n → Spells p (take n text) → Spells p text
whole_is text p n same spells = subst (λ (t : List ℕ). Spells p t) (take_all n text (omega (arith, same))) spells

six_of : (text : List ℕ) (f : PduFault) → Ends text → HasHeaderFault f text → length text ≡ 6
six_of text f (inl six) has = six
six_of text f (inr whole) has = absurd (let e : None ≡ Some f = sym whole.0.1 ∙ has.1 in cc)

size_is : (text : List ℕ) → Ends text → HasBadBody text → length text ≡ size_of text + 6
size_is text (inl six) bad = omega (arith, six, bad.1)
size_is text (inr whole) bad = whole.1

pub finds : (text : List ℕ) (step : Result Step PduFault) (piece : Option Piece) → Ends text
    → IfDone step (λ p n. (n ≤ length text) × Spells p (take n text)) → IfDone step (λ p n. IsPdu p)
    → (step ≡ Ok Need → IsUnfinished text)
    → (IsErr step UnknownType → HasHeaderFault UnknownType text)
    → (IsErr step BadLength → HasHeaderFault BadLength text)
    → (IsErr step BadItem → HasBadBody text) → (IsErr step TooLong → HasHeaderFault TooLong text)
    → IsPieceIn step (length text) piece → Finds text piece
finds text (Ok Need) piece ends done lawful need u l i t is =
    subst (λ (o : Option Piece). Finds text o) (sym is) (need refl)
finds text (Ok (Done p n)) piece ends done lawful need u l i t is =
    let same = all_taken text p n ends done.0 done.1 in
    subst (λ (o : Option Piece). Finds text o) (sym is) ((whole_is text p n same done.1, same), lawful)
finds text (Err UnknownType) piece ends done lawful need u l i t is =
    subst (λ (o : Option Piece). Finds text o) (sym is) (((u refl, six_of text UnknownType ends (u refl)), refl), tt)
finds text (Err BadLength) piece ends done lawful need u l i t is =
    subst (λ (o : Option Piece). Finds text o) (sym is) (((l refl, six_of text BadLength ends (l refl)), refl), tt)
finds text (Err BadItem) piece ends done lawful need u l i t is =
    subst (λ (o : Option Piece). Finds text o) (sym is) (((i refl, size_is text ends (i refl)), refl), tt)
finds text (Err TooLong) piece ends done lawful need u l i t is =
    subst (λ (o : Option Piece). Finds text o) (sym is) (((t refl, six_of text TooLong ends (t refl)), refl), tt)
finds text (Err Memory) piece ends done lawful need u l i t is = absurd is

-- the piece, in what a call answers
pub if_ok : {E : Type 0} (r : Result (Option Piece) E) (A B : Option Piece → Type 0)
    → ((piece : Option Piece) → A piece → B piece) → IfOk r A → IfOk r B
if_ok (Ok piece) A B to p = to piece p
if_ok (Err e) A B to p = tt
