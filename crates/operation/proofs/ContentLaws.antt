-- A draft has one outcome.
use Rattle.std.proofs.Common.{◌≡◌, ℕ, ◌<◌, List, length, Bool, true, false, Option, Some, None, Result, Ok}
use Rattle.std.proofs.Common.{Err, refl, sym, ap, subst, ◌∙◌, ◌⊎◌, inl, inr, arith}
use Rattle.std.specs.Prelude.{not, if◌then◌else◌}
use Rattle.std.specs.Coded.{Coded-set}
use Rattle.std.proofs.Math.Logic.{∥∥₁_elim}
use Rattle.std.proofs.lemmas.Option.{same_Some, none-some}
use Rattle.octets.specs.Gives.{Tells, Told, Gives}
use Rattle.octets.proofs.ByteLaws.{tells_map}
use Rattle.data_set.specs.Tree.{Tree}
use Rattle.data_set.specs.Texts.{Spells}
use Rattle.data_set.proofs.Sets.{spelled_once}
use Rattle.rejection_note.specs.declared.note.Note.{Note}
use Rattle.rejection_note.specs.declared.fault.NoteFault.{NoteFault}
use Rattle.rejection_note.specs.declared.fault.NoteFault.TheVariants.{NoTitle, NoReference, Memory as note_memory}
use Rattle.rejection_note.specs.Notes.{note_in}
use Rattle.operation.specs.declared.draft.Draft.{Draft}
use Rattle.operation.specs.declared.fault.OpFault.{OpFault}
use Rattle.operation.specs.declared.fault.OpFault.TheVariants.{NoUid, Mismatch, BadSet, BadNote, BadCorrection, TooLong}
use Rattle.operation.specs.declared.fault.OpFault.TheVariants.{UnknownKind, Memory, Shape}
use Rattle.operation.specs.Code.{content_code, text_code}
use Rattle.operation.specs.Fault.{is_memory, fault_of_note}
use Rattle.operation.specs.Drafts.{digest_of_draft}
use Rattle.operation.specs.Parts.{ContentParts, KeptParts, own_value, with_body}
use Rattle.operation.specs.Contents.{offence, has_uids, names_itself, note_offence, Describes, IsContent, IsRefused}
use Rattle.operation.specs.Contents.{IsShort, IsOutcome, SpellsNothing, Offends, values_in, draft_of, kept_of, longest, parts_of}
use Rattle.dictionary.specs.declared.elements.TheConstants.{SOP_INSTANCE_UID}
use Rattle.operation.proofs.Bounds.{passed}
use Rattle.operation.proofs.KeyValueLaws.{kept_names}

-- ---- what offends

pub without_uids : (draft : Draft) (elements : List Tree) → has_uids draft.class draft.instance elements ≡ false
    → offence draft elements ≡ Some NoUid
unfolding offence
without_uids draft elements e = ap (λ (b : Bool). if not b then Some NoUid else if not (names_itself draft.class
    draft.instance elements) then Some Mismatch else note_offence (note_in draft.class elements)) e

pub behind_uids : (draft : Draft) (elements : List Tree) → has_uids draft.class draft.instance elements ≡ true
    → offence draft elements ≡ (if not (names_itself draft.class draft.instance elements) then Some Mismatch
    else note_offence (note_in draft.class elements))
unfolding offence
behind_uids draft elements e = ap (λ (b : Bool). if not b then Some NoUid else if not (names_itself draft.class
    draft.instance elements) then Some Mismatch else note_offence (note_in draft.class elements)) e

pub of_other_names : (draft : Draft) (elements : List Tree) → has_uids draft.class draft.instance elements ≡ true
    → names_itself draft.class draft.instance elements ≡ false → offence draft elements ≡ Some Mismatch
of_other_names draft elements u n =
    behind_uids draft elements u ∙ ap (λ (b : Bool). if not b then Some Mismatch else note_offence
    (note_in draft.class elements)) n

pub of_its_names : (draft : Draft) (elements : List Tree) → has_uids draft.class draft.instance elements ≡ true
    → names_itself draft.class draft.instance elements ≡ true → offence draft elements ≡ note_offence
    (note_in draft.class elements)
of_its_names draft elements u n =
    behind_uids draft elements u ∙ ap (λ (b : Bool). if not b then Some Mismatch else note_offence
    (note_in draft.class elements)) n

-- a note's fault offends, unless memory ran out
pub of_a_note : (draft : Draft) (elements : List Tree) (f : NoteFault) → IsShort draft → Spells draft.syntax draft.body
    elements → offence draft elements ≡ note_offence (note_in draft.class elements)
    → Told Rattle.rejection_note.specs.Fault.is_memory f (λ g. note_in draft.class elements ≡ Err g)
    → Told is_memory (fault_of_note f) (IsRefused draft)
of_a_note draft elements NoTitle short spelled e told = (short, (elements, spelled, e ∙ ap note_offence told))
of_a_note draft elements NoReference short spelled e told = (short, (elements, spelled, e ∙ ap note_offence told))
of_a_note draft elements note_memory short spelled e told = tt

-- what passed each test is a content
pub made : (c : ContentParts) (elements : List Tree) → c.digest ≡ digest_of_draft (draft_of c)
    → IsShort (draft_of c) → Spells c.syntax c.body elements
    → has_uids c.class c.instance elements ≡ true → names_itself c.class c.instance elements ≡ true
    → note_in c.class elements ≡ Ok c.note → c.values ≡ values_in elements → IsContent c
made c elements digest short spelled uids names said values =
    ∣ (
      elements,
      record {
        digest = digest;
        short = short;
        spelled = spelled;
        faultless = of_its_names (draft_of c) elements uids names
            ∙ ap note_offence said;
        values = values;
        note = said;
      },
    ) ∣₁

-- What is kept of a draft whose elements, as they were seen, passed each test is its outcome.
pub kept_is_outcome : (draft : Draft) (elements seen : List Tree) (values : List (ℕ × List ℕ)) (note : Option Note)
    → IsShort draft → Spells draft.syntax draft.body elements → seen ≡ elements
    → true ≡ has_uids draft.class draft.instance seen → true ≡ names_itself draft.class draft.instance seen
    → note_in draft.class elements ≡ Ok note → values ≡ values_in seen
    → IsOutcome draft (Ok (kept_of draft values note))
kept_is_outcome draft elements seen values note short spelled same uids names said is =
    let here : values ≡ values_in elements = is ∙ ap values_in same in
    let uids : has_uids draft.class draft.instance elements ≡ true =
    sym (uids ∙ ap (has_uids draft.class draft.instance) same)
    in
    let names : names_itself draft.class draft.instance elements ≡ true =
    sym (names ∙ ap (names_itself draft.class draft.instance) same)
    in
    let own = kept_names draft.class draft.instance elements values here names in
    let given : KeptParts = record {
      class = draft.class;
      instance = draft.instance;
      syntax = draft.syntax;
      size = length draft.body;
      values = values;
      note = note;
    } in
    let parts : given ≡ parts_of draft values note =
    λ i. record {
      class = sym own.0 i;
      instance = sym own.1 i;
      syntax = draft.syntax;
      size = length draft.body;
      values = values;
      note = note;
    } in
    let are : with_body given draft.body ≡ kept_of draft values note =
    ap (λ (k : KeptParts). with_body k draft.body) parts
    in (
      ap draft_of (sym are),
      subst IsContent are (made (with_body given draft.body) elements refl short spelled uids names said here),
    )

-- ---- what each content keeps true

names_described : (c : ContentParts) (elements : List Tree) → Describes elements c
    → names_itself c.class c.instance elements ≡ true
unfolding offence
names_described c elements d = (passed (has_uids c.class c.instance elements) (names_itself c.class c.instance elements)
    (note_offence (note_in c.class elements)) d.faultless).1

-- a content's SOP Instance UID is its value of that element
pub own_instance : (c : ContentParts) → IsContent c → own_value c SOP_INSTANCE_UID ≡ c.instance
own_instance c is = ∥∥₁_elim is (Coded-set text_code (own_value c SOP_INSTANCE_UID) c.instance)
    (λ d. (kept_names c.class c.instance d.0 c.values d.1.values (names_described c d.0 d.1)).1)

-- ---- one outcome

-- the three ways of a refusal
abbrev Ways : Draft → OpFault → Type 0
Ways draft f = ((f ≡ TooLong) × (longest < length draft.body)) ⊎ (((f ≡ BadSet) × IsShort draft × SpellsNothing draft)
    ⊎ (IsShort draft × Offends draft f))

ways : (draft : Draft) (f : OpFault) → IsRefused draft f → Ways draft f
ways draft TooLong r = inl (refl, r)
ways draft BadSet r = inr (inl (refl, r.0, r.1))
ways draft NoUid r = inr (inr r)
ways draft Mismatch r = inr (inr r)
ways draft BadNote r = inr (inr r)
ways draft BadCorrection r = inr (inr r)
ways draft UnknownKind r = inr (inr r)
ways draft Memory r = inr (inr r)
ways draft Shape r = inr (inr r)

some_is : (f g : OpFault) (o : Option OpFault) → o ≡ Some f → o ≡ Some g → f ≡ g
some_is f g o a b = same_Some f g (sym a ∙ b)

one_offence : (draft : Draft) (f g : OpFault) → Offends draft f → Offends draft g → f ≡ g
one_offence draft f g a b =
    some_is f g (offence draft b.0) (subst (λ (es : List Tree). offence draft es ≡ Some f)
    (spelled_once draft.syntax draft.body a.0 b.0 a.1 b.1) a.2) b.2

pub one_refusal : (draft : Draft) (f g : OpFault) → IsRefused draft f → IsRefused draft g → f ≡ g
one_refusal draft f g a b = both (ways draft f a) (ways draft g b)
  where
    both : Ways draft f → Ways draft g → f ≡ g
    both (inl x) (inl y) = x.0 ∙ sym y.0
    both (inl x) (inr (inl y)) = absurd (omega (arith, x.1, y.1))
    both (inl x) (inr (inr y)) = absurd (omega (arith, x.1, y.0))
    both (inr (inl x)) (inl y) = absurd (omega (arith, x.1, y.1))
    both (inr (inl x)) (inr (inl y)) = x.0 ∙ sym y.0
    both (inr (inl x)) (inr (inr y)) = absurd (x.2 y.1.0 y.1.1)
    both (inr (inr x)) (inl y) = absurd (omega (arith, x.0, y.1))
    both (inr (inr x)) (inr (inl y)) = absurd (y.2 x.1.0 x.1.1)
    both (inr (inr x)) (inr (inr y)) = one_offence draft f g x.1 y.1

none_is : (f : OpFault) (o : Option OpFault) → o ≡ Some f → o ≡ None → ⊥
none_is f o a b = none-some f (sym b ∙ a)

described_or_refused : (c : ContentParts) (elements : List Tree) (f : OpFault) → Describes elements c
    → Ways (draft_of c) f → ⊥
described_or_refused c elements f d (inl x) = omega (arith, d.short, x.1)
described_or_refused c elements f d (inr (inl x)) = x.2 elements d.spelled
described_or_refused c elements f d (inr (inr x)) =
    none_is f (offence (draft_of c) elements) (subst (λ (es : List Tree). offence (draft_of c) es ≡ Some f)
    (spelled_once c.syntax c.body x.1.0 elements x.1.1 d.spelled) x.1.2) d.faultless

pub content_or_refused : (c : ContentParts) (f : OpFault) → IsContent c → IsRefused (draft_of c) f → ⊥
content_or_refused c f is refused = ∥∥₁_elim is (λ (x y : ⊥). absurd x)
    (λ d. described_or_refused c d.0 f d.1 (ways (draft_of c) f refused))

note_is : (a b : Option Note) (r : Result (Option Note) NoteFault) → r ≡ Ok a → r ≡ Ok b → a ≡ b
note_is a b r p q = same a b (sym p ∙ q)
  where
    ok : Option Note → Result (Option Note) NoteFault
    ok n = Ok n

    same : (a b : Option Note) → ok a ≡ ok b → a ≡ b
    same a b e = cc

-- equal drafts are of equal contents
described_once : (a b : ContentParts) (es us : List Tree) → Describes es a → Describes us b → draft_of a ≡ draft_of b
    → a ≡ b
described_once a b es us p q e =
    let same : es ≡ us = spelled_once b.syntax b.body es us (subst (λ (d : Draft). Spells d.syntax d.body es) e
    p.spelled) q.spelled in
    let values : a.values ≡ b.values = p.values ∙ ap values_in same ∙ sym q.values in
    let class : a.class ≡ b.class = ap (λ (d : Draft). d.class) e in
    let read : note_in a.class es ≡ note_in b.class us = ap (λ (x : List ℕ). note_in x es) class
    ∙ ap (λ (x : List Tree). note_in b.class x) same in
    let said : a.note ≡ b.note = note_is a.note b.note (note_in b.class us) (sym read ∙ p.note) q.note in
    let instance : a.instance ≡ b.instance = ap (λ (d : Draft). d.instance) e in
    let syntax : a.syntax ≡ b.syntax = ap (λ (d : Draft). d.syntax) e in
    let body : a.body ≡ b.body = ap (λ (d : Draft). d.body) e in
    let digest : a.digest ≡ b.digest = p.digest ∙ ap digest_of_draft e ∙ sym q.digest in
    λ i. record {
      digest = digest i;
      class = class i;
      instance = instance i;
      syntax = syntax i;
      body = body i;
      values = values i;
      note =
          said i;
    }

pub one_content : (a b : ContentParts) → IsContent a → IsContent b → draft_of a ≡ draft_of b → a ≡ b
one_content a b is is' e =
    ∥∥₁_elim is (Coded-set content_code a b) (λ d. ∥∥₁_elim is' (Coded-set content_code a b)
    (λ d'. described_once a b d.0 d'.0 d.1 d'.1 e))

pub outcome_once : (draft : Draft) (r s : Result ContentParts OpFault) → IsOutcome draft r → IsOutcome draft s → r ≡ s
outcome_once draft (Ok a) (Ok b) p q = ap (λ (c : ContentParts). Ok c) (one_content a b p.1 q.1 (p.0 ∙ sym q.0))
outcome_once draft (Ok a) (Err g) p q = absurd (content_or_refused a g p.1 (subst (λ (d : Draft). IsRefused d g)
    (sym p.0) q))
outcome_once draft (Err f) (Ok b) p q = absurd (content_or_refused b f q.1 (subst (λ (d : Draft). IsRefused d f)
    (sym q.0) p))
outcome_once draft (Err f) (Err g) p q = ap (λ (e : OpFault). Err e) (one_refusal draft f g p q)

-- whatever the outcome is, it is told, unless memory ran out
pub only_outcome : (draft : Draft) (given s : Result ContentParts OpFault) → Tells is_memory (λ c. c)
    given (IsOutcome draft) → IsOutcome draft s → Gives is_memory (λ c. c) given s
only_outcome draft given s told is = tells_map is_memory (λ c. c) given (IsOutcome draft) (λ r. s ≡ r)
    (λ r p. outcome_once draft s r is p) told
