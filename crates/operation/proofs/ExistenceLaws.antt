-- Every text of bytes comes to an outcome: it spells an operation, or has a fault.
use Rattle.std.proofs.Common.{inl, inr, ◌≡◌, ◌⊎◌, ℕ, zero, suc, ◌<◌, ◌≤◌, Bool, true, false, List, [], ◌∷◌, ◌++◌}
use Rattle.std.proofs.Common.{length, Option, Result, Ok, Err, refl, sym, ap, subst, ◌∙◌, arith}
use Rattle.std.specs.Prelude.{nat_le}
use Rattle.std.specs.Int.{w32, to_be_bytes}
use Rattle.std.proofs.lemmas.Bool.Decides.{nat_tests}
use Rattle.octets.specs.Bytes.{IsBytes}
use Rattle.octets.proofs.ByteLaws.{IsBytes-tail, bind_ok, guard_end}
use Rattle.data_set.specs.declared.fault.SetFault.{SetFault}
use Rattle.data_set.specs.Tree.{Tree}
use Rattle.data_set.specs.Texts.{Spells, HasFault as set_has_fault}
use Rattle.data_set.proofs.HeaderLaws.{rest_bytes}
use Rattle.data_set.proofs.Outcomes.{has_outcome as set_outcome}
use Rattle.data_set.proofs.Sets.{fault_or_spelled}
use Rattle.rejection_note.specs.declared.note.Note.{Note}
use Rattle.rejection_note.specs.declared.fault.NoteFault.{NoteFault}
use Rattle.rejection_note.specs.Notes.{note_in}
use Rattle.operation.specs.declared.draft.Draft.{Draft}
use Rattle.operation.specs.declared.fault.OpFault.{OpFault}
use Rattle.operation.specs.declared.fault.OpFault.TheVariants.{NoUid, Mismatch, BadSet, BadNote, BadCorrection, TooLong}
use Rattle.operation.specs.declared.fault.OpFault.TheVariants.{UnknownKind, Shape}
use Rattle.operation.specs.declared.op.Op.{Op}
use Rattle.operation.specs.declared.op.Op.TheVariants.{Content as a_content, Correction as a_correction}
use Rattle.operation.specs.Drafts.{digest_of_draft}
use Rattle.operation.specs.Parts.{ContentParts, CorrectionParts}
use Rattle.operation.specs.Contents.{IsContent, IsRefused, IsShort, draft_of, has_uids, longest, names_itself}
use Rattle.operation.specs.Contents.{note_offence, values_in}
use Rattle.operation.specs.Corrections.{IsCorrection, checked, is_correction}
use Rattle.operation.specs.Reading.{HasFault, IsFaultOf, IsOp, correction_at, draft_at, parts_at}
use Rattle.operation.specs.Spelling.{correction_text, draft_text, short_text, spelling, syntax_byte}
use Rattle.operation.proofs.ContentLaws.{made, of_its_names, of_other_names, without_uids}
use Rattle.operation.proofs.ReadingLaws.{draft_takes, parts_takes}

-- ---- a draft is a content or is refused

abbrev Judged : Draft → Type 0
Judged d = ((c : ContentParts) × (draft_of c ≡ d) × IsContent c) ⊎ ((f : OpFault) × IsRefused d f)

by_note : (d : Draft) (elements : List Tree) → IsShort d → Spells d.syntax d.body elements
    → has_uids d.class d.instance elements ≡ true → names_itself d.class d.instance elements ≡ true
    → (r : Result (Option Note) NoteFault) → note_in d.class elements ≡ r → Judged d
by_note d elements short spelled uids names (Ok note) said =
    let c : ContentParts =
    record {
      digest = digest_of_draft d;
      class = d.class;
      instance = d.instance;
      syntax = d.syntax;
      body = d.body;
      values = values_in elements;
      note = note;
    }
    in
    inl (c, refl, made c elements refl short spelled uids names said refl)
by_note d elements short spelled uids names (Err f) said =
    inr (BadNote, (short, (elements, spelled, of_its_names d elements uids names ∙ ap note_offence said)))

by_names : (d : Draft) (elements : List Tree) → IsShort d → Spells d.syntax d.body elements
    → has_uids d.class d.instance elements ≡ true → (b : Bool) → names_itself d.class d.instance elements ≡ b → Judged d
by_names d elements short spelled uids true names =
    by_note d elements short spelled uids names (note_in d.class elements) refl
by_names d elements short spelled uids false names =
    inr (Mismatch, (short, (elements, spelled, of_other_names d elements uids names)))

by_uids : (d : Draft) (elements : List Tree) → IsShort d → Spells d.syntax d.body elements → (b : Bool)
    → has_uids d.class d.instance elements ≡ b → Judged d
by_uids d elements short spelled true uids =
    by_names d elements short spelled uids (names_itself d.class d.instance elements) refl
by_uids d elements short spelled false uids =
    inr (NoUid, (short, (elements, spelled, without_uids d elements uids)))

by_set : (d : Draft) → IsShort d
    → ((ts : List Tree) × Spells d.syntax d.body ts) ⊎ ((f : SetFault) × set_has_fault d.syntax d.body f) → Judged d
by_set d short (inl (ts, spelled)) = by_uids d ts short spelled (has_uids d.class d.instance ts) refl
by_set d short (inr (f, has)) = inr (BadSet, (short, λ ts spelled. fault_or_spelled d.syntax d.body ts f spelled has))

at_most : (a b : ℕ) → nat_le a b ≡ true → a ≤ b
at_most a b e = grind (arith, nat_tests)

more_than : (a b : ℕ) → nat_le a b ≡ false → b < a
more_than a b e = grind (arith, nat_tests)

by_length : (d : Draft) → IsBytes d.body → (b : Bool) → nat_le (length d.body) longest ≡ b → Judged d
by_length d fits true e = by_set d (at_most (length d.body) longest e) (set_outcome d.syntax d.body fits)
by_length d fits false e = inr (TooLong, more_than (length d.body) longest e)

-- ---- a text spells an operation or has a fault

abbrev Comes : List ℕ → Type 0
Comes text = ((op : Op) × IsOp op × (text ≡ spelling op)) ⊎ ((f : OpFault) × HasFault text f)

-- the data set of a draft is bytes where its spelling is
body_bytes : (d : Draft) (text : List ℕ) → IsBytes text → text ≡ draft_text d → IsBytes d.body
body_bytes d text fits spelled =
    let size = to_be_bytes w32 (length d.body) in
    let whole : IsBytes (draft_text d) = subst IsBytes spelled fits in
    let behind_class = rest_bytes (short_text d.class) (short_text d.instance ++
    (syntax_byte d.syntax ∷ (size ++ d.body))) whole in
    let behind_instance = rest_bytes (short_text d.instance) (syntax_byte d.syntax ∷ (size ++ d.body)) behind_class in
    rest_bytes size d.body (IsBytes-tail (syntax_byte d.syntax) (size ++ d.body) behind_instance)

of_judged : (text : List ℕ) (d : Draft) → draft_at text ≡ Ok d → text ≡ draft_text d → Judged d → Comes (1 ∷ text)
unfolding spelling
of_judged text d read spelled (inl (c, same, is)) =
    inl (a_content c, is, ap (λ (t : List ℕ). 1 ∷ t) (spelled ∙ ap draft_text (sym same)))
of_judged text d read spelled (inr (f, refused)) =
    inr (f, subst (λ (r : Result Draft OpFault). IsFaultOf r f) (sym read) refused)

of_draft : (text : List ℕ) → IsBytes text → (r : Result Draft OpFault) → draft_at text ≡ r → Comes (1 ∷ text)
of_draft text fits (Ok d) read =
    let spelled : text ≡ draft_text d = draft_takes text d fits read in
    of_judged text d read spelled (by_length d (body_bytes d text fits spelled) (nat_le (length d.body) longest) refl)
of_draft text fits (Err f) read = inr (f, subst (λ (r : Result Draft OpFault). IsFaultOf r f) (sym read) refl)

corrected : (text : List ℕ) (k : CorrectionParts) → IsBytes text → correction_at text ≡ Ok k
    → IsCorrection k × (text ≡ spelling (a_correction k))
unfolding correction_at spelling
corrected text k fits e =
    let p = bind_ok (parts_at text) checked k e in
    let t = parts_takes text p.0 fits p.1 in
    let g = guard_end (is_correction p.0) BadCorrection p.0 k p.2 in
    subst (λ (x : CorrectionParts). IsCorrection x × (text ≡ correction_text x)) g.1
    (record { lawful = g.0; counter = t.1; site = t.2 }, t.0)

of_second : (text : List ℕ) → IsBytes (2 ∷ text) → (r : Result CorrectionParts OpFault) → correction_at (2 ∷ text) ≡ r
    → Comes (2 ∷ text)
of_second text fits (Ok k) e = let c = corrected (2 ∷ text) k fits e in inl (a_correction k, c.0, c.1)
of_second text fits (Err f) e = inr (f, e)

of_third : (text : List ℕ) → IsBytes (3 ∷ text) → (r : Result CorrectionParts OpFault) → correction_at (3 ∷ text) ≡ r
    → Comes (3 ∷ text)
of_third text fits (Ok k) e = let c = corrected (3 ∷ text) k fits e in inl (a_correction k, c.0, c.1)
of_third text fits (Err f) e = inr (f, e)

pub has_outcome : (text : List ℕ) → IsBytes text
    → ((op : Op) × IsOp op × (text ≡ spelling op)) ⊎ ((f : OpFault) × HasFault text f)
has_outcome [] fits = inr (Shape, refl)
has_outcome (zero ∷ text) fits = inr (UnknownKind, refl)
has_outcome (suc zero ∷ text) fits = of_draft text (IsBytes-tail 1 text fits) (draft_at text) refl
has_outcome (suc (suc zero) ∷ text) fits = of_second text fits (correction_at (2 ∷ text)) refl
has_outcome (suc (suc (suc zero)) ∷ text) fits = of_third text fits (correction_at (3 ∷ text)) refl
has_outcome (suc (suc (suc (suc n))) ∷ text) fits = inr (UnknownKind, refl)
