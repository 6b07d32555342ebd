-- What becomes of a draft whose data set spells known elements.
use Rattle.std.proofs.Common.{◌≡◌, ℕ, List, length, Bool, true, false, cond, Option, Some, Result, Ok, Err, refl, sym}
use Rattle.std.proofs.Common.{ap, subst, ◌∙◌}
use Rattle.std.specs.Prelude.{nat_lt}
use Rattle.std.proofs.lemmas.Bool.{ltb-true, ltb-false}
use Rattle.octets.specs.Gives.{Gives}
use Rattle.data_set.specs.Tree.{Tree}
use Rattle.data_set.specs.Texts.{Spells}
use Rattle.rejection_note.specs.declared.note.Note.{Note}
use Rattle.rejection_note.specs.declared.fault.NoteFault.{NoteFault}
use Rattle.rejection_note.specs.Notes.{note_in}
use Rattle.operation.specs.declared.draft.Draft.{Draft}
use Rattle.operation.specs.declared.fault.OpFault.{OpFault}
use Rattle.operation.specs.declared.fault.OpFault.TheVariants.{NoUid, Mismatch, BadNote, TooLong}
use Rattle.operation.specs.Fault.{is_memory}
use Rattle.operation.specs.Drafts.{digest_of_draft}
use Rattle.operation.specs.Parts.{ContentParts}
use Rattle.operation.specs.Contents.{offence, has_uids, names_itself, note_offence, IsContent, IsRefused, IsShort}
use Rattle.operation.specs.Contents.{draft_of, drafted, longest, values_in}
use Rattle.operation.proofs.ContentLaws.{without_uids, of_other_names, of_its_names, made}
use Rattle.data_set.specs.declared.syntax.Syntax.TheVariants.{Implicit}
use Rattle.data_set.specs.Written.{text_of}
use Rattle.site_script.specs.Sets.{content_from, made_of, unless, said}

-- what is given of a draft: its content, and each refusal
abbrev pub Only : Draft → Result ContentParts OpFault → Type 0
Only draft r = (c : ContentParts) → IsContent c → draft_of c ≡ draft → Gives is_memory (λ content. content) r (Ok c)

abbrev pub Faulty : Draft → Result ContentParts OpFault → Type 0
Faulty draft r = (f : OpFault) → IsRefused draft f → Gives is_memory (λ content. content) r (Err f)

abbrev Is : Draft → List Tree → Result ContentParts OpFault → Option OpFault → Type 0
Is draft elements r o = Gives is_memory (λ content. content) r (unless o draft elements)

by_note : (draft : Draft) (elements : List Tree) (r : Result ContentParts OpFault) → IsShort draft → Spells draft.syntax
    draft.body elements → has_uids draft.class draft.instance elements ≡ true → names_itself draft.class draft.instance
    elements ≡ true
    → (k : Result (Option Note) NoteFault) → note_in draft.class elements ≡ k → Only draft r → Faulty draft r
    → Is draft elements r (offence draft elements)
by_note draft elements r short spelled uids names (Ok note) k only faulty =
    subst (Is draft elements r) (sym (of_its_names draft elements uids names ∙ ap note_offence k))
    (subst (λ n. Gives is_memory (λ content. content)
    r (Ok (record {
      digest = digest_of_draft draft;
      class = draft.class;
      instance = draft.instance;
      syntax = draft.syntax;
      body = draft.body;
      values = values_in elements;
      note = n;
    }))) (sym (ap said k))
    (only (record {
      digest = digest_of_draft draft;
      class = draft.class;
      instance = draft.instance;
      syntax = draft.syntax;
      body = draft.body;
      values =
          values_in elements;
      note = note;
    })
    (made _ elements refl short spelled uids names k refl) refl))
by_note draft elements r short spelled uids names (Err fault) k only faulty =
    let e : offence draft elements ≡ Some BadNote = of_its_names draft elements uids names ∙ ap note_offence k in
    subst (Is draft elements r) (sym e) (faulty BadNote (short, (elements, spelled, e)))

by_names : (draft : Draft) (elements : List Tree) (r : Result ContentParts OpFault) → IsShort draft
    → Spells draft.syntax draft.body elements → has_uids draft.class draft.instance elements ≡ true
    → (b : Bool) → names_itself draft.class draft.instance elements ≡ b → Only draft r → Faulty draft r
    → Is draft elements r (offence draft elements)
by_names draft elements r short spelled uids true names only faulty = by_note draft elements r short spelled uids
    names (note_in draft.class elements) refl only faulty
by_names draft elements r short spelled uids false names only faulty =
    let e : offence draft elements ≡ Some Mismatch = of_other_names draft elements uids names in
    subst (Is draft elements r) (sym e) (faulty Mismatch (short, (elements, spelled, e)))

by_uids : (draft : Draft) (elements : List Tree) (r : Result ContentParts OpFault) → IsShort draft → Spells draft.syntax
    draft.body elements
    → (b : Bool) → has_uids draft.class draft.instance elements ≡ b → Only draft r → Faulty draft r
    → Is draft elements r (offence draft elements)
by_uids draft elements r short spelled true uids only faulty = by_names draft elements r short spelled
    uids (names_itself draft.class draft.instance elements) refl only faulty
by_uids draft elements r short spelled false uids only faulty =
    let e : offence draft elements ≡ Some NoUid = without_uids draft elements uids in
    subst (Is draft elements r) (sym e) (faulty NoUid (short, (elements, spelled, e)))

by_length : (b : Bool) (draft : Draft) (elements : List Tree) (r : Result ContentParts OpFault)
    → nat_lt longest (length draft.body) ≡ b → Spells draft.syntax draft.body elements → Only draft r → Faulty draft r
    → Gives is_memory (λ content. content) r (cond b (Err TooLong) (unless (offence draft elements) draft elements))
by_length true draft elements r long spelled only faulty = faulty TooLong (ltb-true longest (length draft.body) long)
by_length false draft elements r long spelled only faulty = by_uids draft elements
    r (ltb-false longest (length draft.body) long) spelled (has_uids draft.class draft.instance elements) refl only
    faulty

pub content_made : (draft : Draft) (elements : List Tree) (r : Result ContentParts OpFault) → Spells draft.syntax
    draft.body elements → Only draft r → Faulty draft r → Gives is_memory (λ content. content)
    r (content_from draft elements)
content_made draft elements r spelled only faulty = by_length (nat_lt longest (length draft.body)) draft elements r refl
    spelled only faulty

-- the same, of the parts as they are handed over
pub content_given : (class instance : List ℕ) (elements : List Tree) (class_copy instance_copy body : List ℕ)
    (r : Result ContentParts OpFault) → class_copy ≡ class → instance_copy ≡ instance → body ≡ text_of elements
    → Spells Implicit body elements
    → Only (drafted class_copy instance_copy Implicit body) r → Faulty (drafted class_copy instance_copy Implicit body)
    r → Gives is_memory (λ content. content) r (made_of class instance elements)
content_given class instance elements class_copy instance_copy body r c i b spelled only faulty =
    subst (λ (k : List ℕ). Gives is_memory (λ content. content)
    r (content_from (drafted k instance Implicit (text_of elements)) elements)) c
    (subst (λ (k : List ℕ). Gives is_memory (λ content. content)
    r (content_from (drafted class_copy k Implicit (text_of elements)) elements)) i
    (subst (λ (k : List ℕ). Gives is_memory (λ content. content)
    r (content_from (drafted class_copy instance_copy Implicit k) elements)) b
    (content_made (drafted class_copy instance_copy Implicit body) elements r spelled only faulty)))
