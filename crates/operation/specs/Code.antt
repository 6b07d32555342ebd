-- Operations as nested pairs, by which proofs tell them apart.
use Rattle.std.specs.Prelude.{◌≡◌, ℕ, List, Bool, true, false, refl, ◌⊎◌, Option}
use Rattle.std.proofs.Common.{inl, inr}
use Rattle.std.specs.Coded.{Coded, code_by, coded×, coded_ℕ, coded_list, coded_bool, coded_option, coded⊎}
use Rattle.data_set.specs.declared.syntax.Syntax.{Syntax}
use Rattle.data_set.specs.declared.syntax.Syntax.TheVariants.{Implicit, Explicit}
use Rattle.rejection_note.specs.declared.note.Note.{Note}
use Rattle.rejection_note.specs.declared.title.NoteTitle.{NoteTitle}
use Rattle.rejection_note.specs.declared.title.NoteTitle.TheVariants.{Quality, Safety, Worklist, Expired}
use Rattle.operation.specs.declared.target.Target.{Target}
use Rattle.operation.specs.declared.target.Target.TheVariants.{Study, Patient, Series}
use Rattle.operation.specs.Parts.{ContentParts, CorrectionParts}

abbrev pub text_code : Coded (List ℕ)
text_code = coded_list coded_ℕ

abbrev pub syntax_to : Syntax → Bool
syntax_to Implicit = true
syntax_to Explicit = false

abbrev pub syntax_from : Bool → Syntax
syntax_from true = Implicit
syntax_from false = Explicit

abbrev pub syntax_back : (s : Syntax) → syntax_from (syntax_to s) ≡ s
syntax_back Implicit = refl
syntax_back Explicit = refl

abbrev pub syntax_code : Coded Syntax
syntax_code = code_by Bool coded_bool syntax_to syntax_from syntax_back

abbrev pub title_to : NoteTitle → Bool × Bool
title_to Quality = (true, true)
title_to Safety = (true, false)
title_to Worklist = (false, true)
title_to Expired = (false, false)

abbrev pub title_from : Bool → Bool → NoteTitle
title_from true true = Quality
title_from true false = Safety
title_from false true = Worklist
title_from false false = Expired

abbrev pub title_back : (t : NoteTitle) → title_from (title_to t).0 (title_to t).1 ≡ t
title_back Quality = refl
title_back Safety = refl
title_back Worklist = refl
title_back Expired = refl

abbrev pub title_code : Coded NoteTitle
title_code = code_by (Bool × Bool) (coded× coded_bool coded_bool) title_to (λ p. title_from p.0 p.1) title_back

abbrev pub note_code : Coded Note
note_code = code_by (NoteTitle × List (List ℕ)) (coded× title_code (coded_list text_code)) (λ n. (n.title, n.covers))
    (λ p. record { title = p.0; covers = p.1 }) (λ _. refl)

abbrev pub content_code : Coded ContentParts
content_code =
    code_by (List ℕ × (List ℕ × (List ℕ × (Syntax × (List ℕ × (List (ℕ × List ℕ) × Option Note))))))
    (coded× text_code (coded× text_code (coded× text_code (coded× syntax_code
    (coded× text_code (coded× (coded_list (coded× coded_ℕ text_code)) (coded_option note_code)))))))
    (λ c. (c.digest, (c.class, (c.instance, (c.syntax, (c.body, (c.values, c.note)))))))
    (λ p. record {
      digest = p.0;
      class = p.1.0;
      instance = p.1.1.0;
      syntax = p.1.1.1.0;
      body = p.1.1.1.1.0;
      values = p.1.1.1.1.1.0;
      note = p.1.1.1.1.1.1;
    })
    (λ _. refl)

abbrev pub target_to : Target → List ℕ ⊎ (List ℕ ⊎ List ℕ)
target_to (Study k) = inl k
target_to (Patient k) = inr (inl k)
target_to (Series k) = inr (inr k)

abbrev pub target_from : List ℕ ⊎ (List ℕ ⊎ List ℕ) → Target
target_from (inl k) = Study k
target_from (inr (inl k)) = Patient k
target_from (inr (inr k)) = Series k

abbrev pub target_back : (t : Target) → target_from (target_to t) ≡ t
target_back (Study k) = refl
target_back (Patient k) = refl
target_back (Series k) = refl

abbrev pub target_code : Coded Target
target_code =
    code_by (List ℕ ⊎ (List ℕ ⊎ List ℕ)) (coded⊎ text_code (coded⊎ text_code text_code)) target_to target_from
    target_back

abbrev pub correction_code : Coded CorrectionParts
correction_code =
    code_by (Target × (ℕ × (List ℕ × (ℕ × ℕ))))
    (coded× target_code (coded× coded_ℕ (coded× text_code (coded× coded_ℕ coded_ℕ))))
    (λ k. (k.target, (k.tag, (k.value, (k.stamp.counter, k.stamp.site)))))
    (λ p. record {
      target = p.0;
      tag = p.1.0;
      value = p.1.1.0;
      stamp = record { counter = p.1.1.1.0; site = p.1.1.1.1 };
    })
    (λ _. refl)
