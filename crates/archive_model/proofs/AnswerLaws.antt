-- Rows whose texts lie one behind the other in buffers.
use Rattle.std.proofs.Common.{◌≡◌, ℕ, List, [], ◌∷◌, ◌++◌, length, take, drop}
use Rattle.std.proofs.Common.{arith, sym, ap, subst, ◌∙◌, append_assoc}
use Rattle.std.proofs.lemmas.List.{take-append-le, drop-append-le, length-append}
use Rattle.std.proofs.Math.Seq.{take-length, drop-length}
use Rattle.data_set.specs.declared.syntax.Syntax.{Syntax}
use Rattle.data_set.specs.declared.syntax.Syntax.TheVariants.{Explicit}
use Rattle.data_set.specs.Tree.{Tree}
use Rattle.data_set.specs.Set.{Set, from_pair}
use Rattle.data_set.specs.Texts.{Spells}
use Rattle.data_set.specs.Written.{text_of}
use Rattle.data_set.proofs.Reading.{spelled_in}
use Rattle.archive_model.specs.Answer.{set_in, IsWritten, sets_in, IsCut, sets_among, sets_of_full}

-- what a text that was written says
pub set_again : (text : List ℕ) (set : Set) → set.syntax ≡ Explicit → Spells Explicit text set.elements
    → set_in text ≡ set
set_again text set explicit spells = ap (λ (ts : List Tree). from_pair (Explicit, ts))
    (spelled_in Explicit text set.elements spells) ∙ ap (λ (s : Syntax). from_pair (s, set.elements)) (sym explicit)

pub written_again : (text : List ℕ) (ts : List Tree) → text ≡ text_of ts → Spells Explicit text ts → IsWritten text
written_again text ts exact spells =
    let same = sym (spelled_in Explicit text ts spells) in
    record { spelled = subst (Spells Explicit text) same spells; written = exact ∙ ap text_of same }

-- ---- a text behind others

-- the only text
one_cut : (t : List ℕ) → IsWritten t → IsCut (length t ∷ []) t
one_cut t written = (omega arith, (subst IsWritten (sym (take-length t)) written, drop-length t))

pub cut_behind : (ns text t : List ℕ) → IsCut ns text → IsWritten t → IsCut (ns ++ length t ∷ []) (text ++ t)
cut_behind [] text t cut written = subst (λ (s : List ℕ). IsCut (length t ∷ []) (s ++ t)) (sym cut) (one_cut t written)
cut_behind (n ∷ ns) text t cut written =
    let longer = length-append text t in (
      omega (arith, cut.0, longer),
      (
        subst IsWritten (sym (take-append-le n text t cut.0)) cut.1.0,
        subst (IsCut (ns ++ length t ∷ [])) (sym (drop-append-le n text t cut.0))
            (cut_behind ns (drop n text) t cut.1.1 written),
      ),
    )

pub sets_behind : (ns text t : List ℕ) → IsCut ns text → sets_in (ns ++ length t ∷ []) (text ++ t)
    ≡ sets_in ns text ++ set_in t ∷ []
sets_behind [] text t cut = ap (λ (s : List ℕ). sets_in (length t ∷ []) (s ++ t)) cut
    ∙ ap (λ (s : List ℕ). set_in s ∷ []) (take-length t)
sets_behind (n ∷ ns) text t cut =
    ap (λ (s : List ℕ). set_in s ∷ sets_in (ns ++ length t ∷ []) (drop n (text ++ t))) (take-append-le n text t cut.0)
    ∙ ap (λ (s : List ℕ). set_in (take n text) ∷ sets_in (ns ++ length t ∷ []) s) (drop-append-le n text t cut.0)
    ∙ ap (λ (sets : List Set). set_in (take n text) ∷ sets) (sets_behind ns (drop n text) t cut.1.1)

-- ---- several buffers

-- A row behind the last buffer's is one behind all.
pub behind_full : (full : List (List Set)) (last : List Set) (set : Set)
    → sets_of_full full (last ++ set ∷ []) ≡ sets_of_full full last ++ set ∷ []
behind_full full last set = sym (append_assoc (sets_among full) last (set ∷ []))
