use Rattle.std.proofs.Common.{◌≡◌, ◌++◌, ◌∙◌, ℕ, List, ap, take, length}
use Rattle.std.proofs.Math.Seq.{take-append_seam}
use Rattle.study_index.proofs.short_text.filled.Goals as goal

front : (xs ys text : List ℕ) → xs ≡ text → take (length text) (xs ++ ys) ≡ text
front xs ys text e = ap (λ zs. take (length text) (zs ++ ys)) e ∙ take-append_seam text ys

-- The text stands in front of what is left of the zeros.
pub returns : goal.returns
returns c = front _ _ _ c.copy_from_slice.ensures.after
