use Rattle.std.proofs.Common.{◌≡◌, ◌<◌, ℕ, List, ◌∙◌, sym, arith, take, length}
use Rattle.std.proofs.lemmas.List.{take_all, length-take-le}
use Rattle.study_index.proofs.short_text.ShortText.cut.Goals as goal

cut_length : (text : List ℕ) → 64 < length text → length (take 64 text) ≡ 64
cut_length text longer = length-take-le 64 text (omega (arith, longer))

-- The first 64 bytes are 64.
pub slice_bounds-whole-end : goal.slice_bounds-whole-end
slice_bounds-whole-end c = sym (cut_length c.args.text.now c.if-text-gt-LONGEST.true)

-- The first 64 bytes of a longer text are no more than 64.
pub whole-requires : goal.whole-requires
whole-requires c = let is = cut_length c.args.text.now c.if-text-gt-LONGEST.true in omega (arith, is)

-- A text of no more than 64 bytes is all of its first 64.
pub returns : goal.returns
returns c = c.whole-2.ensures ∙ sym (take_all _ _ c.if-text-gt-LONGEST.false)
