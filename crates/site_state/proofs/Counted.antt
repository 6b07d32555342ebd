-- Counts, by how many operations are kept and how many copies their index has.
use Rattle.std.proofs.Common.{◌≡◌, ℕ, suc, ◌-◌, ◌≤◌, List, [], ◌∷◌, length, refl, ap, ◌∙◌, arith}
use Rattle.std.specs.FinMap.{from_entries}
use Rattle.std.specs.List.Sorted.{IsStrictlySortedBy}
use Rattle.std.specs.Map.{keys_of, values_of}
use Rattle.operation.specs.declared.op.Op.{Op}
use Rattle.archive_model.specs.Contents.{contents}
use Rattle.archive_model.specs.Attributes.{corrections}
use Rattle.study_index.specs.Index.{IndexValue}
use Rattle.study_index.proofs.Flagged.{contents_counted, kinds_counted}
use Rattle.site_state.specs.declared.counts.Counts.{Counts}
use Rattle.site_state.specs.Site.{Map, digest_cmp, IsSite, HasIndex, of_entries, ops_of, counts_of}
use Rattle.site_state.proofs.Maps.{tree_ops}
use Rattle.site_state.proofs.Indexed.{ops_ascend}

abbrev pub counts : ℕ → ℕ → ℕ → Counts
counts n a b = record { operations = n; contents = a; corrections = b }

as_many : (es : List (List ℕ × Op)) → length es ≡ length (values_of es)
as_many [] = refl
as_many (e ∷ es) = ap suc (as_many es)

module _ (m : Map) (es : List (List ℕ × Op)) (view : from_entries es ≡ m)
    (sorted : IsStrictlySortedBy digest_cmp (keys_of es)) (site : IsSite (of_entries es)) (index : IndexValue)
    (own : HasIndex (of_entries es) index) (n a : ℕ) (all : n ≡ length es) (copies : a ≡ length index.copies) where
  all_are : n ≡ length (ops_of m)
  all_are = all ∙ as_many es ∙ ap length (tree_ops m es view sorted)

  contents_are : a ≡ length (contents (ops_of m))
  contents_are =
      copies ∙ ap (λ (v : IndexValue). length v.copies) own
      ∙ contents_counted (ops_of (of_entries es)) (ops_ascend (of_entries es) site)
      ∙ ap (λ (k : Map). length (contents (ops_of k))) view

  -- no more are contents than there are operations
  pub within : a ≤ n
  within =
      let k = kinds_counted (ops_of m) in
      let x = all_are in
      let y = contents_are in
      omega arith

  -- the others are corrections
  pub counted : counts n a (n - a) ≡ counts_of (ops_of m)
  counted =
      let k = kinds_counted (ops_of m) in
      let x = all_are in
      let y = contents_are in
      let z : n - a ≡ length (corrections (ops_of m)) = omega arith in
      λ i. counts (x i) (y i) (z i)
