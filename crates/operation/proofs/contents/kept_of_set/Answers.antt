use Rattle.std.proofs.Common.{◌≡◌, List, true, false, sym, subst}
use Rattle.std.proofs.lemmas.Result.{err_from_is_err_and}
use Rattle.data_set.specs.Lengths.{FitsTrees}
use Rattle.data_set.specs.Tree.{Tree, trees_of}
use Rattle.data_set.proofs.Fitting.{set_fits}
use Rattle.operation.specs.Contents.{has_uids, names_itself}
use Rattle.operation.proofs.ContentLaws.{without_uids, of_other_names, of_its_names, of_a_note, kept_is_outcome}
use Rattle.operation.proofs.contents.kept_of_set.Goals as goal

-- The test of its UIDs failed: NoUid offends.
pub returns-then-not-has_all_uids : goal.returns-then-not-has_all_uids
returns-then-not-has_all_uids c =
    let draft = c.args.draft.now in
    let elements = c.args.set.now.elements in
    let uids : has_uids draft.class draft.instance elements ≡ false =
    sym (rw c.elements-elements.ensures.elements at c.if-not-has_all_uids.ensures)
    in (c.requires.short, (elements, c.requires.spelled, without_uids draft elements uids))

-- The UIDs are there, and it names another class or instance: Mismatch offends.
pub returns-then-not-is_named_so : goal.returns-then-not-is_named_so
returns-then-not-is_named_so c =
    let draft = c.args.draft.now in
    let elements = c.args.set.now.elements in
    let uids : has_uids draft.class draft.instance elements ≡ true =
    sym (rw c.elements-elements.ensures.elements at c.if-not-has_all_uids.ensures)
    in
    let names : names_itself draft.class draft.instance elements ≡ false =
    sym (rw c.elements-elements.ensures.elements at c.if-not-is_named_so.ensures)
    in (c.requires.short, (elements, c.requires.spelled, of_other_names draft elements uids names))

-- All tests before the note's were passed, so the fault of the note offends.
pub returns-in_err-note : goal.returns-in_err-note
returns-in_err-note c =
    let draft = c.args.draft.now in
    let elements = c.args.set.now.elements in
    let uids : has_uids draft.class draft.instance elements ≡ true =
    sym (rw c.elements-elements.ensures.elements at c.if-not-has_all_uids.ensures)
    in
    let names : names_itself draft.class draft.instance elements ≡ true =
    sym (rw c.elements-elements.ensures.elements at c.if-not-is_named_so.ensures)
    in
    let p = err_from_is_err_and c.from_residual.result c.from_residual.ensures.1 in
    rw (p.1, p.2) (of_a_note draft elements c.in_err-note.field-0.0 c.requires.short c.requires.spelled
    (of_its_names draft elements uids names) (rw c.as_slice.ensures at c.in_err-note.ensures))

-- What was read has lengths that their headers spell.
pub key_values-requires : goal.key_values-requires
key_values-requires c = subst (λ (ts : List Tree). FitsTrees (trees_of ts)) (sym c.elements-elements.ensures.elements)
    (set_fits c.args.set.now.syntax c.args.set.now.elements c.elements-elements.ensures.set)

-- Every test was passed, so the outcome is a content that keeps this.
pub returns : goal.returns
returns c =
    kept_is_outcome c.args.draft.now c.args.set.now.elements c.elements-elements.result.now c.in_ok-values.values
    c.in_ok-note.note c.requires.short c.requires.spelled c.elements-elements.ensures.elements
    c.if-not-has_all_uids.ensures c.if-not-is_named_so.ensures (rw c.as_slice.ensures at c.in_ok-note.ensures)
    c.in_ok-values.ensures
