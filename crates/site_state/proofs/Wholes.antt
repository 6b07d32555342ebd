-- What stands for the operations of a site, digest by digest and as a list.
use Rattle.std.proofs.Common.{◌≡◌, ℕ, List, [], ◌∷◌, Bool, true, false, cond, Option, Some, None, refl, sym, ap, subst}
use Rattle.std.proofs.Common.{◌∙◌, length, map}
use Rattle.std.specs.Prelude.{is_some, not}
use Rattle.std.specs.BTreeMap.{is_at}
use Rattle.std.specs.Cmp.Lexicographic.{nat_list_cmp_total}
use Rattle.std.specs.FinMap.{empty, entries, entries_sorted, get-empty, get-insert, insert}
use Rattle.std.specs.List.Sorted.{IsStrictlySortedBy}
use Rattle.std.specs.Map.{keys_of, values_of}
use Rattle.std.specs.Option.{option_map}
use Rattle.std.proofs.lemmas.List.{length-map}
use Rattle.operation.specs.declared.op.Op.{Op}
use Rattle.operation.specs.Records.{record_of}
use Rattle.archive_model.specs.Attributes.{corrections}
use Rattle.archive_model.specs.Contents.{contents}
use Rattle.archive_model.specs.RecordLaws.{KeepTheSame}
use Rattle.archive_model.proofs.Alike.{alike_length, same_contents, same_corrections, same_flagged}
use Rattle.archive_model.proofs.RowLaws.{same_rows}
use Rattle.records.specs.StandIn.{op_in}
use Rattle.records.proofs.StandInLaws.{op_has_record}
use Rattle.site_state.specs.Site.{Map, digest_cmp, of_entries, held_at, ops_of, greatest_counter, is_missing}
use Rattle.site_state.specs.Whole.{recorded, entry_in, RecordsAreKept, DigestsAreKept, RowsAreKept}
use Rattle.site_state.specs.Whole.{FlaggedAreKept, CountsAreKept, TopIsKept}
use Rattle.site_state.proofs.Maps.{same_sites, held, get_held, sorted_entries, one_more}
use Rattle.site_state.proofs.Unions.{held_entries}
use Rattle.site_state.proofs.Tops.{ascend}

-- ---- digest by digest

push : (b : Bool) (o : Op) (r : Option Op)
    → cond b (Some (op_in o)) (option_map op_in r) ≡ option_map op_in (cond b (Some o) r)
push true o r = refl
push false o r = refl

held_in : (es : List (List ℕ × Op)) (d : List ℕ) → held (map entry_in es) d ≡ option_map op_in (held es d)
held_in [] d = refl
held_in (e ∷ es) d =
    ap (cond (is_at (digest_cmp d) e.0) (Some (op_in e.1))) (held_in es d)
    ∙ push (is_at (digest_cmp d) e.0) e.1 (held es d)

-- under each digest stands what stands for the operation
pub recorded_at : (m : Map) (d : List ℕ) → held_at (recorded m) d ≡ option_map op_in (held_at m d)
unfolding recorded
recorded_at m d =
    get_held (map entry_in (entries m)) d ∙ held_in (entries m) d ∙ ap (option_map op_in) (held_entries m d)

-- nothing stands for nothing
pub recorded_none : (es : List (List ℕ × Op)) → es ≡ [] → (site : Map) → site ≡ empty → site ≡ recorded (of_entries es)
recorded_none es none site is = is ∙ same_sites _ _ (λ d.
    get-empty digest_cmp d
    ∙ sym (recorded_at (of_entries es) d ∙ ap (option_map op_in) (get_held es d ∙ ap (λ (xs : List (List ℕ × Op)). held
    xs d) none)))

recorded_insert : (m : Map) (d : List ℕ) (o : Op) → recorded (insert m d o) ≡ insert (recorded m) d (op_in o)
recorded_insert m d o = same_sites _ _ (λ q.
    recorded_at (insert m d o) q ∙ ap (option_map op_in) (get-insert nat_list_cmp_total m d o q)
    ∙ sym (push (is_at (digest_cmp q) d) o (held_at m q))
    ∙ ap (cond (is_at (digest_cmp q) d) (Some (op_in o))) (sym (recorded_at m q))
    ∙ sym (get-insert nat_list_cmp_total (recorded m) d (op_in o) q))

-- one operation more
pub recorded_more : (es fs : List (List ℕ × Op)) (d : List ℕ) (o : Op)
    → ((q : List ℕ) → held fs q ≡ cond (is_at (digest_cmp d) q) (Some o) (held es q))
    → (before after : Map) → before ≡ recorded (of_entries es) → after ≡ insert before d (op_in o)
    → after ≡ recorded (of_entries fs)
recorded_more es fs d o added before after was is =
    is ∙ ap (λ (m : Map). insert m d (op_in o)) was ∙ sym (recorded_insert (of_entries es) d o)
    ∙ ap recorded (sym (one_more es fs d o added))

-- what is held has the record of an operation that is
pub unheld : (m : Map) (d : List ℕ) → held_at m d ≡ None → held_at (recorded m) d ≡ None
unheld m d none = recorded_at m d ∙ ap (option_map op_in) none

is_none : (r : Option Op) → option_map op_in r ≡ None → r ≡ None
is_none None e = refl
is_none (Some o) e = absurd cc

pub held_too : (m : Map) (d : List ℕ) → held_at (recorded m) d ≡ None → held_at m d ≡ None
held_too m d none = is_none (held_at m d) (sym (recorded_at m d) ∙ none)

-- ---- as lists

keys_in : (es : List (List ℕ × Op)) → keys_of (map entry_in es) ≡ keys_of es
keys_in [] = refl
keys_in (e ∷ es) = ap (λ (ds : List (List ℕ)). e.0 ∷ ds) (keys_in es)

values_in : (es : List (List ℕ × Op)) → values_of (map entry_in es) ≡ map op_in (values_of es)
values_in [] = refl
values_in (e ∷ es) = ap (λ (ops : List Op). op_in e.1 ∷ ops) (values_in es)

entries_in : (m : Map) → entries (recorded m) ≡ map entry_in (entries m)
unfolding recorded
entries_in m = sorted_entries (map entry_in (entries m)) (subst (IsStrictlySortedBy digest_cmp)
    (sym (keys_in (entries m))) (ascend (entries m) (entries_sorted m)))

-- what stands for the operations, ascending by digest
pub recorded_ops : (m : Map) → ops_of (recorded m) ≡ map op_in (ops_of m)
recorded_ops m = ap values_of (entries_in m) ∙ values_in (entries m)

pub digests_kept : DigestsAreKept
digests_kept m = ap keys_of (entries_in m) ∙ keys_in (entries m)

some_in : (r : Option Op) → not (is_some (option_map op_in r)) ≡ not (is_some r)
some_in None = refl
some_in (Some o) = refl

-- the same digests are missing
pub missing_kept : (m : Map) (d : List ℕ) → is_missing (recorded m) d ≡ is_missing m d
missing_kept m d = ap (λ (r : Option Op). not (is_some r)) (recorded_at m d) ∙ some_in (held_at m d)

-- ---- what is kept

records_in : (ops : List Op) → map record_of (map op_in ops) ≡ map record_of ops
records_in [] = refl
records_in (op ∷ ops) = λ i. op_has_record op i ∷ records_in ops i

pub records_kept : RecordsAreKept
records_kept m = ap (map record_of) (recorded_ops m) ∙ records_in (ops_of m)

pub rows_kept : RowsAreKept
rows_kept m view called q = same_rows (ops_of (recorded m)) (ops_of m) view called q (records_kept m)

pub flagged_kept : FlaggedAreKept
flagged_kept m = same_flagged (ops_of (recorded m)) (ops_of m) (records_kept m)

pub top_kept : TopIsKept
top_kept m = ap greatest_counter (same_corrections (ops_of (recorded m)) (ops_of m) (records_kept m))

lengths : (ops others : List Op) → KeepTheSame ops others → length ops ≡ length others
lengths ops others kept = sym (length-map ops record_of) ∙ ap length kept ∙ length-map others record_of

pub counts_kept : CountsAreKept
counts_kept m =
    let ops = ops_of (recorded m) in
    let others = ops_of m in
    let kept = records_kept m in
    let many = lengths ops others kept in
    let images = alike_length (contents ops) (contents others) (same_contents ops others kept) in
    let fixes : corrections ops ≡ corrections others = same_corrections ops others kept in
    λ i. record { operations = many i; contents = images i; corrections = length (fixes i) }
