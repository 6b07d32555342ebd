use Rattle.std.proofs.Common.{◌≡◌, ◌∙◌, ap, sym, not, ◌&&◌, ◌||◌}
use Rattle.std.specs.BTreeMap.{is_at}
use Rattle.std.specs.Slice.Iter.{iter_rest}
use Rattle.std.proofs.lemmas.Bool.{or_left as or_true}
use Rattle.join_laws.specs.Proved.Sets.{same_keys, has-insert_key}
use Rattle.study_index.specs.Keys.{has}
use Rattle.study_index.specs.Live.{Place, place_cmp}
use Rattle.study_index.specs.Proved.Picks.{place_total, place_exact}
use Rattle.study_index.proofs.KeyLaws.{has-last, moved_over, out_with_left}
use Rattle.study_index.proofs.tree.put_all.Goals as goal

-- The last place that is left is in.
pub loop-place-preserved : goal.loop-place-preserved
loop-place-preserved c =
    let R = place_cmp in
    let x = c.in-Some.place.now in
    let mid = c.loop-place.tree.keys in
    let rest = iter_rest c.next_back.new.self in
    let left : (q : Place) → has R (iter_rest c.loop-place.rest) q ≡ (has R rest q || is_at (R q) x) =
    λ q. ap (λ ks. has R ks q) c.in-Some.ensures.steps ∙ has-last R rest x q in
    record {
      ordered = c.put.ensures.ordered;
      all = λ q. ap (λ ks. has R ks q || has R rest q) c.in_default-put.ensures.ok
          ∙ ap (λ b. b || has R rest q) (has-insert_key place_total place_exact q x mid)
          ∙ moved_over (has R mid q) (has R rest q) (is_at (R q) x)
          ∙ ap (λ b. has R mid q || b) (sym (left q))
          ∙ c.loop-place.invariant.all q;
      among = λ q h. c.loop-place.invariant.among q (left q ∙ or_true (has R rest q) (is_at (R q) x) h);
    }

-- What was put in is out again, and nothing else: none of it was there before.
pub returns-in-Err-clause-refused : goal.returns-in-Err-clause-refused
returns-in-Err-clause-refused c =
    let R = place_cmp in
    let fresh = c.args.fresh.now in
    let mid = c.loop-place.tree.keys in
    let old = c.args.tree.now.keys in
    same_keys place_total place_exact c.take_all.new.tree.keys old c.take_all.ensures.ordered c.len.ensures.ordered
    (λ q.
    c.take_all.ensures.left q
    ∙ ap (λ ks. has R ks q && not (has R fresh q)) c.in-Err.ensures.refused
    ∙ out_with_left (has R mid q) (has R (iter_rest c.loop-place.rest) q) (has R fresh q) (has R old q)
    (c.loop-place.invariant.all q) (c.loop-place.invariant.among q) (c.requires q))
