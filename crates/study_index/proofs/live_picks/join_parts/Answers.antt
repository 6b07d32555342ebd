use Rattle.std.proofs.Common.{◌≡◌, ◌∙◌, ap, sym, not, ◌&&◌, ◌||◌}
use Rattle.study_index.specs.Keys.{has}
use Rattle.study_index.specs.Live.{place_cmp, tree_of, gains, losses, picks_joined}
use Rattle.study_index.specs.Proved.Picks.{picks_laws}
use Rattle.study_index.proofs.KeyLaws.{out_again}
use Rattle.study_index.proofs.Trees.{still_apart, has-moved, same_places, sorted-tree_of}
use Rattle.study_index.proofs.live_picks.join_parts.Goals as goal

-- What the list is to gain is not in it.
pub put_all-requires : goal.put_all-requires
put_all-requires c = still_apart c.args.picks.now c.args.other.now c.held.ensures.0 c.held-2.ensures.0
    c.args.tree.now.keys c.deref.result.now c.requires (c.deref.ensures.value ∙ c.in_ok-fresh.ensures.fresh
    ∙ ap (gains c.args.picks.now) c.get.ensures)

-- What it gained is out again.
pub returns-in-Err-clause-live : goal.returns-in-Err-clause-live
returns-in-Err-clause-live c =
    let picks = c.args.picks.now in
    let put = c.deref.result.now in
    let out = c.deref-in-Err.result.now in
    let same : put ≡ out = c.deref.ensures.value ∙ sym c.deref-in-Err.ensures.value in
    same_places c.take_all.new.tree.keys (tree_of picks) c.take_all.ensures.ordered (sorted-tree_of picks) (λ q.
    c.take_all.ensures.left q
    ∙ ap (λ b. b && not (has place_cmp out q)) (c.in_ok-put_all.ensures.ok q)
    ∙ out_again (has place_cmp c.args.tree.now.keys q) (has place_cmp put q) (has place_cmp out q)
    (λ h. ap (λ ps. has place_cmp ps q) (sym same) ∙ h) (λ h. ap (λ ps. has place_cmp ps q) (sym same)
    ∙ still_apart picks c.args.other.now c.held.ensures.0 c.held-2.ensures.0 c.args.tree.now.keys put c.requires
    (c.deref.ensures.value ∙ c.in_ok-fresh.ensures.fresh ∙ ap (gains picks) c.get.ensures) q h)
    ∙ ap (λ ks. has place_cmp ks q) c.requires)
    ∙ ap tree_of (sym c.in-Err.ensures.refused)

-- With its gains and without its losses the list is that of the joined picks.
pub returns-clause-live : goal.returns-clause-live
returns-clause-live c =
    let picks = c.args.picks.now in
    let other = c.args.other.now in
    let held = picks_laws.held picks other c.held.ensures c.held-2.ensures in
    let put = c.deref.ensures.value ∙ c.in_ok-fresh.ensures.fresh ∙ ap (gains picks) c.get.ensures in
    let out = c.deref-2.ensures.value ∙ c.in_ok-fresh.ensures.stale ∙ ap (losses picks) c.get.ensures in
    same_places c.take_all-2.new.tree.keys (tree_of (picks_joined picks other)) c.take_all-2.ensures.ordered
    (sorted-tree_of (picks_joined picks other)) (λ q.
    c.take_all-2.ensures.left q
    ∙ ap (λ ps. has place_cmp c.put_all.new.tree.keys q && not (has place_cmp ps q)) out
    ∙ ap (λ b. b && not (has place_cmp (losses picks other) q)) (c.in_ok-put_all.ensures.ok q)
    ∙ ap (λ ks. (has place_cmp ks q || has place_cmp c.deref.result.now q) && not (has place_cmp (losses picks other)
    q)) c.requires
    ∙ ap (λ ps. (has place_cmp (tree_of picks) q || has place_cmp ps q) && not (has place_cmp (losses picks other) q))
    put
    ∙ has-moved picks other c.held.ensures.0 c.held-2.ensures.0 held.0 q)
    ∙ ap tree_of (sym c.in_default.ensures.ok)
