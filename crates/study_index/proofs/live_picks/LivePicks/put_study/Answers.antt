use Rattle.std.proofs.Common.{◌∙◌, ap, map, subst, sym, List}
use Rattle.std.specs.Prelude.{◌||◌}
use Rattle.std.specs.List.{filter}
use Rattle.std.specs.BTreeMap.Range.{IsLeBy}
use Rattle.std.specs.Cmp.Lexicographic.{nat_list_cmp_total}
use Rattle.octets.specs.Texts.{text_cmp}
use Rattle.join_laws.specs.GrowSet.{union_of}
use Rattle.join_laws.specs.Proved.Sets.{has-union}
use Rattle.study_index.specs.Keys.{has}
use Rattle.study_index.specs.Live.{Place, place_cmp, instance_of, front_of, end_of, is_between, is_of_study, pick_at}
use Rattle.study_index.specs.Live.{tree_of}
use Rattle.study_index.specs.Proved.Picks.{text_exact}
use Rattle.study_index.proofs.Studies.{front_before_end, has_study}
use Rattle.study_index.proofs.live_picks.LivePicks.put_study.Goals as goal

-- The front of a study stands before its end.
pub put_between-requires : goal.put_between-requires
put_between-requires c =
    subst (λ (p : Place). IsLeBy place_cmp p c.in_ok-end.end) (sym c.in_ok-front.ensures)
    (subst (λ (p : Place). IsLeBy place_cmp (front_of c.args.study.now) p) (sym c.in_ok-end.ensures)
    (front_before_end c.args.study.now))

-- The places between both are those of the study's picks.
pub returns : goal.returns
returns c = λ uid.
    let old = c.args.uids.now.keys in
    let study = c.args.study.now in
    let picks = c.self.inside.picks in
    ap (λ ks. has text_cmp ks uid) (
    c.in_ok-put_between.ensures
    ∙ ap (λ (p : Place). union_of text_cmp old
    (map instance_of (filter (is_between p c.in_ok-end.end) c.self.inside.tree.keys))) c.in_ok-front.ensures
    ∙ ap (λ (p : Place). union_of text_cmp old
    (map instance_of (filter (is_between (front_of study) p) c.self.inside.tree.keys))) c.in_ok-end.ensures
    ∙ ap (λ (ps : List Place). union_of text_cmp
    old (map instance_of (filter (is_between (front_of study) (end_of study)) ps))) c.self.invariant)
    ∙ has-union nat_list_cmp_total text_exact uid (map instance_of (filter (is_between (front_of study) (end_of study))
    (tree_of picks))) old
    ∙ ap (λ b. has text_cmp old uid || b) (has_study picks c.held.ensures.0 study uid)
    ∙ ap (λ ps. has text_cmp old uid || is_of_study study (pick_at uid ps)) c.self.view_is
