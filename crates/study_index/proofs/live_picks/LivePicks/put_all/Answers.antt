use Rattle.std.proofs.Common.{◌∙◌, ap}
use Rattle.std.specs.Map.{keys_of}
use Rattle.std.specs.Cmp.Lexicographic.{nat_list_cmp_total}
use Rattle.octets.specs.Texts.{text_cmp}
use Rattle.join_laws.specs.GrowSet.{union_of}
use Rattle.join_laws.specs.Proved.Sets.{has-union}
use Rattle.study_index.specs.Keys.{has}
use Rattle.study_index.specs.Proved.Picks.{text_exact}
use Rattle.study_index.proofs.live_picks.LivePicks.put_all.Goals as goal

-- What is put into a set is in it, beside what was.
pub returns : goal.returns
returns c = λ uid.
    let old = c.args.uids.now.keys in
    ap (λ ks. has text_cmp ks uid) (c.in_ok-put_keys.ensures ∙ ap (λ es. union_of text_cmp old (keys_of es))
    (c.get.ensures ∙ c.self.view_is))
    ∙ has-union nat_list_cmp_total text_exact uid (keys_of c.args.self.now) old
