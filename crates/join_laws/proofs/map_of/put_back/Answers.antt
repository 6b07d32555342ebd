use Rattle.std.proofs.Common.{◌∙◌, sym, ap}
use Rattle.std.specs.BTreeMap.{is_at}
use Rattle.join_laws.specs.Journal.{undone_at}
use Rattle.join_laws.proofs.Journals.{set_value_absent}
use Rattle.join_laws.proofs.map_of.put_back.Goals as goal

-- nothing is written where the key is not there
pub returns-in-None-get_mut : goal.returns-in-None-get_mut
returns-in-None-get_mut g c =
    let entries = c.args.map.now.entries in
    let absent = set_value_absent (is_at (g.K.Ord.cmp c.args.key.now)) c.in-Some.value
    entries (sym c.in-None-get_mut.ensures.value) in
    ap (λ map. map.entries) c.get_mut.follows.holds-at-none
    ∙ sym absent
    ∙ ap (λ before. undone_at g.K.Ord.cmp c.args.key.now before entries) (sym c.in-Some.is)
