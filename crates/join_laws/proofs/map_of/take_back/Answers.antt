use Rattle.std.proofs.Common.{◌∙◌, sym, ap}
use Rattle.join_laws.specs.Journal.{undone}
use Rattle.join_laws.proofs.Journals.{undone-push}
use Rattle.join_laws.proofs.map_of.take_back.Goals as goal

-- The last note is undone, and those before it are still to be.
pub loop-note-preserved : goal.loop-note-preserved
loop-note-preserved g c =
    let left = c.pop.new.self.items in
    let entries = c.loop-note.map.entries in
    ap (undone g.K.Ord.cmp left) c.put_back.ensures
    ∙ sym (undone-push g.K.Ord.cmp left c.in-Some.note entries)
    ∙ ap (λ notes. undone g.K.Ord.cmp notes entries) (sym c.in-Some.ensures.items)
    ∙ c.loop-note.invariant
