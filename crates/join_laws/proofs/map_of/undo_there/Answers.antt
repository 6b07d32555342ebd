use Rattle.std.proofs.Common.{◌≡◌, ◌∙◌, sym, ap}
use Rattle.std.specs.BTreeMap.{is_at}
use Rattle.std.specs.Map.{lookup, set_value}
use Rattle.std.proofs.lemmas.List.Elements.{All-same}
use Rattle.std.proofs.lemmas.Option.{same_Some as some_same}
use Rattle.join_laws.proofs.Undone.{held_at, set_value-put_joined, lookup_itself, All-set_value}
use Rattle.join_laws.specs.Proved.Maps.{none_is_not_some}
use Rattle.join_laws.proofs.map_of.undo_there.Goals as goal

-- the value goes back to what it was
pub returns-in-Some-clause-back : goal.returns-in-Some-clause-back
returns-in-Some-clause-back g c = λ before value held was takes eq.
    let test = is_at (g.K.Ord.cmp c.args.key.now) in
    let one = g.J.Summary.of_one c.args.op.now in
    let join = g.J.Join.joined in
    let found = lookup_itself g.met.K.Ord.total join c.args.key.now one g.met.K.Exact.exact before value held.0 was in
    let now : c.in-Some.there.now ≡ join value one = some_same _ _ (c.in-Some.ensures.value ∙ ap (lookup test) eq
    ∙ found) in
    let undone = c.undo.ensures value (held_at g.J.Join.IsHeld test before value held.1 was) takes now in
    (c.get_mut.follows.holds c.undo.new.self).0
    ∙ ap (set_value test c.args.map.now.entries) undone
    ∙ ap (λ es. set_value test es value) eq
    ∙ set_value-put_joined g.met.K.Ord.total join c.args.key.now one before value held.0 was

-- the value that was written is held, and so are the others
pub returns-in-Some-clause-held : goal.returns-in-Some-clause-held
returns-in-Some-clause-held g c = λ all.
    let Held : g.row.K.Denot × g.row.J.Denot → Type 0 = λ e. g.J.Join.IsHeld e.1 in
    let test = is_at (g.K.Ord.cmp c.args.key.now) in
    let entries = c.args.map.now.entries in
    let written = (c.get_mut.follows.holds c.undo.new.self).0 in
    All-same Held (c.get_mut.follows.lender c.undo.new.self).entries (set_value test entries c.undo.new.self)
    written (All-set_value test Held c.undo.new.self (λ k. c.held.ensures) entries all)

-- the key is there
pub returns-in-None-clause-back : goal.returns-in-None-clause-back
returns-in-None-clause-back g c = λ before value held was takes eq.
    let test = is_at (g.K.Ord.cmp c.args.key.now) in
    let found = lookup_itself g.met.K.Ord.total g.J.Join.joined c.args.key.now (g.J.Summary.of_one c.args.op.now)
    g.met.K.Exact.exact before value held.0 was in
    absurd (none_is_not_some _ (sym (c.in-None.ensures.value ∙ ap (lookup test) eq ∙ found)))
