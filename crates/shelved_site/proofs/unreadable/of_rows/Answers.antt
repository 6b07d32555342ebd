use Rattle.std.proofs.Common.{◌++◌, ◌∷◌, [], List, map, ap, sym, ◌∙◌, length, append_assoc, arith, rules}
use Rattle.std.proofs.lemmas.List.{append-nil, map-append, nil_from_length}
use Rattle.std.specs.Vec.Iter.{into_iter_items}
use Rattle.op_shelf.specs.declared.damaged.Damaged.{Damaged}
use Rattle.shelved_site.specs.declared.unreadable.Unreadable.{Unreadable}
use Rattle.shelved_site.specs.Readable.{unread_in}
use Rattle.shelved_site.proofs.unreadable.of_rows.Goals as goal

-- None was met.
pub loop-one-init : goal.loop-one-init
loop-one-init c =
    let gives = c.into_iter-one-iterator.ensures.into_iter_gives in
    ([], search rules, gives.0, gives.1 ∙ c.args.damaged.ok.0 ∙ ap length (sym gives.0))

-- One more was met.
pub loop-one-preserved : goal.loop-one-preserved
loop-one-preserved c =
    let seen = c.loop-one.invariant in
    let one = c.in-Some.one in
    let rest = into_iter_items c.next.new.self in (
      seen.0 ++ one ∷ [],
      c.in_ok-push.ensures.items ∙ ap (λ (told : List Unreadable). told ++ c.of_row.result ∷ []) seen.1
          ∙ ap (λ (u : Unreadable). map unread_in seen.0 ++ u ∷ []) c.of_row.ensures
          ∙ sym (map-append unread_in seen.0 (one ∷ [])),
      append_assoc seen.0 (one ∷ []) rest ∙ ap (λ (left : List Damaged). seen.0 ++ left) (sym c.in-Some.ensures.steps.0) ∙ seen.2,
      omega (arith, seen.3, ap length c.in-Some.ensures.steps.0, c.in-Some.ensures.steps.1),
    )

-- All were.
pub returns : goal.returns
returns c =
    let seen = c.loop-one.invariant in
    let none = nil_from_length (into_iter_items c.loop-one.one-iterator) (sym seen.3 ∙ c.in-None.ensures.steps.0) in
    let all = sym (append-nil seen.0) ∙ ap (λ (left : List Damaged). seen.0 ++ left) (sym none) ∙ seen.2 in
    seen.1 ∙ ap (map unread_in) all
