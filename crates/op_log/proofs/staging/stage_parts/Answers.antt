use Rattle.std.proofs.Common.{rules, ◌≡◌, ◌++◌, ◌∷◌, [], List, ℕ, Ok, inl, length, sym, ap, ◌∙◌, arith}
use Rattle.std.proofs.lemmas.List.{append-nil, length-append}
use Rattle.std.proofs.lemmas.List.Elements.{All-cons, All-nil, All-same}
use Rattle.body_log.specs.Log.{end_of}
use Rattle.op_log.specs.declared.finding.Found.TheVariants.{Unreadable}
use Rattle.op_log.specs.Heads.{IsSpelled, head_text}
use Rattle.op_log.specs.Kept.{IsBelow}
use Rattle.op_log.specs.Spelled.{head_spelled}
use Rattle.op_log.proofs.Cutting.{head_long}
use Rattle.op_log.proofs.Growing.{below_on, grows_twice, unread_on}
use Rattle.op_log.proofs.Settling.{with_all}
use Rattle.op_log.proofs.staging.stage_parts.Goals as goal

-- What can't be read under the digest is put anew.
pub returns-in_ok-add_new-in-Unreadable-clause-staged : goal.returns-in_ok-add_new-in-Unreadable-clause-staged
returns-in_ok-add_new-in-Unreadable-clause-staged g c =
    let s = c.args.spelled.now in
    let mid = c.found_under.new.bodies in
    let new = c.add_new.new.bodies in
    let put = c.in_ok-add_new-in-Unreadable.ensures in
    let is : c.found_under.result ≡ Ok Unreadable = search rules in (
      unread_on g.B.Disk mid new c.add_new.ensures.grows s.digest.now s.front.now c.args.places.now
          (c.found_under.ensures.unread is),
      (end_of mid, put.added, put.lawful, λ some. (put.held some, put.end)),
    )

-- Its head stands behind the others of the group.
pub returns-in_ok-add_new-in-Unreadable-clause-text : goal.returns-in_ok-add_new-in-Unreadable-clause-text
returns-in_ok-add_new-in-Unreadable-clause-text g c =
    let h = head_spelled c.args.spelled.now (end_of c.found_under.new.bodies) in
    let before = c.args.group.now.text.items in
    let put = c.in_ok-add_new-in-Unreadable.ensures in
    record {
      heads = h ∷ [];
      spelled = All-cons IsSpelled h [] put.lawful (All-nil IsSpelled);
      new_is = put.added;
      text_is = put.text ∙ ap (λ (text : List ℕ). before ++ text) (sym (append-nil (head_text h)));
    }

-- One head more stands there.
pub returns-in_ok-add_new-in-Unreadable-clause-long : goal.returns-in_ok-add_new-in-Unreadable-clause-long
returns-in_ok-add_new-in-Unreadable-clause-long g c =
    let h = head_spelled c.args.spelled.now (end_of c.found_under.new.bodies) in
    let put = c.in_ok-add_new-in-Unreadable.ensures in
    let text = ap length put.text in
    let parts = length-append c.args.group.now.text.items (head_text h) in
    omega (arith, text, parts, head_long h put.lawful)

-- What was replaced is kept, and the data set lies below the end.
pub returns-in_ok-add_new-in-Unreadable-clause-places : goal.returns-in_ok-add_new-in-Unreadable-clause-places
returns-in_ok-add_new-in-Unreadable-clause-places g c =
    let old = c.args.bodies.now in
    let new = c.add_new.new.bodies in
    let heads = c.args.places.now in
    let h = head_spelled c.args.spelled.now (end_of c.found_under.new.bodies) in
    let put = c.in_ok-add_new-in-Unreadable.ensures in
    let grows = grows_twice g.B.Disk old c.found_under.new.bodies new c.found_under.ensures.grows c.add_new.ensures.grows in
    record {
      undone = c.add_new.ensures.undone;
      below = λ low.
          All-same (IsBelow (end_of new)) c.add_new.new.places _ put.added
          (with_all (IsBelow (end_of new)) heads h (below_on (end_of old) (end_of new) heads grows.longer low) put.end);
    }

-- A test and a write spare what lies there.
pub returns-in_err-add_new-in-Unreadable-clause-grows : goal.returns-in_err-add_new-in-Unreadable-clause-grows
returns-in_err-add_new-in-Unreadable-clause-grows g c =
    grows_twice g.B.Disk c.args.bodies.now c.found_under.new.bodies c.add_new.new.bodies c.found_under.ensures.grows c.add_new.ensures.grows

-- And so where all went well.
pub returns-in_ok-add_new-in-Unreadable-clause-grows : goal.returns-in_ok-add_new-in-Unreadable-clause-grows
returns-in_ok-add_new-in-Unreadable-clause-grows g c =
    grows_twice g.B.Disk c.args.bodies.now c.found_under.new.bodies c.add_new.new.bodies c.found_under.ensures.grows c.add_new.ensures.grows
