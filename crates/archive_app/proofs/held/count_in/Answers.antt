use Rattle.std.proofs.Common.{sym, ◌∙◌, arith}
use Rattle.archive_app.proofs.held.count_in.Goals as goal

-- Nothing has changed between one count and the next.
pub returns : goal.returns
returns g c = record {
  count = λ clean l.
      let third = c.in_ok-rejections.ensures in
      let second = c.in_ok-corrections.ensures in
      let first = c.in_ok-contents.ensures in
      let clean-2 = third.clean clean in
      let clean-1 = second.clean clean-2 in
      let one = first.count clean-1 in
      let two = second.count clean-2 ∙ g.met.S.Store.same_count _ _ (first.same clean-1) 2 in
      let same = g.met.S.Store.same_count _ _ (second.same clean-2) 3 ∙ g.met.S.Store.same_count _ _ (first.same clean-1) 3 in
      let three = third.count clean ∙ same in
      omega (arith, one, two, three, l, c.saturating_add.ensures, c.saturating_add-2.ensures);
}
