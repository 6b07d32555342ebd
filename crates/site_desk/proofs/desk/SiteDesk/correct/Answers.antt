use Rattle.std.proofs.Common.{◌≡◌, ◌∙◌, refl, sym, ap, subst, inl, inr, ℕ, List, [], ◌∷◌, ◌++◌}
use Rattle.std.proofs.lemmas.Result.{err_from_is_err_and}
use Rattle.operation.specs.declared.op.Op.TheVariants.{Correction as a_correction}
use Rattle.operation.specs.declared.stamp.Stamp.{Stamp}
use Rattle.operation.specs.Spelling.{digest_of}
use Rattle.site_hub.specs.History.{entry_of, EndsWith}
use Rattle.site_desk.specs.Making.{next_over}
use Rattle.site_desk.proofs.DeskLaws.{looked_onward}
use Rattle.site_desk.proofs.WhyLaws.{unlooked, none_next, unkept}
use Rattle.site_desk.proofs.MakingLaws.{last_rises, told}
use Rattle.site_desk.proofs.desk.SiteDesk.correct.Goals as goal

-- The pass has looked, and then stored what was written, or nothing; the counter is greater than the last one.
pub returns-in_err-keep-clause-goes_on : goal.returns-in_err-keep-clause-goes_on
returns-in_err-keep-clause-goes_on g c = rw (← c.self.view_is) (record {
  onward = looked_onward c.keep.new.extract c.self.inside.pass c.top_of.new.pass c.keep.new.pass c.top_of.ensures.looked
      c.keep.ensures.onward;
  known = c.keep.ensures.known;
  names = refl;
  site = refl;
  last = last_rises c.self.inside.site c.in_ok-top.top c.self.inside.last _ c.args.change c.in_ok-made.made
      c.stamp-stamp.result c.in_ok-top.ensures.top c.in_ok-made.ensures c.stamp-stamp.ensures.value;
})

-- So it is where the correction was made.
pub returns-clause-goes_on : goal.returns-clause-goes_on
returns-clause-goes_on g c = rw (← c.self.view_is) (record {
  onward = looked_onward c.keep.new.extract c.self.inside.pass c.top_of.new.pass c.keep.new.pass c.top_of.ensures.looked
      c.keep.ensures.onward;
  known = c.keep.ensures.known;
  names = refl;
  site = refl;
  last = last_rises c.self.inside.site c.in_ok-top.top c.self.inside.last _ c.args.change c.in_ok-made.made
      c.stamp-stamp.result c.in_ok-top.ensures.top c.in_ok-made.ensures c.stamp-stamp.ensures.value;
})

-- It came next over what the look saw, was written, is the last that the pass has seen, and alone became its own.
pub returns-clause-made : goal.returns-clause-made
returns-clause-made g c = rw (← c.self.view_is) (record {
  parts = c.in_ok-made.made;
  stores = record {
    turn = c.top_of.new.pass.seen;
    sees = c.top_of.ensures.looked.seen;
    seen = c.keep.ensures.onward.later.seen;
    next = sym (subst (λ (top : ℕ). told c.in_ok-made.made ≡ next_over c.self.inside.site top c.args.change)
        c.in_ok-top.ensures.top c.in_ok-made.ensures);
    stored = c.in_ok-keep.ensures.stored;
    last = ap (λ (s : Stamp). s.counter) c.stamp-stamp.ensures.value;
  };
  shown = subst (λ (number : ℕ). EndsWith c.keep.new.pass.seen (entry_of number (a_correction c.in_ok-made.made)))
      c.top_of.ensures.looked.number c.in_ok-keep.ensures.shown;
  mine = c.in_ok-keep.ensures.mine
      ∙ ap (λ (mine : List (List ℕ)). mine ++ digest_of (a_correction c.in_ok-made.made) ∷ [])
      c.top_of.ensures.looked.mine;
  counter = ap (λ (s : Stamp). s.counter) c.stamp-stamp.ensures.value;
  site = ap (λ (s : Stamp). s.site) c.stamp-stamp.ensures.value;
})

-- Its look was refused,
pub returns-in_err-top-clause-why : goal.returns-in_err-top-clause-why
returns-in_err-top-clause-why g c =
    let p = err_from_is_err_and c.from_residual.result c.from_residual.ensures.1 in
    rw (← c.self.view_is) (rw p.1 (inl (rw p.2 (unlooked _ c.in_err-top.ensures.fault))))

-- or none comes next,
pub returns-in_err-made-clause-why : goal.returns-in_err-made-clause-why
returns-in_err-made-clause-why g c =
    let it = c.from_residual-in_err-made in let p = err_from_is_err_and it.result it.ensures.1 in
    rw (← c.self.view_is) (rw p.1 (inr (none_next c.self.inside.site c.in_ok-top.top _ c.args.change p.0 _
    c.in_ok-top.ensures.top p.2 c.in_err-made.ensures)))

-- or it is not kept, or not shown.
pub returns-in_err-keep-clause-why : goal.returns-in_err-keep-clause-why
returns-in_err-keep-clause-why g c =
    let it = c.from_residual-in_err-keep in let p = err_from_is_err_and it.result it.ensures.1 in
    rw (← c.self.view_is) (rw p.1 (inl (rw p.2 (unkept _ _ c.in_err-keep.ensures.refused))))
