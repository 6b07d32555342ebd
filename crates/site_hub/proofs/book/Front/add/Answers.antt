use Rattle.std.proofs.Common.{rules, ◌≡◌, ◌++◌, ◌∷◌, [], List, length, sym, subst, ◌∙◌, ap, arith, length-append}
use Rattle.operation.specs.Spelling.{digest_of}
use Rattle.site_state.specs.Site.{HasNoOther}
use Rattle.site_hub.specs.declared.entry.Entry.{Entry}
use Rattle.site_hub.specs.History.{set_of, IsHistory}
use Rattle.site_hub.proofs.Adding.{adds_moves}
use Rattle.site_hub.proofs.Histories.{history_more, recorded_is_lawful}
use Rattle.site_hub.proofs.book.Front.add.Goals as goal

-- The entry may be written: the book, the pen and the offer are those of this history, which the step makes longer by
-- it.
pub compare_exchange-found-requires : goal.compare_exchange-found-requires
compare_exchange-found-requires g c =
    let h = c.args.book.now.head_is in
    let offer = c.plain-offer.ensures in
    let pen = c.no_pen-pen.ensures in (
      ap (λ w. w.tracked) h,
      c.self.invariant.1 ∙ sym (ap (λ w. w.book) h),
      pen.0 ∙ (c.self.invariant.1 ∙ sym (ap (λ w. w.book) h)),
      offer.0,
      rw (ap (λ w. w.key) h, pen.1, offer.1, offer.3) (adds_moves c.self.inside.seen.log c.args.entry.now
          c.self.inside.entries (sym c.self.invariant.0)),
    )

-- It is longer by the entry, which clashes with nothing that is held.
pub invariant_of-result : goal.invariant_of-result
invariant_of-result g c =
    let opening = g.H.HubName.opening in
    let was = c.self.inside.seen.log in
    let entry = c.args.entry.now in
    let grown : c.compare_exchange-found.new.seen.log ≡ was ++ entry ∷ [] = search rules in
    let none = subst (λ (log : List Entry). HasNoOther (set_of opening log) (digest_of entry.op) entry.op)
    (sym c.self.view_is) c.requires.clashless in (
      omega (arith, c.self.invariant.0, ap length grown ∙ length-append was (entry ∷ [])),
      search rules,
      subst (IsHistory opening) (sym grown) (history_more opening was entry c.self.invariant.2 none
          (recorded_is_lawful entry.op c.see_recorded.ensures)),
    )
