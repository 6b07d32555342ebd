use Rattle.std.proofs.Common.{◌≡◌, true, false, map, sym, ◌∙◌}
use Rattle.site_desk.proofs.TabledLaws.{none_now}
use Rattle.site_desk.proofs.tabled.page_of.Goals as goal

-- What is not told then is none of a site.
pub returns-clause-none : goal.returns-clause-none
returns-clause-none c =
    none_now (map (λ name. name.now) c.args.heading.now) c.args.text.now c.page_in.result
    (λ has. absurd (let both : true ≡ false = sym (c.is_unready.ensures.1 has) ∙ c.if-is_unready.false in cc))
    c.page_in.ensures.none
