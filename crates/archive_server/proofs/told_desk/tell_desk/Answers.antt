use Rattle.std.proofs.Common.{ap, sym, ◌∙◌}
use Rattle.site_desk.specs.declared.stamps.Stamps.{Stamps}
use Rattle.site_desk.specs.Desks.{AtDesk}
use Rattle.archive_server.specs.Correcting.{at_desk}
use Rattle.archive_server.proofs.CorrectingLaws.{same_desk, answered_as}
use Rattle.archive_server.proofs.told_desk.tell_desk.Goals as goal

-- The desk was made of the clerk and of the stamps, and both are made of what it was at the end.
pub returns : goal.returns
returns g c =
    let served = c.serve_desk-served.ensures.served in let is = c.new-desk.ensures in
    let first : AtDesk = c.new-desk.result in let last : AtDesk = c.serve_desk-served.new.desk in
    let names = c.args.correcting.names.now in
    let before : AtDesk = at_desk names c.args.clerk c.args.stamps in
    let left : Stamps = record { site = c.args.stamps.site; last = c.into_parts-pass-2.result.2 } in
    let after : AtDesk = at_desk names c.new.result left in
    let named = c.serve_desk-served.ensures.goes_on.names ∙ ap (λ (d : AtDesk). d.names) is in
    let site = c.serve_desk-served.ensures.goes_on.site ∙ ap (λ (d : AtDesk). d.site) is in record {
      served = (
        served.0,
        served.1,
        answered_as g.H.HubName.opening first last before after served.0
            (same_desk first before (ap (λ (d : AtDesk). d.pass) is ∙ c.into_parts-pass.ensures.pass)
            (ap (λ (d : AtDesk). d.known) is ∙ c.into_parts-pass.ensures.known) (ap (λ (d : AtDesk). d.names) is)
            (ap (λ (d : AtDesk). d.site) is)
            (ap (λ (d : AtDesk). d.last) is))
            (same_desk after last (c.new.ensures.pass ∙ c.into_parts-pass-2.ensures.pass)
            (c.new.ensures.known ∙ c.into_parts-pass-2.ensures.known) (sym named) (sym site)
            c.into_parts-pass-2.ensures.last)
            served.4,
        served.2,
        served.3,
        served.5,
      );
    }
