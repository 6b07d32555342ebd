use Rattle.std.proofs.Common.{ℕ, List, ap, ◌∙◌}
use Rattle.std.specs.Prelude.{◌||◌}
use Rattle.octets.specs.Texts.{text_cmp}
use Rattle.study_index.specs.Keys.{has}
use Rattle.study_index.specs.Leads.{LeadWalk, is_led, is_walked}
use Rattle.archive_query.specs.Leads.{is_candidate}
use Rattle.archive_query.proofs.candidates.led_studies.Goals as goal

-- First what leads from the value of no bytes, then what the key's walk comes to.
pub returns : goal.returns
returns c = λ s.
    let leads = c.args.index.now.leads in
    let walk = c.walk.inside.walk in
    c.in_ok-put_led-2.ensures s
    ∙ ap (λ b. b || is_led (is_walked walk) leads s) (c.in_ok-put_led.ensures s)
    ∙ ap (λ (ks : List (List ℕ)). (has text_cmp ks s || is_led (is_walked c.walk.inside.none) leads s)
    || is_led (is_walked walk) leads s) c.new-studies.ensures.empty
    ∙ ap (λ (w : LeadWalk). is_led (is_walked w) leads s || is_led (is_walked walk) leads s) c.walk.invariant
    ∙ ap (λ (w : ℕ × LeadWalk). is_candidate w.0 (is_walked w.1) leads s) c.walk.view_is
