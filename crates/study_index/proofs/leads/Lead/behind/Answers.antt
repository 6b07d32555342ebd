use Rattle.std.proofs.Common.{◌∙◌, ap, [], ◌∷◌, ◌++◌, ◌+◌, take, length, get_or}
use Rattle.std.specs.Prelude.{◌-◌}
use Rattle.study_index.specs.Leads.{Text, a_lead}
use Rattle.study_index.proofs.LeadLaws.{behind_raised, split}
use Rattle.study_index.proofs.leads.Lead.behind.Goals as goal

-- The last byte was raised.
pub returns : goal.returns
returns c =
    let bytes = c.as_slice-bytes.result.now in
    let front = take (length bytes - 1) bytes in
    let byte = get_or bytes (length bytes - 1) 0 in
    behind_raised c.args.tag c.args.text.now front byte c.in_ok-end-2.end
    (split bytes c.args.text.now c.as_slice-bytes.ensures.value c.if-length-eq0.false)
    (c.in_ok-end-2.ensures
    ∙ ap (λ (t : Text). a_lead c.args.tag t 0 c.empty-2.result) c.ended-raised.ensures
    ∙ ap (λ (e : Text). a_lead c.args.tag (front ++ (byte + 1) ∷ []) 0 e) c.empty-2.ensures)
