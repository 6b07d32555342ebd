use Rattle.std.proofs.Common.{◌≡◌, rules, sym, ◌∙◌}
use Rattle.shelved_site.proofs.Adding.{first_behind}
use Rattle.shelved_site.proofs.log_records.behind_told.Goals as goal

-- The first has the digest of the content, and the others stand behind it.
pub returns-then-eq-clause-some : goal.returns-then-eq-clause-some
returns-then-eq-clause-some c =
    let same : c.digest.result.now ≡ c.digest-in-len1-up.result.now = search rules in
    first_behind c.args.told.now c.first-item.result c.args.content.now c.in-len1-up.len_at_least c.first-item.is
    (sym c.digest.ensures ∙ same ∙ c.digest-in-len1-up.ensures)
