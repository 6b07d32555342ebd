use Rattle.std.proofs.Common.{ap, ◌∙◌}
use Rattle.shelved_site.specs.Moving.{count_new as count_of_new}
use Rattle.shelved_site.proofs.moving.put_group.Goals as goal

-- The puts of the group, and how many of them were new.
pub returns-clause-put : goal.returns-clause-put
returns-clause-put g c up = record {
  kepts = c.in_ok-kepts.kepts.items;
  gained = c.in_ok-kepts.ensures.put up;
  counted = c.count_new.ensures ∙ ap count_of_new c.deref.ensures.value;
}
