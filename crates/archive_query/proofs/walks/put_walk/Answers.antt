use Rattle.std.proofs.Common.{ℕ, List, sym, subst}
use Rattle.study_index.specs.Leads.{LeadWalk}
use Rattle.archive_query.specs.Leads.{AreChosenWalks}
use Rattle.archive_query.proofs.WalkLaws.{chosen_more}
use Rattle.archive_query.proofs.walks.put_walk.Goals as goal

-- One walk more is one of a key.
pub returns-clause-chosen : goal.returns-clause-chosen
returns-clause-chosen c =
    let q = c.args.query.now in
    subst (λ (ws : List (ℕ × LeadWalk)). AreChosenWalks q ws) (sym c.in_ok-push.ensures.items)
    (chosen_more q c.args.walks.now.items c.in_ok-key_walk.field-0 c.requires.chosen (record {
      asked = c.args.asked.now;
      one = c.requires.one;
      tag = sym c.in_ok-key_walk.ensures.tag;
      walk = c.in_ok-key_walk.ensures.walk;
    }))
