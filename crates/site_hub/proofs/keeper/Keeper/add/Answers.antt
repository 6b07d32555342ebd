use Rattle.std.proofs.Common.{rules, ◌≡◌, ◌∷◌, ◌++◌, [], sym}
use Rattle.site_hub.proofs.Fronts.{prefix_trans}
use Rattle.operation.specs.Spelling.{digest_of}
use Rattle.site_hub.specs.History.{entry_of}
use Rattle.site_hub.proofs.Laters.{later_same, later_kept, later_by, later_pending}
use Rattle.site_hub.proofs.keeper.Keeper.add.Goals as goal

-- Nothing was done yet.
pub returns-then-is_err-clause-goes_on : goal.returns-then-is_err-clause-goes_on
returns-then-is_err-clause-goes_on g c = record { later = later_same _ _ (search rules); counted = search rules }

-- There is room for one digest more, and the pass is as it was, but for the refusal.
pub returns-in_default-clause-goes_on : goal.returns-in_default-clause-goes_on
returns-in_default-clause-goes_on g c = record {
  later = later_kept _ _ (search rules) (search rules) (search rules);
  counted = search rules;
}

-- The digest is the pass's own, and it has seen nothing yet.
pub returns-then-not-flush-clause-goes_on : goal.returns-then-not-flush-clause-goes_on
returns-then-not-flush-clause-goes_on g c = record {
  later = later_pending _ _ (digest_of c.args.op) (search rules) (search rules) (search rules);
  counted = search rules;
}

-- What the pass had seen begins the history before, which begins the history with its entry.
pub returns-clause-goes_on : goal.returns-clause-goes_on
returns-clause-goes_on g c =
    let grown : c.again-3.result ≡ c.args.self.now.all ++ (entry_of c.args.pass.now.number c.args.op) ∷ [] =
    search rules in
    let older = prefix_trans c.args.pass.now.seen c.args.self.now.all c.again-3.result
    c.requires.turn.seen ((entry_of c.args.pass.now.number c.args.op) ∷ [], sym grown) in record {
      later = later_by _ _ (digest_of c.args.op) (search rules) older (search rules);
      counted = search rules;
    }
