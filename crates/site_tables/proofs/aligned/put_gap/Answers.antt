use Rattle.std.proofs.Common.{rules}
use Rattle.std.proofs.lemmas.List.{append_assoc}
use Rattle.site_tables.specs.Aligned.{width}
use Rattle.site_tables.proofs.aligned.put_gap.Goals as goal

-- The spaces up to the width, and two more.
pub returns : goal.returns
unfolding width
returns c = search (rules, append_assoc)
