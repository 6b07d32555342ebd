use Rattle.std.proofs.Common.{◌≡◌, false, Ok, rules}
use Rattle.op_shelf.proofs.rows.find_in.Goals as goal

-- None that is there has its bytes.
pub returns-clause-spoiled : goal.returns-clause-spoiled
returns-clause-spoiled c is =
    let none : c.has_whole.result ≡ Ok false = search rules in
    c.has_whole.ensures.none none
