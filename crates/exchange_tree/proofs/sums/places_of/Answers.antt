use Rattle.exchange_tree.proofs.Places.{places_0, places_1, places_2, places_3, places_4}
use Rattle.exchange_tree.proofs.sums.places_of.Goals as goal

-- All places are beneath the root.
pub returns-in-empty : goal.returns-in-empty
returns-in-empty c = places_0 c.args.node.now c.in-empty.len_below

-- So many begin with one digit.
pub returns-in-len1 : goal.returns-in-len1
returns-in-len1 c = places_1 c.args.node.now c.requires.digits c.in-len1.len_at_least c.in-len1.len_below

-- With two.
pub returns-in-len2 : goal.returns-in-len2
returns-in-len2 c = places_2 c.args.node.now c.requires.digits c.in-len2.len_at_least c.in-len2.len_below

-- With three.
pub returns-in-len3 : goal.returns-in-len3
returns-in-len3 c = places_3 c.args.node.now c.requires.digits c.in-len3.len_at_least c.in-len3.len_below

-- And with four it is one.
pub returns-in-len4-up : goal.returns-in-len4-up
returns-in-len4-up c = places_4 c.args.node.now c.requires.digits c.in-len4-up.len_at_least c.requires.short
