use Rattle.std.proofs.Common.{length}
use Rattle.study_index.proofs.leads.+led_order.Given as goal

-- With each call one byte fewer is left to compare.
abbrev pub decreases-led_order : goal.decreases-led_order
decreases-led_order l = length l.text.now
