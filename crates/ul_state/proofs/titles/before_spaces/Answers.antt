use Rattle.std.proofs.Common.{sym, ◌∙◌}
use Rattle.ul_state.proofs.Spaces.{without_end-last_pad, without_end-last_kept, without_end-empty}
use Rattle.ul_state.proofs.titles.before_spaces.Goals as goal

-- The last byte is no space, so nothing is dropped any more.
pub returns-then-not-is_space_byte : goal.returns-then-not-is_space_byte
returns-then-not-is_space_byte c =
    sym (without_end-last_kept c.loop-rest.rest.now c.in-len1-up.len_at_least (sym c.is_space_byte.ensures
    ∙ c.if-not-is_space_byte.true)) ∙ c.loop-rest.invariant

-- A space at the end is dropped.
pub loop-rest-preserved : goal.loop-rest-preserved
loop-rest-preserved c =
    without_end-last_pad c.loop-rest.rest.now c.in-len1-up.len_at_least (sym c.is_space_byte.ensures
    ∙ c.if-not-is_space_byte.false) ∙ c.loop-rest.invariant

-- Nothing is left to drop.
pub returns : goal.returns
returns c = without_end-empty c.loop-rest.rest.now c.in_default.len_below ∙ c.loop-rest.invariant
