use Rattle.site_state.proofs.Same.{equal_maps, equal_contents, equal_picks, equal_covers, equal_shown, equal_flagged}
use Rattle.site_state.proofs.Same.{equal_attributes, equal_counts, equal_tops}
use Rattle.site_state.proofs.laws.order_and_repeats_are_free.Goals as goal

-- Sites that took the same operations are equal maps, where unequal operations have unequal digests.
pub returns-clause-maps : goal.returns-clause-maps
returns-clause-maps c = equal_maps

-- Such sites have the same contents of each SOP Instance UID.
pub returns-clause-contents : goal.returns-clause-contents
returns-clause-contents c = equal_contents

-- Such sites have the same pick of each SOP Instance UID.
pub returns-clause-picks : goal.returns-clause-picks
returns-clause-picks c = equal_picks

-- At such sites the same UIDs are covered in each view.
pub returns-clause-covers : goal.returns-clause-covers
returns-clause-covers c = equal_covers

-- Such sites show the same contents in each view.
pub returns-clause-shown : goal.returns-clause-shown
returns-clause-shown c = equal_shown

-- Such sites flag the same SOP Instance UIDs.
pub returns-clause-flagged : goal.returns-clause-flagged
returns-clause-flagged c = equal_flagged

-- Each attribute of a content has the same corrected value at such sites.
pub returns-clause-attributes : goal.returns-clause-attributes
returns-clause-attributes c = equal_attributes

-- Such sites hold equally many operations, contents and corrections.
pub returns-clause-counts : goal.returns-clause-counts
returns-clause-counts c = equal_counts

-- At such sites the greatest counter of the corrections is the same.
pub returns-clause-top_counters : goal.returns-clause-top_counters
returns-clause-top_counters c = equal_tops
