use Rattle.std.proofs.Common.{◌≡◌, ◌++◌, length}
use Rattle.site_pages.specs.StudiesPages.{of_modality}
use Rattle.site_pages.proofs.listing.of_modality.Given as goal

-- What was found, with those of the modality that are left, are all.
abbrev pub invariant-loop-found : goal.invariant-loop-found
invariant-loop-found l = l.found.items ++ of_modality l.search l.answers ≡ of_modality l.search l.fn.answers

-- An answer fewer is left.
abbrev pub decreases-loop-found : goal.decreases-loop-found
decreases-loop-found l = length l.answers
