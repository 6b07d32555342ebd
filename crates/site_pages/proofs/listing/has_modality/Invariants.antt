use Rattle.std.proofs.Common.{◌≡◌, drop}
use Rattle.std.specs.List.{list_any}
use Rattle.dictionary.specs.declared.role.Matching.TheVariants.{WildCard}
use Rattle.key_matching.specs.Matches.{matches}
use Rattle.site_pages.proofs.listing.has_modality.Given as goal

-- Whether one of those that are left matches is whether one of all does.
abbrev pub invariant-loop-modality : goal.invariant-loop-modality
invariant-loop-modality l =
    list_any (matches WildCard l.key) (drop l.modality-index l.modality-items)
    ≡ list_any (matches WildCard l.key) l.modality-items
