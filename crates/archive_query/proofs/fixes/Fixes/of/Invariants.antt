use Rattle.std.proofs.Common.{◌≡◌, List, ℕ, map, drop}
use Rattle.octets.specs.Members.{Has}
use Rattle.operation.specs.Parts.{ContentParts}
use Rattle.site_state.specs.Site.{ops_of}
use Rattle.archive_query.specs.Found.{fixes_of}
use Rattle.archive_query.proofs.FoundLaws.{IsToldOf, IsToCome}
use Rattle.archive_query.proofs.fixes.Fixes.of.Given as goal

-- Of each content so far the values stand under its UID, and nothing else stands anywhere.
abbrev pub invariant-loop-content : goal.invariant-loop-content
invariant-loop-content l =
    (told : List ℕ → List (ℕ × List ℕ))
    → ((c : ContentParts) → Has (map (λ x. x.now) l.contents) c
    → told c.instance ≡ fixes_of (ops_of l.site) l.query.asked c)
    → IsToldOf told l.fixes
    × IsToCome told (map (λ x. x.now) l.contents) l.fixes (map (λ x. x.now) (drop l.content-index l.contents))
