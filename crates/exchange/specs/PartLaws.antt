-- What exchanges in parts come to.
use Rattle.std.specs.Prelude.{◌≡◌, ◌≤◌, ◌<◌, ◌+◌, ◌↔◌, ℕ, List, length, Some, true}
use Rattle.octets.specs.Members.{Has}
use Rattle.operation.specs.declared.op.Op.{Op}
use Rattle.site_state.specs.Site.{Map, IsSite, held_at, digest_cmp}
use Rattle.std.specs.List.Sorted.{IsStrictlySortedBy}
use Rattle.site_state.specs.Union.{Agree}
use Rattle.exchange.specs.declared.version.Version.TheVariants.{Two}
use Rattle.exchange_frames.specs.declared.reader.TheConstants.{MOST_DIGESTS}
use Rattle.exchange.specs.Held.{place_of, is_in, offered, offered_in, lacked, given}
use Rattle.exchange.specs.Parts.{fitting, IsWhole, is_seen_whole}
use Rattle.exchange.specs.Laws.{BucketsTell, GainsOnly, IsAnswered, digests_at}
use Rattle.exchange.specs.RunLaws.{differing}

-- What a HAVE tells of ascending digests, of which it has so many at most: no more than that, nothing else, and all of
-- the places that it tells whole.
pub record FittingTells : Type 0 where
  pub few : (most : ℕ) (digests : List (List ℕ)) → length (fitting most digests) ≤ most
  pub only : (most : ℕ) (digests : List (List ℕ)) (digest : List ℕ) → Has (fitting most digests) digest
      → Has digests digest
  pub whole : (most : ℕ) (digests : List (List ℕ)) (digest : List ℕ) → IsStrictlySortedBy digest_cmp digests
      → Has digests digest → IsWhole most digests (place_of digest) → Has (fitting most digests) digest

-- A HAVE that is seen to have all that is held in some places has it.
abbrev pub SeenFits : Type 0
SeenFits =
    (places : List ℕ) (digests : List (List ℕ)) → ((d : List ℕ) → Has digests d → is_in places d ≡ true)
    → is_seen_whole places (fitting MOST_DIGESTS digests) ≡ true → length digests ≤ MOST_DIGESTS

-- what a set is told of another, by a HAVE of so many digests at most, once it was compared with its buckets
abbrev pub part_of : ℕ → Map → Map → List (List ℕ)
part_of most asking offering = fitting most (offered_in Two (differing Two asking (offered Two offering)) offering)

-- half an exchange at version 2, from a site that nobody else changes, to one that takes only what was given
pub record IsPart (most : ℕ) (offering asking after : Map) : Type 0 where
  pub answered : IsAnswered Two (part_of most asking offering) asking offering after
  pub only : GainsOnly asking (given Two (lacked asking (part_of most asking offering)) offering) after

-- In no place are more than so many held.
abbrev pub EachPlaceFits : ℕ → Map → Type 0
EachPlaceFits most m = (place : ℕ) → length (digests_at place (offered Two m)) ≤ most

-- Two sets hold the same in the first of the places.
abbrev pub AgreeBelow : ℕ → Map → Map → Type 0
AgreeBelow n a b =
    (digest : List ℕ) (op : Op) → place_of digest < n → (held_at a digest ≡ Some op) ↔ (held_at b digest ≡ Some op)

-- By each exchange in parts two sites come to hold the same in one place more, if unequal digests of a place have
-- unequal buckets in the sets that are compared, and a HAVE has room for any one place. Those that hold the same in 256
-- places hold the same: so 256 exchanges are enough, however much the two hold.
pub record PartsEnd : Type 0 where
  pub next : (most n : ℕ) (a b b_after a_after : Map) → IsSite a → IsSite b → IsSite b_after → IsSite a_after
      → Agree a b_after → Agree b_after a_after → BucketsTell (offered Two b) (offered Two a)
      → BucketsTell (offered Two a) (offered Two b_after) → EachPlaceFits most a → EachPlaceFits most b_after
      → IsPart most a b b_after → IsPart most b_after a a_after → AgreeBelow n a b
      → AgreeBelow (n + 1) a_after b_after
  pub last : (a b : Map) → IsSite a → IsSite b → AgreeBelow 256 a b → a ≡ b
