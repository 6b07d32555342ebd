-- What a round between two sites comes to.
use Rattle.std.specs.Prelude.{◌≡◌, ◌⊎◌, ◌≤◌, ◌<◌, ◌↔◌, ℕ, List, [], filter, length, Some, true, ◌==◌}
use Rattle.octets.specs.Members.{Has}
use Rattle.operation.specs.declared.op.Op.{Op}
use Rattle.operation.specs.Spelling.{digest_of}
use Rattle.site_state.specs.Site.{Map, IsSite, held_at}
use Rattle.site_state.specs.Union.{Agree}
use Rattle.exchange_frames.specs.declared.frame.Frame.TheVariants.{Have, Want, Buckets, Differ}
use Rattle.exchange_frames.specs.declared.reader.TheConstants.{MOST_DIGESTS, BUCKET_COUNT}
use Rattle.exchange_frames.specs.Spelling.{IsFrame}
use Rattle.exchange.specs.declared.version.Version.{Version}
use Rattle.exchange.specs.declared.version.Version.TheVariants.{Two}
use Rattle.exchange.specs.Held.{is_spoken, place_of, offered, offered_in, lacked, given, HasDigests, HasGrown}
use Rattle.exchange.specs.Parts.{told_in}
use Rattle.exchange.specs.Buckets.{bucket_of, bucket_list, unequal}

-- what a version speaks of in a set is in another
abbrev pub HasAllSpoken : Version → Map → Map → Type 0
HasAllSpoken version m n = (digest : List ℕ) (op : Op) → held_at m digest ≡ Some op → is_spoken version op ≡ true
    → held_at n digest ≡ Some op

-- each of some operations is in a set
abbrev pub HoldsEach : Map → List Op → Type 0
HoldsEach m ops = (op : Op) → Has ops op → held_at m (digest_of op) ≡ Some op

-- How a HAVE was answered: its receiver asked for what it lacked, the other side gave of that what it held then, and
-- the receiver took each operation that was given.
pub record IsAnswered (version : Version) (have : List (List ℕ)) (asking giving after : Map) : Type 0 where
  pub grown : HasGrown asking after
  pub taken : HoldsEach after (given version (lacked asking have) giving)

-- After a round the one side holds all that the other held at its offer, if under one digest both hold one operation.
abbrev pub RoundGivesAll : Type 0
RoundGivesAll =
    (version : Version) (offering giving asking after : Map) → IsSite offering → HasGrown offering giving
    → Agree offering after
    → IsAnswered version (offered version offering) asking giving after → HasAllSpoken version offering after

-- a set holds what it held and some operations, and nothing else
abbrev pub GainsOnly : Map → List Op → Map → Type 0
GainsOnly before ops after = (digest : List ℕ) (op : Op) → held_at after digest ≡ Some op
    → (held_at before digest ≡ Some op) ⊎ Has ops op

-- a round at version 2 from a site that nobody else changes, to one that takes only what was given
pub record IsRound (from before after : Map) : Type 0 where
  pub answered : IsAnswered Two (offered Two from) before from after
  pub only : GainsOnly before (given Two (lacked before (offered Two from)) from) after

-- After a round each way both sides hold the same, if under one digest they hold one operation.
abbrev pub RoundsMakeEqual : Type 0
RoundsMakeEqual =
    (a b a_after b_after : Map) → IsSite a → IsSite b_after → IsSite a_after → Agree a b_after → Agree b_after a_after
    → IsRound a b b_after → IsRound b_after a a_after → a_after ≡ b_after

-- those of some digests that begin with a byte
abbrev pub digests_at : ℕ → List (List ℕ) → List (List ℕ)
digests_at place digests = filter (λ d. place_of d == place) digests

-- in each of the 256 places unequal digests have unequal buckets: of so many pairs of lists it is asked
abbrev pub BucketsTell : List (List ℕ) → List (List ℕ) → Type 0
BucketsTell own theirs = (place : ℕ) → place < BUCKET_COUNT → bucket_of own place ≡ bucket_of theirs place
    → digests_at place own ≡ digests_at place theirs

-- So it is of one list with itself, however long it is, and of any two that are equal in each place.
abbrev pub EqualDigestsTell : Type 0
EqualDigestsTell = (digests : List (List ℕ)) → BucketsTell digests digests

abbrev pub EqualPlacesTell : Type 0
EqualPlacesTell =
    (own theirs : List (List ℕ))
    → ((place : ℕ) → place < BUCKET_COUNT → digests_at place own ≡ digests_at place theirs)
    → BucketsTell own theirs

-- The lists of the buckets of two sets of digests are unequal in no place exactly where they are equal.
abbrev pub NoPlaceIsEqual : Type 0
NoPlaceIsEqual =
    (own theirs : List (List ℕ))
    → (unequal (bucket_list own) (bucket_list theirs) ≡ []) ↔ (bucket_list own ≡ bucket_list theirs)

-- So it does where BUCKETS were told first, and the HAVE is of the places in which they differ, if unequal digests have
-- unequal buckets.
abbrev pub RoundByBucketsGivesAll : Type 0
RoundByBucketsGivesAll =
    (version : Version) (offering showing giving comparing asking after : Map) → IsSite offering
    → HasGrown offering showing → HasGrown showing giving → HasGrown comparing asking → Agree offering after
    → BucketsTell (offered version comparing) (offered version offering)
    → IsAnswered version (offered_in version (unequal (bucket_list (offered version comparing))
    (bucket_list (offered version offering))) showing) asking giving after
    → HasAllSpoken version offering after

-- What a round says of a set is a frame: a HAVE, of all places or of some, where it has no more digests than are read,
-- and what a HAVE tells of some places, however many are held there; BUCKETS and DIFFER of any digests; and the WANT
-- that answers a HAVE that is a frame.
pub record RoundSaysFrames : Type 0 where
  pub offer : (version : Version) (m : Map) → HasDigests m → length (offered version m) ≤ MOST_DIGESTS
      → IsFrame (Have (offered version m))
  pub offer_in : (version : Version) (places : List ℕ) (m : Map) → HasDigests m
      → length (offered_in version places m) ≤ MOST_DIGESTS → IsFrame (Have (offered_in version places m))
  pub part : (version : Version) (places : List ℕ) (m : Map) → HasDigests m → IsFrame (Have (told_in version places m))
  pub buckets : (digests : List (List ℕ)) → IsFrame (Buckets (bucket_list digests))
  pub differ : (own theirs : List (List ℕ)) → IsFrame (Differ (unequal own theirs))
  pub want : (m : Map) (have : List (List ℕ)) → IsFrame (Have have) → IsFrame (Want (lacked m have))
