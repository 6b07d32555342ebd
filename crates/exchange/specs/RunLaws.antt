-- What an exchange comes to, in the frames that were heard and said.
use Rattle.std.specs.Prelude.{◌≡◌, ◌⊎◌, ◌<◌, ℕ, List, [], Some, true, ◌↔◌}
use Rattle.octets.specs.Members.{Has}
use Rattle.operation.specs.declared.op.Op.{Op}
use Rattle.operation.specs.Spelling.{digest_of}
use Rattle.site_state.specs.Site.{Map, held_at}
use Rattle.exchange_frames.specs.declared.frame.Frame.{Frame}
use Rattle.exchange_frames.specs.declared.frame.Frame.TheVariants.{Have, Want, Give, Buckets, Differ}
use Rattle.exchange.specs.declared.version.Version.{Version}
use Rattle.records.specs.StandIn.{op_in}
use Rattle.exchange.specs.Held.{offered, place_of, is_in, HasGrown, WasHad}
use Rattle.exchange.specs.Buckets.{bucket_list, unequal}
use Rattle.exchange.specs.Parts.{is_seen_whole}
use Rattle.exchange.specs.Laws.{BucketsTell}
use Rattle.exchange.specs.Round.{IsFinished}
use Rattle.exchange.specs.declared.side.Side.{Side}

-- A WANT that was said has this digest.
abbrev pub WasAsked : List Frame → List ℕ → Type 0
WasAsked told digest = (want : List (List ℕ)) × Has told (Want want) × Has want digest

-- A GIVE that was heard has the operation of this digest.
abbrev pub WasGiven : List Frame → List ℕ → Type 0
WasGiven heard digest = (op : Op) × Has heard (Give op) × (digest ≡ digest_of op)

-- Every digest that was asked for was given.
abbrev pub IsGivenAll : List Frame → List Frame → Type 0
IsGivenAll heard told = (digest : List ℕ) → WasAsked told digest → WasGiven heard digest

-- something is held under a digest
abbrev pub IsHeld : Map → List ℕ → Type 0
IsHeld m digest = (op : Op) × (held_at m digest ≡ Some op)

abbrev pub HoldsAll : Map → List (List ℕ) → Type 0
HoldsAll m digests = (digest : List ℕ) → Has digests digest → IsHeld m digest

-- Every digest of each HAVE that was heard is held.
abbrev pub HoldsWhatWasOffered : Map → List Frame → Type 0
HoldsWhatWasOffered m heard = (have : List (List ℕ)) → Has heard (Have have) → HoldsAll m have

-- A HAVE that was heard has this digest.
abbrev pub IsOffered : List Frame → List ℕ → Type 0
IsOffered heard digest = (have : List (List ℕ)) × Has heard (Have have) × Has have digest

-- the places in which a set has other buckets than some digests
abbrev pub differing : Version → Map → List (List ℕ) → List ℕ
differing version m theirs = unequal (bucket_list (offered version m)) (bucket_list theirs)

-- The set that a side compared with BUCKETS of some digests: its holder had it, and DIFFER was said of the places in
-- which it has other buckets. A holder that nobody else changes had it as the exchange began.
pub record WasCompared {H : Type 0} (holds : H → Map) (alone : H → Type 0) (version : Version)
    (theirs : List (List ℕ)) (before : H) (told : List Frame) (after : H) (compared : Map) : Type 0 where
  pub had : WasHad (holds before) compared (holds after)
  pub said : Has told (Differ (differing version compared theirs))
  pub at_begin : alone before → compared ≡ holds before

-- Where the BUCKETS that were heard are those of a set of digests, a set was compared with them. Where all that was
-- asked for was given, each of these digests is held that was offered if it lies in the places of the DIFFER, if
-- unequal digests of a place have unequal buckets in these two. So the whole set is held where a HAVE has all of it
-- in these places.
abbrev pub HoldsWhatWasShown
    : {H : Type 0} → (H → Map) → (H → Type 0) → Version → Type 0 → H → List Frame → List Frame → H → Type 0
HoldsWhatWasShown holds alone version finished before heard told after =
    (theirs : List (List ℕ)) → Has heard (Buckets (bucket_list theirs))
    → (compared : Map) × WasCompared holds alone version theirs before told after compared
    × (finished → BucketsTell (offered version compared) theirs → (digest : List ℕ) → Has theirs digest
    → place_of digest < 256 → (is_in (differing version compared theirs) digest ≡ true → IsOffered heard digest)
    → IsHeld (holds after) digest)

-- Each DIFFER among some frames is of no place.
abbrev pub NoneDiffers : List Frame → Type 0
NoneDiffers frames = (places : List ℕ) → Has frames (Differ places) → places ≡ []

-- No place differed: neither of the lists of buckets that this side compared, nor of those that the peer did.
pub record NoPlaceDiffers (heard told : List Frame) : Type 0 where
  pub here : NoneDiffers told
  pub there : NoneDiffers heard

-- Each HAVE that was heard is seen to have all that is held in the places of a DIFFER that was said.
abbrev pub AreSeenWhole : List Frame → List Frame → Type 0
AreSeenWhole heard told =
    (places : List ℕ) (have : List (List ℕ)) → Has told (Differ places) → Has heard (Have have)
    → is_seen_whole places have ≡ true

-- This stands for an operation of this digest, of which a GIVE was heard, and which was asked for.
abbrev pub StandsForGiven : List Frame → List Frame → List ℕ → Op → Type 0
StandsForGiven heard told digest held =
    (op : Op) × Has heard (Give op) × WasAsked told digest × (digest_of op ≡ digest) × (op_in op ≡ held)

-- What a holder has gained, which nobody else changes, stands for an operation that was given, and was asked for.
abbrev pub GainsOnlyGiven : Map → List Frame → List Frame → Map → Type 0
GainsOnlyGiven before heard told after =
    (digest : List ℕ) (held : Op) → held_at after digest ≡ Some held
    → (held_at before digest ≡ Some held) ⊎ StandsForGiven heard told digest held

-- what frames that were heard and said come to
pub record Outcome {H : Type 0} (holds : H → Map) (alone : H → Type 0) (before : H) (heard told : List Frame)
    (side : Side) (after : H) : Type 0 where
  pub grown : HasGrown (holds before) (holds after)
  pub only : alone before → GainsOnlyGiven (holds before) heard told (holds after)
  pub given : (op : Op) → Has heard (Give op) → held_at (holds after) (digest_of op) ≡ Some (op_in op)
  pub finished : IsFinished side.round ↔ IsGivenAll heard told
  pub have : IsFinished side.round → HoldsWhatWasOffered (holds after) heard
  pub shown : HoldsWhatWasShown holds alone side.round.version (IsFinished side.round) before heard told after
