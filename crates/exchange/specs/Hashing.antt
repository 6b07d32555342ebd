-- What the hashers of an exchange have hashed.
use Rattle.std.specs.Prelude.{◌≡◌, ℕ, ◌<◌, List, get_or, length}
use Rattle.sha2.specs.declared.Sha256.{Sha256}
use Rattle.sha2.specs.Hashers.{Holds256}
use Rattle.exchange_frames.specs.declared.reader.TheConstants.{BUCKET_COUNT}
use Rattle.exchange.specs.Buckets.{bucket_text}

-- each of so many hashers has hashed those of some digests that begin with the byte of its place
pub record AllHold (hashers : List Sha256) (digests : List (List ℕ)) : Type 0 where
  pub all : length hashers ≡ BUCKET_COUNT
  pub each : (place : ℕ) (other : Sha256) → place < BUCKET_COUNT → Holds256 (get_or hashers place other)
      (bucket_text place digests)
