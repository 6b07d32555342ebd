-- The digests that begin with a byte, and what is told of them.
use Rattle.std.specs.Prelude.{ℕ, ◌==◌, Bool, not, List, [], filter, map, get_or}
use Rattle.std.specs.List.{range_with_len}
use Rattle.sha2.specs.Sha256.{sha256}
use Rattle.octets.specs.Texts.{same}
use Rattle.exchange_frames.specs.declared.reader.TheConstants.{BUCKET_COUNT}
use Rattle.exchange_frames.specs.Spelling.{digests_text}
use Rattle.exchange.specs.Held.{place_of}

-- those of some digests that begin with a byte, one behind the other
abbrev pub bucket_text : ℕ → List (List ℕ) → List ℕ
bucket_text place digests = digests_text (filter (λ d. place_of d == place) digests)

-- SHA-256 of them (FIPS 180-4)
abbrev pub bucket_of : List (List ℕ) → ℕ → List ℕ
bucket_of digests place = sha256 (bucket_text place digests)

-- every first byte, ascending
abbrev pub places_from : ℕ → ℕ → List ℕ
places_from = range_with_len

-- for each first byte, what is told of the digests that begin with it
unfoldable pub bucket_list : List (List ℕ) → List (List ℕ)
bucket_list digests = map (bucket_of digests) (range_with_len 0 BUCKET_COUNT)

-- whether two lists of buckets are unequal in a place
abbrev pub is_unequal : List (List ℕ) → List (List ℕ) → ℕ → Bool
is_unequal own theirs place = not (same (get_or own place []) (get_or theirs place []))

-- the places in which two lists of buckets are unequal, ascending
unfoldable pub unequal : List (List ℕ) → List (List ℕ) → List ℕ
unequal own theirs = filter (is_unequal own theirs) (range_with_len 0 BUCKET_COUNT)
