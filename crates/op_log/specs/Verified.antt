-- Which data sets are those of their operations.
use Rattle.std.specs.Prelude.{Bool, not, ℕ, List, ◌++◌, take, drop, filter, map, nat_eq}
use Rattle.std.specs.Cmp.Lexicographic.{pointwise}
use Rattle.sha2.specs.Sha256.{sha256}
use Rattle.op_log.specs.Heads.{Head}

-- the bytes of a file that a head leads to
abbrev pub bytes_of : List ℕ → Head → List ℕ
bytes_of file h = take h.size (drop h.at file)

-- the front and these bytes have the digest
abbrev pub is_whole : List ℕ → Head → Bool
is_whole file h = pointwise nat_eq (sha256 (h.front ++ bytes_of file h)) h.digest

-- the heads whose data sets do not
abbrev pub damaged_in : List ℕ → List Head → List Head
damaged_in file heads = filter (λ h. not (is_whole file h)) heads

-- the digests of heads
abbrev pub digests_of : List Head → List (List ℕ)
digests_of = map (λ h. h.digest)
