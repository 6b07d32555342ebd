-- Which of the digests that are held in the places of a DIFFER a HAVE has, where they are more than it may have.
use Rattle.std.specs.Prelude.{ℕ, ◌≤◌, ◌<◌, ◌⊎◌, ◌==◌, nat_lt, Bool, not, ◌&&◌, List, [], filter, length, take, get_or}
use Rattle.std.specs.Prelude.{if◌then◌else◌}
use Rattle.std.specs.List.{list_all, list_any}
use Rattle.site_state.specs.Site.{Map}
use Rattle.exchange_frames.specs.declared.reader.TheConstants.{MOST_DIGESTS}
use Rattle.exchange.specs.declared.version.Version.{Version}
use Rattle.exchange.specs.Held.{place_of, offered_in}

-- the first byte of the first digest that does not fit, of which so many do
abbrev pub place_behind : ℕ → List (List ℕ) → ℕ
place_behind most digests = place_of (get_or digests most [])

-- the digests that fit, without those of a place that does not fit whole
abbrev pub whole_places : ℕ → List (List ℕ) → List (List ℕ)
whole_places most digests = filter (λ d. not (place_of d == place_behind most digests)) (take most digests)

-- What a HAVE has of ascending digests, where it has so many at most: all, if they fit; else those of the first places
-- that fit whole; and of a first place that does not, the least.
unfoldable pub fitting : ℕ → List (List ℕ) → List (List ℕ)
fitting most digests =
    if nat_lt most (length digests) then (if length (whole_places most digests) == 0 then take most digests
    else whole_places most digests) else digests

-- The digests of a place are told whole: all digests fit, or the place comes before the first that does not.
abbrev pub IsWhole : ℕ → List (List ℕ) → ℕ → Type 0
IsWhole most digests place = (length digests ≤ most) ⊎ (place < place_behind most digests)

-- what a HAVE tells of what is held in some places
abbrev pub told_in : Version → List ℕ → Map → List (List ℕ)
told_in version places m = fitting MOST_DIGESTS (offered_in version places m)

-- whether a HAVE has all of some digests
abbrev pub do_fit : List (List ℕ) → Bool
do_fit digests = not (nat_lt MOST_DIGESTS (length digests))

-- whether a HAVE has a digest of a place
abbrev pub tells_of : List (List ℕ) → ℕ → Bool
tells_of have place = list_any (λ d. place_of d == place) have

-- Whether a HAVE that answers a DIFFER of these places is seen to have all: it has fewer digests than it may have, and
-- some of each place. One that has not all is full, or has none of the place that did not fit.
abbrev pub is_seen_whole : List ℕ → List (List ℕ) → Bool
is_seen_whole places have = nat_lt (length have) MOST_DIGESTS && list_all (tells_of have) places
