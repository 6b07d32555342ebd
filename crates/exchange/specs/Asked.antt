-- Digests that were asked for, with whether each was given, and where one of them stands.
use Rattle.std.specs.Prelude.{◌≡◌, ℕ, suc, Bool, true, List, [], ◌∷◌, length, Option, Some, None}
use Rattle.std.specs.Prelude.{if◌then◌else◌}
use Rattle.std.specs.Option.{option_map}
use Rattle.std.specs.BTreeMap.{is_at}
use Rattle.octets.specs.Texts.{text_cmp}
use Rattle.exchange_frames.specs.Spelling.{ascends}

-- each digest with whether its operation was given
abbrev pub asked_of : List (List ℕ) → List Bool → List (List ℕ × Bool)
asked_of [] given = []
asked_of (d ∷ ds) [] = []
asked_of (d ∷ ds) (g ∷ gs) = (d, g) ∷ asked_of ds gs

-- the first place of a digest among some
abbrev pub place_in : List ℕ → List (List ℕ) → Option ℕ
place_in digest [] = None
place_in digest (d ∷ ds) = if is_at (text_cmp d) digest then Some 0 else option_map (λ i. suc i) (place_in digest ds)

-- what is told of each digest, and whether they ascend
pub record AreAsked (digests : List (List ℕ)) (given : List Bool) (rises : Bool) : Type 0 where
  pub each : length given ≡ length digests
  pub ascending : rises ≡ true → ascends text_cmp digests ≡ true
