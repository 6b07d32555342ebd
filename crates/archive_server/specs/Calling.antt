-- How a peer is called again and again, and how a thread goes on as long as somebody serves.
use Rattle.std.specs.Prelude.{◌≡◌, ℕ, zero, suc, Bool, true, false, List, [], ◌∷◌, ◌++◌, Option, Some, None}
use Rattle.std.specs.List.{flat_map}
use Rattle.std.specs.declared.time.Duration.{Duration}

-- What is done with a peer: it is called; or so long is waited at most, and then somebody serves or nobody.
pub data Turn : Type 0 where
  Calls : Turn
  Waits : Duration → Bool → Turn

-- These turns were taken behind the others. Where they are not kept nothing is said.
abbrev pub Went : Option (List Turn) → Option (List Turn) → List Turn → Type 0
Went None after turns = after ≡ None
Went (Some before) after turns = after ≡ Some (before ++ turns)

-- a call, and a wait of so long behind it, at whose end somebody serves or nobody
abbrev pub round : Duration → Bool → List Turn
round every serves = Calls ∷ (Waits every serves ∷ [])

-- so many, at the end of each of which somebody serves
abbrev pub rounds : Duration → ℕ → List Turn
rounds every zero = []
rounds every (suc count) = rounds every count ++ round every true

-- Whatever came of a call, so long is waited behind it at most, and then the peer is called again, as long as somebody serves.
abbrev pub CallsAgain : Duration → Option (List Turn) → Option (List Turn) → Type 0
CallsAgain every before after = (calls : ℕ) × Went before after (rounds every calls ++ round every false)

-- a wait of so long, at whose end somebody serves
abbrev pub wait_on : Duration → List Turn
wait_on time = Waits time true ∷ []

-- It went on, whatever was waited each time, until nobody served any more.
abbrev pub GoesOnWhileServed : Option (List Turn) → Option (List Turn) → Type 0
GoesOnWhileServed before after = (times : List Duration) × (last : Duration)
    × Went before after (flat_map wait_on times ++ Waits last false ∷ [])
