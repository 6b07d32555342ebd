-- What a round comes to whose steps lie in a run, with whatever steps between them.
use Rattle.std.specs.Prelude.{◌≡◌, ◌⊎◌, ℕ, suc, List, [], ◌∷◌, Some, Ok, Result, ⊤, drop}
use Rattle.std.specs.List.{slice_get}
use Rattle.octets.specs.Members.{Has}
use Rattle.operation.specs.declared.taken.Taken.{Taken}
use Rattle.site_state.specs.Site.{Map, IsSite}
use Rattle.site_state.specs.Union.{Agree}
use Rattle.site_state.specs.Laws.{holding}
use Rattle.exchange.specs.Held.{offered}
use Rattle.exchange.specs.Laws.{HasAllSpoken, BucketsTell}
use Rattle.site_world.specs.declared.fault.WorldFault.{WorldFault}
use Rattle.site_world.specs.declared.step.Step.{Step}
use Rattle.site_world.specs.declared.step.Step.TheVariants.{Offer, Buckets, Deliver}
use Rattle.site_world.specs.declared.message.Message.{Message}
use Rattle.site_world.specs.declared.step.Seen.{Seen}
use Rattle.site_world.specs.declared.step.Seen.TheVariants.{Took, Offered, Wanted, Gave, Differs, Has as has_told}
use Rattle.site_world.specs.Messages.{WorldState, version_between}
use Rattle.site_world.specs.Steps.{site_at}
use Rattle.site_world.specs.Runs.{Run, taken_before}

-- Among some steps and their answers stands this step with this answer, and what stands behind it is so.
abbrev pub Somewhere
    : List Step → List (Result Seen WorldFault) → Step → Seen
    → (List Step → List (Result Seen WorldFault) → Type 0) → Type 0
Somewhere [] answers step seen Behind = ⊥
Somewhere (s ∷ steps) [] step seen Behind = ⊥
Somewhere (s ∷ steps) (a ∷ answers) step seen Behind =
    ((s ≡ step) × (a ≡ Ok seen) × Behind steps answers) ⊎ Somewhere steps answers step seen Behind

-- each message of these numbers was delivered, and what it gives was taken
abbrev pub AreTaken : List ℕ → List Step → List (Result Seen WorldFault) → Type 0
AreTaken gifts steps answers =
    (gift : ℕ) → Has gifts gift → (taken : Taken) × Somewhere steps answers (Deliver gift) (Took taken) (λ _ _. ⊤)

-- The HAVE of this number was delivered, behind that the WANT that was sent then, and behind that every GIVE that was
-- sent then; each was answered Ok.
abbrev pub IsFinished : ℕ → List Step → List (Result Seen WorldFault) → Type 0
IsFinished have steps answers =
    (want : ℕ) × (gifts : List ℕ) × Somewhere steps answers (Deliver have) (Wanted want)
    (λ rest others. Somewhere rest others (Deliver want) (Gave gifts) (AreTaken gifts))

-- After a finished round the second site holds all that the first held at its offer, of what both speak of, if under
-- one digest both hold one operation. A run from any moment of a run is a run: so it holds of a round anywhere.
abbrev pub RoundsGiveAll : Type 0
RoundsGiveAll =
    (w new : WorldState) (a b have : ℕ) (steps : List Step) (answers : List (Result Seen WorldFault)) (m n : Map)
    → Run w (Offer a b ∷ steps) (Ok (Offered have) ∷ answers) new → IsFinished have steps answers
    → site_at w.sites a ≡ Some m → site_at new.sites b ≡ Some n → IsSite m → Agree m n
    → HasAllSpoken (version_between w.aged a b) m n

-- Of some steps step k is this one, with this answer, and what stands behind it is so.
abbrev pub AtStep
    : ℕ → List Step → List (Result Seen WorldFault) → Step → Seen
    → (List Step → List (Result Seen WorldFault) → Type 0) → Type 0
AtStep k steps answers step seen Behind =
    (slice_get steps k ≡ Some step) × (slice_get answers k ≡ Some (Ok seen))
    × Behind (drop (suc k) steps) (drop (suc k) answers)

-- The BUCKETS of this number was delivered by step k, behind that the DIFFER that was sent then, and behind that the
-- HAVE that was sent then was finished.
abbrev pub IsFinishedByBuckets : ℕ → ℕ → List Step → List (Result Seen WorldFault) → Type 0
IsFinishedByBuckets k buckets steps answers =
    (differ : ℕ) × (have : ℕ) × AtStep k steps answers (Deliver buckets) (Differs differ)
    (λ rest others. Somewhere rest others (Deliver differ) (has_told have) (IsFinished have))

-- what a site that held this holds before step i of a run
abbrev pub holding_before : List Message → Map → ℕ → ℕ → List Step → List (Result Seen WorldFault) → Map
holding_before sent m i n steps answers = holding m (taken_before sent i n steps answers)

-- So it does where BUCKETS was sent first, which then is the offer, if the two sets that were compared have unequal
-- buckets where their digests are unequal: what the second site held at the delivery of the BUCKETS, and what the first
-- held at its offer.
abbrev pub RoundsByBucketsGiveAll : Type 0
RoundsByBucketsGiveAll =
    (w new : WorldState) (a b buckets k : ℕ) (steps : List Step) (answers : List (Result Seen WorldFault))
    (m was n : Map)
    → Run w (Buckets a b ∷ steps) (Ok (Offered buckets) ∷ answers) new → IsFinishedByBuckets k buckets steps answers
    → site_at w.sites a ≡ Some m → site_at w.sites b ≡ Some was → site_at new.sites b ≡ Some n → IsSite m → Agree m n
    → BucketsTell (offered (version_between w.aged a b) (holding_before new.sent was (suc k) b (Buckets a b ∷ steps)
    (Ok (Offered buckets) ∷ answers))) (offered (version_between w.aged a b) m)
    → HasAllSpoken (version_between w.aged a b) m n
