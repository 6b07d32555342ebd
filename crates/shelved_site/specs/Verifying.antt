-- What is told of operations of a log that are not those of their digests.
use Rattle.std.specs.Prelude.{◌≡◌, ◌⊎◌, ◌++◌, ℕ, List, [], ◌∷◌, length, Bool, true, false, IsTrue}
use Rattle.hex.specs.Hex.{encode_lower}
use Rattle.op_log.specs.Heads.{Head}
use Rattle.op_log.specs.Verified.{is_whole}
use Rattle.op_shelf.specs.declared.damaged.Damaged.{Damaged}
use Rattle.op_shelf.specs.Damage.{damage_by}

-- what is told of a head
abbrev pub damage_of : Head → Damaged
damage_of h = damage_by (encode_lower h.digest) h.front

-- a head has cause to be told: its data set is none of its own, or the disk failed to read
abbrev pub IsTold : List ℕ → Type 0 → Head → Type 0
IsTold file fails h = (is_whole file h ≡ false) ⊎ fails

-- of some heads those are told, in their order, whose data sets are none of theirs, and such that the disk failed to
-- read
abbrev pub AreTold : List ℕ → Type 0 → List Head → List Damaged → Type 0
AreTold file fails [] told = told ≡ []
AreTold file fails (h ∷ heads) told = (IsTrue (is_whole file h) × AreTold file fails heads told)
    ⊎ ((more : List Damaged) × (told ≡ damage_of h ∷ more) × IsTold file fails h × AreTold file fails heads more)

-- what a test of a head answers
abbrev pub IsTestedAs : List ℕ → Type 0 → Head → Bool → Type 0
IsTestedAs file fails h true = IsTrue (is_whole file h)
IsTestedAs file fails h false = IsTold file fails h

-- a head was tested, and is told behind others where it has cause to be
abbrev pub IsTestedOf : List ℕ → Type 0 → Head → List Damaged → List Damaged → Type 0
IsTestedOf file fails h old new = (IsTrue (is_whole file h) × (new ≡ old))
    ⊎ (IsTold file fails h × (new ≡ old ++ damage_of h ∷ []))

-- all operations were tested, so many, and those are told whose data sets are none of theirs, or that the disk failed
-- to read
pub record AreVerified (file : List ℕ) (fails : Type 0) (heads : List Head) (count : ℕ) (told : List Damaged) : Type 0 where
  pub counted : count ≡ length heads
  pub are : AreTold file fails heads told
