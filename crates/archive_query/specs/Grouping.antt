-- What stands under each key of a list, by ascending key.
use Rattle.std.specs.Prelude.{◌≡◌, ◌<◌, ◌≤◌, length, take, drop, false, ℕ, ◌+◌, List, [], ◌∷◌, Bool, map, if◌then◌else◌}
use Rattle.std.specs.List.{filter}
use Rattle.std.specs.Ordering.{is_gt}
use Rattle.archive_model.specs.Texts.{same, text_cmp, ascending}

-- those of a key
abbrev pub under : {X : Type 0} → (X → List ℕ) → List ℕ → List X → List X
under key k xs = filter (λ x. same (key x) k) xs

-- those of each key, by ascending key
abbrev pub groups_by : {X : Type 0} → (X → List ℕ) → List X → List (List X)
groups_by key xs = map (λ k. under key k xs) (ascending (map key xs))

-- how many elements stand at the front that pass a test
abbrev pub leading : {X : Type 0} → (X → Bool) → List X → ℕ
leading test [] = 0
leading test (x ∷ xs) = if test x then leading test xs + 1 else 0

-- no key is above the next
abbrev pub Ascends : {X : Type 0} → (X → List ℕ) → List X → Type 0
Ascends key [] = Unit {0}
Ascends key (x ∷ []) = Unit {0}
Ascends key (x ∷ y ∷ xs) = (is_gt (text_cmp (key x) (key y)) ≡ false) × Ascends key (y ∷ xs)

-- a run is what stands at the front of a sorted list with one key: it is the first group
pub record IsRun {X : Type 0} (key : X → List ℕ) (run xs : List X) : Type 0 where
  pub some : 0 < length run
  pub front : run ≡ take (length run) xs
  pub within : length run ≤ length xs
  pub group : groups_by key xs ≡ run ∷ groups_by key (drop (length run) xs)
  pub up : Ascends key (drop (length run) xs)
