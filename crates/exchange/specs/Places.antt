-- Where the digests that begin with a byte lie among all.
use Rattle.std.specs.Prelude.{ℕ, ◌+◌, ◌==◌, List, ◌∷◌, replicate, if◌then◌else◌}
use Rattle.std.specs.declared.ops.Bound.{Bound}
use Rattle.std.specs.declared.ops.Bound.TheVariants.{Excluded, Unbounded}

-- the least digest that begins with a byte
abbrev pub front_at : ℕ → List ℕ
front_at place = place ∷ replicate 31 0

-- the digests of a byte end before the first of the next
abbrev pub end_at : ℕ → Bound (List ℕ)
end_at place = if place == 255 then Unbounded else Excluded (front_at (place + 1))
