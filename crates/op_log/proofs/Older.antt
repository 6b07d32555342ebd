-- Where the groups of an older file end.
use Rattle.std.proofs.Common.{◌≡◌, ◌+◌, [], ◌∷◌, ℕ, List, length, sym, ◌∙◌}
use Rattle.older_heads.specs.Groups.{Laid}

-- the same groups end at one offset
pub one_end : (file : List ℕ) (at : ℕ) (groups : List (List ℕ)) (end last : ℕ) → Laid file at groups end
    → Laid file at groups last → end ≡ last
one_end file at [] end last laid other = sym laid ∙ other
one_end file at (group ∷ groups) end last (first, rest) (here, behind) =
    one_end file (at + 41 + length group) groups end last rest behind
