-- The walk from group to group.
use Rattle.std.proofs.Common.{◌≡◌, ◌+◌, ◌≤◌, ◌<◌, ◌∷◌, [], inl, inr, ℕ, List, length, sym, arith, subst, ap, refl}
use Rattle.sqlite_disk.specs.Disk.{Holds}
use Rattle.head_log.proofs.Texts.{behind, front}
use Rattle.older_heads.specs.Groups.{IsGroupAt, Laid, StandsFor}
use Rattle.older_heads.proofs.Texts.{long, said, sized, summed, same_group}
use Rattle.sha2.specs.Sha256.{sha256}
use Rattle.sha2.proofs.Facts256.{length-sha256}

-- groups do not lie backwards
pub laid_up : (file : List ℕ) (from : ℕ) (groups : List (List ℕ)) (end : ℕ) → Laid file from groups end → from ≤ end
laid_up file from [] end is = omega (arith, is)
laid_up file from (group ∷ groups) end (first, rest) =
    let more = laid_up file (from + 41 + length group) groups end rest in
    omega (arith, more)

-- at one offset stands one group
pub one_group : (file : List ℕ) (at : ℕ) (a b : List ℕ) → IsGroupAt file at a → IsGroupAt file at b → a ≡ b
one_group file at a b h k =
    let many = said file at (length b) a (omega (arith, k.short)) h.short h.text (sized file at b k.text) in
    let there = summed file at b k.text in
    let width = length-sha256 b in
    let place : at + 9 + length (sha256 b) ≡ at + 9 + 32 = omega (arith, width) in
    sym (same_group file (at + 9) (sha256 b) b a width many (front file (at + 9) (sha256 b) b there)
    (subst (λ (m : ℕ). Holds file m b) place (behind file (at + 9) (sha256 b) b there)) (summed file at a h.text)).1

-- and it is the first of those that lie from there
pub in_order : (file : List ℕ) (at end : ℕ) (groups : List (List ℕ)) (group : List ℕ) → Laid file at groups end
    → at < end
    → IsGroupAt file at group
    → (rest : List (List ℕ)) × (groups ≡ group ∷ rest) × Laid file (at + 41 + length group) rest end
in_order file at end [] group laid low it = absurd (omega (arith, laid, low))
in_order file at end (first ∷ rest) group (was, laid) low it =
    let same = one_group file at first group was it in (
      rest,
      ap (λ (g : List ℕ). g ∷ rest) same,
      subst (λ (g : List ℕ). Laid file (at + 41 + length g) rest end) same
          laid,
    )

-- none lies behind the last
pub no_more : (file : List ℕ) (at end : ℕ) (groups : List (List ℕ)) → Laid file at groups end → end ≤ at → groups ≡ []
no_more file at end [] laid low = refl
no_more file at end (first ∷ rest) (was, laid) low =
    let up = laid_up file (at + 41 + length first) rest end laid in
    absurd (omega (arith, up, low))

-- a file of eight bytes at most has none
pub none_short : (file : List ℕ) (groups : List (List ℕ)) → StandsFor file groups → length file ≤ 8 → groups ≡ []
none_short file groups (inr none) short = none.1
none_short file [] (inl ready) short = refl
none_short file (group ∷ groups) (inl ready) short =
    absurd (omega (arith, short, ready.1.laid.0.text.within, long group))
