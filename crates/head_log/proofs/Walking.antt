-- The walk from group to group.
use Rattle.std.proofs.Common.{◌≡◌, ◌+◌, ◌≤◌, ◌<◌, ◌∷◌, [], ℕ, List, length, sym, arith, subst, ap, refl}
use Rattle.sqlite_disk.specs.Disk.{Holds}
use Rattle.head_log.specs.declared.gate.Gate.{Gate}
use Rattle.head_log.specs.Groups.{IsGroupAt, Laid, gate_after, sum_of}
use Rattle.head_log.proofs.Laying.{laid_up}
use Rattle.head_log.proofs.Texts.{said, sized, summed, same_group, front, behind, wide}

-- at one gate stands one group
pub one_group : (file : List ℕ) (gate : Gate) (a b : List ℕ) → IsGroupAt file gate a → IsGroupAt file gate b → a ≡ b
one_group file gate a b h k =
    let at = gate.at in
    let prior = gate.prior in
    let sum = sum_of prior b in
    let many = said file at (length b) prior a (omega (arith, k.short)) h.short h.text (sized file at prior b k.text) in
    let there = summed file at prior b k.text in
    let place : at + 16 + length sum ≡ at + 16 + 32 = omega (arith, wide prior b) in
    let rest = subst (λ (m : ℕ). Holds file m b) place (behind file (at + 16) sum b there) in
    sym (same_group file (at + 16) sum b prior a (wide prior b) many (front file (at + 16) sum b there) rest
    (summed file at prior a h.text)).1

-- and it is the first of those that lie from there
pub in_order : (file : List ℕ) (gate end : Gate) (groups : List (List ℕ)) (group : List ℕ) → Laid file gate groups end
    → gate.at < end.at → IsGroupAt file gate group
    → (rest : List (List ℕ)) × (groups ≡ group ∷ rest) × Laid file (gate_after gate group) rest end
in_order file gate end [] group laid low it =
    let same = ap (λ (g : Gate). g.at) laid in
    absurd (omega (arith, same, low))
in_order file gate end (first ∷ rest) group (was, laid) low it =
    let same = one_group file gate first group was it in (
      rest,
      ap (λ (g : List ℕ). g ∷ rest) same,
      subst (λ (g : List ℕ). Laid file (gate_after gate g) rest end) same laid,
    )

-- none lies behind the last
pub no_more : (file : List ℕ) (gate end : Gate) (groups : List (List ℕ)) → Laid file gate groups end
    → end.at ≤ gate.at → groups ≡ []
no_more file gate end [] laid low = refl
no_more file gate end (first ∷ rest) (was, laid) low =
    let up = laid_up file (gate_after gate first) rest end laid in
    absurd (omega (arith, up, low))
