-- What puts make of the operations that a log has.
use Rattle.std.proofs.Common.{◌≡◌, ◌⊎◌, inl, inr, ◌↔◌, ◌+◌, ◌<◌, ◌≤◌, ℕ, List, [], ◌∷◌, ◌++◌, Bool, true, false, cond}
use Rattle.std.proofs.Common.{nat_eq, Option, Some, None, All, IsTrue, length, map, refl, sym, ◌∙◌, ap, subst, arith}
use Rattle.std.specs.Cmp.Lexicographic.{pointwise}
use Rattle.std.proofs.lemmas.List.Elements.{All-nil, All-cons}
use Rattle.sqlite_disk.specs.Disk.{Holds}
use Rattle.sqlite_disk.specs.declared.Disk.{Ghosts}
use Rattle.head_log.proofs.Texts.{once}
use Rattle.operation.specs.declared.op.Op.{Op}
use Rattle.operation.specs.Spelling.{hash_of, spelling}
use Rattle.op_log.specs.declared.kept.Kept.{Kept as Told}
use Rattle.op_log.specs.declared.kept.Kept.TheVariants as told
use Rattle.op_log.specs.Heads.{Head, body_of, front_of, head_of}
use Rattle.op_log.specs.Kept.{Has, IsHeld, first_under, with_head}
use Rattle.op_log.specs.Puts.{IsUnread, Puts, PutsAll}
use Rattle.op_log.proofs.Mending.{keeps_all, keeps_one, not_torn}
use Rattle.op_log.proofs.Settling.{first_with, same_bytes}
use Rattle.op_shelf.specs.Keep.{GainsAll, with_one}
use Rattle.shelved_site.specs.Telling.{kept_of}
use Rattle.op_log.proofs.Spellings.{both_parts}
use Rattle.shelved_site.proofs.Holding.{one_digest}

module _ {B : Type 0} (g : Ghosts B) (disk : B) (end : ℕ) where
  -- heads, and the data sets in a file, have an operation that is spelled so
  abbrev pub Have : List Head → Op → Type 0
  Have heads other = (op : Op) × Has g disk end heads op × (spelling other ≡ spelling op)

  abbrev pub IsOf : (Op → Type 0) → List Head → Type 0
  IsOf held heads = (other : Op) → held other ↔ Have heads other

  -- two data sets at one place are one
  one_body : (a b : Op) (at : ℕ) → length (body_of a) ≡ length (body_of b) → IsHeld g disk end (a, at) → IsHeld g disk end (b, at)
      → body_of a ≡ body_of b
  one_body a b at many held held' = by (body_of a) (body_of b) many held held'
    where
      by : (xs ys : List ℕ) → length xs ≡ length ys → (0 < length xs → Holds (g.seen disk) at xs × (at + length xs ≤ end))
          → (0 < length ys → Holds (g.seen disk) at ys × (at + length ys ≤ end)) → xs ≡ ys
      by [] [] many h k = refl
      by [] (y ∷ ys) many h k = absurd (omega (arith, many))
      by (x ∷ xs) [] many h k = absurd (omega (arith, many))
      by (x ∷ xs) (y ∷ ys) many h k = once (g.seen disk) at (x ∷ xs) (y ∷ ys) many (h (omega arith)).0 (k (omega arith)).0

  -- operations of one head are spelled alike
  pub one_spelling : (a b : Op) (at at' : ℕ) → head_of (a, at) ≡ head_of (b, at') → IsHeld g disk end (a, at) → IsHeld g disk end (b, at')
      → spelling a ≡ spelling b
  one_spelling a b at at' same held held' =
      let fronts : front_of a ≡ front_of b = ap (λ (h : Head). h.front) same in
      let places : at ≡ at' = ap (λ (h : Head). h.at) same in
      let sizes : length (body_of a) ≡ length (body_of b) = ap (λ (h : Head). h.size) same in
      let bodies = one_body a b at sizes held (subst (λ (n : ℕ). IsHeld g disk end (b, n)) (sym places) held') in
      sym (both_parts a) ∙ ap (λ (text : List ℕ). text ++ body_of a) fronts ∙ ap (λ (text : List ℕ). front_of b ++ text) bodies ∙ both_parts b

  -- an operation that is not to be read under its digest is not had
  pub absent : (heads : List Head) (op : Op) → IsTrue (g.is_clean disk) → IsUnread g disk end (hash_of op) (front_of op) heads → ¬ Have heads op
  absent heads op clean unread (other, (at, first, held), same) =
      let found = ap (λ (d : List ℕ). first_under d heads) (one_digest op other same) ∙ first in
      not_torn g disk end other at (λ some. (held some).0) ((unread (head_of (other, at)) found).1 clean)

  -- what is had once a head is there is that of it, or was had
  behind : (held : Op → Type 0) (heads : List Head) (op other : Op) (at : ℕ) → IsOf held heads → IsHeld g disk end (op, at)
      → Have (with_head heads (head_of (op, at))) other → held other ⊎ (spelling other ≡ spelling op)
  behind held heads op other at is lies (it, (at', first, lies'), same) =
      by (pointwise nat_eq (hash_of it) (hash_of op)) (sym (first_with heads (head_of (op, at)) (hash_of it)) ∙ first)
    where
      by : (b : Bool) → cond b (Some (head_of (op, at))) (first_under (hash_of it) heads) ≡ Some (head_of (it, at'))
          → held other ⊎ (spelling other ≡ spelling op)
      by true here =
          let heads_are : head_of (op, at) ≡ head_of (it, at') = cc in
          inr (same ∙ sym (one_spelling op it at at' heads_are lies lies'))
      by false there = inl ((is other).1 (it, (at', there, lies'), same))

  -- an operation whose head is there is had
  had_now : (heads mid : List Head) (op : Op) (at : ℕ) → mid ≡ with_head heads (head_of (op, at)) → IsHeld g disk end (op, at)
      → Has g disk end mid op
  had_now heads mid op at is lies = (
    at,
    ap (first_under (hash_of op)) is ∙ first_with heads (head_of (op, at)) (hash_of op)
        ∙ ap (λ (b : Bool). cond b (Some (head_of (op, at))) (first_under (hash_of op) heads)) (same_bytes (hash_of op) (hash_of op) refl),
    lies,
  )

  -- one operation more
  more_of : (held : Op → Type 0) (heads mid : List Head) (op : Op) → IsTrue (g.is_clean disk) → IsOf held heads
      → Puts g disk end heads op told.New mid → IsOf (with_one held op) mid
  more_of held heads mid op clean is (unread, (at, mid_is, spelled, lies)) other = (
    elim [
      | inl was ↦
          let it = (is other).0 was in
          (it.0, keeps_one g disk end it.0 op told.New heads mid clean it.1 (unread, (at, mid_is, spelled, lies)), it.2)
      | inr alike ↦ (op, had_now heads mid op at mid_is lies, alike)
    ],
    λ have. behind held heads op other at is lies (subst (λ (hs : List Head). Have hs other) mid_is have),
  )

  -- what the puts of a group make of the operations
  pub gains_in : (held : Op → Type 0) (heads new : List Head) (ops : List Op) (kepts : List Told) → IsTrue (g.is_clean disk)
      → IsOf held heads → PutsAll g disk end heads ops kepts new → GainsAll held (Have new) ops (map kept_of kepts)
  gains_in held heads new [] [] clean is put = λ other. (
    λ was. subst (λ (hs : List Head). Have hs other) (sym put) ((is other).0 was),
    λ there. (is other).1 (subst (λ (hs : List Head). Have hs other) put there),
  )
  gains_in held heads new [] (kept ∷ kepts) clean is put = absurd put
  gains_in held heads new (op ∷ ops) [] clean is put = absurd put
  gains_in held heads new (op ∷ ops) (told.New ∷ kepts) clean is (mid, (unread, there), rest) = (
    λ was. absent heads op clean unread ((is op).0 was),
    gains_in (with_one held op) mid new ops kepts clean (more_of held heads mid op clean is (unread, there)) rest,
  )
  gains_in held heads new (op ∷ ops) (told.Known ∷ kepts) clean is (mid, (there, same), rest) = (
    (is op).1 (op, there clean, refl),
    gains_in held mid new ops kepts clean (subst (λ (hs : List Head). IsOf held hs) (sym same) is) rest,
  )

  -- and each operation of the group is had
  pub puts_had : (old new : List Head) (ops : List Op) (kepts : List Told) → IsTrue (g.is_clean disk) → PutsAll g disk end old ops kepts new
      → All (Has g disk end new) ops
  puts_had old new [] [] clean put = All-nil (Has g disk end new)
  puts_had old new [] (kept ∷ kepts) clean put = absurd put
  puts_had old new (op ∷ ops) [] clean put = absurd put
  puts_had old new (op ∷ ops) (told.New ∷ kepts) clean (mid, (unread, (at, mid_is, spelled, lies)), rest) =
      All-cons (Has g disk end new) op ops (keeps_all g disk end op ops kepts mid new clean (had_now old mid op at mid_is lies) rest)
      (puts_had mid new ops kepts clean rest)
  puts_had old new (op ∷ ops) (told.Known ∷ kepts) clean (mid, (there, same), rest) =
      let has = subst (λ (hs : List Head). Has g disk end hs op) (sym same) (there clean) in
      All-cons (Has g disk end new) op ops (keeps_all g disk end op ops kepts mid new clean has rest) (puts_had mid new ops kepts clean rest)

  -- each is told of
  pub same_length : (old new : List Head) (ops : List Op) (kepts : List Told) → PutsAll g disk end old ops kepts new → length kepts ≡ length ops
  same_length old new [] [] put = refl
  same_length old new [] (kept ∷ kepts) put = absurd put
  same_length old new (op ∷ ops) [] put = absurd put
  same_length old new (op ∷ ops) (kept ∷ kepts) (mid, first, rest) = omega (arith, same_length mid new ops kepts rest)
