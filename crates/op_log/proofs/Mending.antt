-- Operations that are put again.
use Rattle.std.proofs.Common.{◌≡◌, ◌<◌, ℕ, zero, suc, List, [], ◌∷◌, ◌++◌, length, Bool, true, false, cond, nat_eq, Some, None, IsTrue}
use Rattle.std.proofs.Common.{inl, inr, refl, sym, ◌∙◌, ap, subst, true≢false, arith}
use Rattle.std.specs.Cmp.Lexicographic.{pointwise, bytes_decides}
use Rattle.std.proofs.lemmas.Option.{same_Some as some_is}
use Rattle.sha2.specs.Sha256.{sha256}
use Rattle.sqlite_disk.specs.Disk.{Holds}
use Rattle.sqlite_disk.specs.declared.Disk.{Ghosts}
use Rattle.operation.specs.declared.op.Op.{Op}
use Rattle.operation.specs.Spelling.{hash_of}
use Rattle.op_log.specs.declared.kept.Kept.{Kept}
use Rattle.op_log.specs.declared.kept.Kept.TheVariants.{New, Known}
use Rattle.op_log.specs.Heads.{Head, body_of, front_of, head_of}
use Rattle.op_log.specs.Kept.{Has, HaveOwnDigests, LastCounts, SettledHaveOwn, first_under, settled, with_head, with_heads}
use Rattle.op_log.specs.Puts.{LeadsTo, Puts, PutsAll}
use Rattle.op_log.proofs.Lists.{one_body}
use Rattle.op_log.proofs.Settling.{first_with, same_bytes, with_joined}
use Rattle.op_log.proofs.Spellings.{both_parts}

-- none of these has the digest of an earlier one
abbrev Own : List Head → Type 0
Own [] = Unit {0}
Own (h ∷ heads) = (first_under h.digest heads ≡ None) × Own heads

-- so each is the first with its own
own_first : (heads : List Head) → Own heads → HaveOwnDigests heads
own_first [] own h (n, low, at) = absurd (omega (arith, low))
own_first (x ∷ heads) (none, own) h (zero, low, at) =
    subst (λ (k : Head). first_under k.digest (x ∷ heads) ≡ Some k) at
    (ap (λ (b : Bool). cond b (Some x) (first_under x.digest heads)) (same_bytes x.digest x.digest refl))
own_first (x ∷ heads) (none, own) h (suc n, low, at) =
    by (pointwise nat_eq h.digest x.digest) refl (own_first heads own h (n, omega (arith, low), at))
  where
    by : (b : Bool) → pointwise nat_eq h.digest x.digest ≡ b → first_under h.digest heads ≡ Some h
        → cond b (Some x) (first_under h.digest heads) ≡ Some h
    by true is there =
        let same = ap (λ (d : List ℕ). first_under d heads) ((bytes_decides h.digest x.digest).0 is) in
        let both : None ≡ Some h = sym none ∙ sym same ∙ there in
        absurd cc
    by false is there = there

-- with one more it stays so
own_with : (heads : List Head) (h : Head) → Own heads → Own (with_head heads h)
own_with [] h own = (refl, tt)
own_with (k ∷ heads) h (none, own) = by (own_with heads h own) (pointwise nat_eq h.digest k.digest) refl
  where
    apart : pointwise nat_eq h.digest k.digest ≡ false → (b : Bool) → pointwise nat_eq k.digest h.digest ≡ b → b ≡ false
    apart off true is = absurd (true≢false (sym (same_bytes h.digest k.digest (sym ((bytes_decides k.digest h.digest).0 is))) ∙ off))
    apart off false is = refl

    by : Own (with_head heads h) → (b : Bool) → pointwise nat_eq h.digest k.digest ≡ b → Own (cond b (h ∷ heads) (k ∷ with_head heads h))
    by later true is = (ap (λ (d : List ℕ). first_under d heads) ((bytes_decides h.digest k.digest).0 is) ∙ none, own)
    by later false is = (
      first_with heads h k.digest
          ∙ ap (λ (b : Bool). cond b (Some h) (first_under k.digest heads)) (apart is (pointwise nat_eq k.digest h.digest) refl) ∙ none,
      later,
    )

own_each : (old heads : List Head) → Own old → Own (with_heads old heads)
own_each old [] own = own
own_each old (h ∷ heads) own = own_each (with_head old h) heads (own_with old h own)

-- no two heads that settled have one digest
pub settled_own : SettledHaveOwn
settled_own heads = own_first (settled heads) (own_each [] heads tt)

-- and the last with a digest counts
pub last_counts : LastCounts
last_counts heads h =
    ap (first_under h.digest) (with_joined [] heads (h ∷ [])) ∙ first_with (settled heads) h h.digest
    ∙ ap (λ (b : Bool). cond b (Some h) (first_under h.digest (settled heads))) (same_bytes h.digest h.digest refl)

-- the bytes of an operation have its hash
whole : (op : Op) → sha256 (front_of op ++ body_of op) ≡ hash_of op
unfolding hash_of
whole op = ap sha256 (both_parts op)

module _ {B : Type 0} (g : Ghosts B) (disk : B) (end : ℕ) where
  -- a head that is of an operation whose data set lies there does not lead to other bytes
  pub not_torn : (op : Op) (at : ℕ) → (0 < length (body_of op) → Holds (g.seen disk) at (body_of op)) → LeadsTo g disk end (head_of (op, at)) false
      → ⊥
  not_torn op at held it =
      let body = one_body (g.seen disk) at it.body (body_of op) it.size (λ some. (it.lies some).0) held in
      let hash = ap (λ (b : List ℕ). sha256 (front_of op ++ b)) body ∙ whole op in
      let yes : pointwise nat_eq (sha256 (front_of op ++ it.body)) (hash_of op) ≡ true = same_bytes (sha256 (front_of op ++ it.body)) (hash_of op) hash in
      true≢false (sym yes ∙ it.is)

  -- what is there to be read is told as known
  pub there_is_known : (op : Op) (kept : Kept) (old new : List Head) → IsTrue (g.is_clean disk)
      → Has g disk end old op → Puts g disk end old op kept new → kept ≡ Known
  there_is_known op Known old new clean has put = refl
  there_is_known op New old new clean (at, first, held) (unread, put) =
      absurd (not_torn op at (λ some. (held some).0) ((unread (head_of (op, at)) first).1 clean))

  -- and what lies there but can't be read is told as new
  pub torn_is_new : (op : Op) (kept : Kept) (old new : List Head) (h : Head) → IsTrue (g.is_clean disk)
      → first_under (hash_of op) old ≡ Some h → LeadsTo g disk end h false → Puts g disk end old op kept new → kept ≡ New
  torn_is_new op New old new h clean first torn put = refl
  torn_is_new op Known old new h clean first torn (there, same) =
      let (at, found, lies) = there clean in
      let is : h ≡ head_of (op, at) = some_is _ _ (sym first ∙ found) in
      absurd (not_torn op at (λ some. (lies some).0) (subst (λ (k : Head). LeadsTo g disk end k false) is torn))

  -- what is there stays there through a put,
  pub keeps_one : (op other : Op) (kept : Kept) (old new : List Head) → IsTrue (g.is_clean disk)
      → Has g disk end old op → Puts g disk end old other kept new → Has g disk end new op
  keeps_one op other Known old new clean has (there, same) = subst (λ (hs : List Head). Has g disk end hs op) (sym same) has
  keeps_one op other New old new clean (at, first, held) (unread, (place, is, spelled, lies)) = (
    at,
    ap (first_under (hash_of op)) is ∙ first_with old (head_of (other, place)) (hash_of op)
        ∙ by (pointwise nat_eq (hash_of op) (hash_of other)) refl,
    held,
  )
    where
      by : (b : Bool) → pointwise nat_eq (hash_of op) (hash_of other) ≡ b
          → cond b (Some (head_of (other, place))) (first_under (hash_of op) old) ≡ Some (head_of (op, at))
      by true same =
          let keys = (bytes_decides (hash_of op) (hash_of other)).0 same in
          let here = ap (λ (d : List ℕ). first_under d old) (sym keys) ∙ first in
          absurd (not_torn op at (λ some. (held some).0) ((unread (head_of (op, at)) here).1 clean))
      by false apart = first

  -- and through all
  pub keeps_all : (op : Op) (ops : List Op) (kepts : List Kept) (old new : List Head) → IsTrue (g.is_clean disk)
      → Has g disk end old op → PutsAll g disk end old ops kepts new → Has g disk end new op
  keeps_all op [] [] old new clean has put = subst (λ (hs : List Head). Has g disk end hs op) (sym put) has
  keeps_all op [] (kept ∷ kepts) old new clean has put = absurd put
  keeps_all op (other ∷ ops) [] old new clean has put = absurd put
  keeps_all op (other ∷ ops) (kept ∷ kepts) old new clean has (mid, one, rest) =
      keeps_all op ops kepts mid new clean (keeps_one op other kept old mid clean has one) rest

  -- puts only take heads
  pub puts_heads : (ops : List Op) (kepts : List Kept) (old new : List Head) → PutsAll g disk end old ops kepts new
      → (more : List Head) × (new ≡ with_heads old more)
  puts_heads [] [] old new put = ([], put)
  puts_heads [] (kept ∷ kepts) old new put = absurd put
  puts_heads (op ∷ ops) [] old new put = absurd put
  puts_heads (op ∷ ops) (New ∷ kepts) old new (mid, (unread, (at, is, spelled, lies)), rest) =
      let (more, are) = puts_heads ops kepts mid new rest in
      (head_of (op, at) ∷ more, are ∙ ap (λ (hs : List Head). with_heads hs more) is)
  puts_heads (op ∷ ops) (Known ∷ kepts) old new (mid, (there, same), rest) =
      let (more, are) = puts_heads ops kepts mid new rest in
      (more, are ∙ ap (λ (hs : List Head). with_heads hs more) same)
