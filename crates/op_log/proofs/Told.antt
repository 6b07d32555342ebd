-- What is told of operations.
use Rattle.std.proofs.Common.{◌≡◌, ◌<◌, ℕ, zero, suc, List, [], ◌∷◌, length, get_or, inl, inr, refl, sym, ◌∙◌, ap, subst, arith}
use Rattle.std.proofs.Common.{Contains}
use Rattle.std.proofs.lemmas.Option.{same_Some as some_is}
use Rattle.octets.specs.Members.{Has}
use Rattle.operation.specs.Parts.{ContentParts}
use Rattle.operation.specs.declared.op.Op.{Op}
use Rattle.operation.specs.declared.op.Op.TheVariants.{Content as a_content}
use Rattle.operation.specs.Spelling.{digest_of, hash_of}
use Rattle.operation.proofs.DigestLaws.{own_digest}
use Rattle.records.specs.StandIn.{op_in}
use Rattle.records.proofs.StandInLaws.{digest_kept}
use Rattle.op_log.specs.Heads.{Head}
use Rattle.op_log.specs.Kept.{HaveOwnDigests, first_under}
use Rattle.op_log.specs.Loaded.{IsOf, Lists}
use Rattle.op_log.specs.Recorded.{IsRecordedAs}
use Rattle.op_log.specs.Told.{OwnTellTrue, RecordsTellTrue, ToldStands}
use Rattle.op_log.proofs.Lists.{one_op}

-- what stands at an index is a member
pub has_at : {X : Type 0} (xs : List X) (i : ℕ) (d : X) → i < length xs → Has xs (get_or xs i d)
has_at [] i d low = absurd (omega (arith, low))
has_at (x ∷ xs) zero d low = inl refl
has_at (x ∷ xs) (suc i) d low = inr (has_at xs i d (omega (arith, low)))

-- what was read or truly told for a head stands for its operation
one_stands : (file : List ℕ) (told : List ContentParts) (h : Head) (r op : Op)
    → ((c : ContentParts) → Has told c → hash_of op ≡ digest_of (a_content c) → a_content c ≡ op_in op)
    → IsOf file h op → IsRecordedAs file told h r → r ≡ op_in op
one_stands file told h r op is_true it (inl (other, of, stands)) = stands ∙ ap op_in (one_op file h other op of it)
one_stands file told h r op is_true it (inr (c, among, stands, named)) =
    stands ∙ is_true c among (sym (ap (λ (k : Head). k.digest) it.head) ∙ sym named ∙ ap digest_of stands)

-- and so for all
pub told_stands : ToldStands
told_stands file told [] [] [] true_told lists are = refl
told_stands file told [] (r ∷ recorded) ops true_told lists are = absurd are
told_stands file told [] [] (op ∷ ops) true_told lists are = absurd lists
told_stands file told (h ∷ heads) [] ops true_told lists are = absurd are
told_stands file told (h ∷ heads) (r ∷ recorded) [] true_told lists are = absurd lists
told_stands file told (h ∷ heads) (r ∷ recorded) (op ∷ ops) true_told (it, lists) (first, are) =
    let here = one_stands file told h r op (λ c among. true_told c among op (inl refl)) it first in
    ap (λ (o : Op). o ∷ recorded) here
    ∙ ap (λ (os : List Op). op_in op ∷ os)
    (told_stands file told heads recorded ops (λ c among o has. true_told c among o (inr has)) lists are)

-- what was recorded of some operations is true of others, where none of one hash differs
pub records_true : RecordsTellTrue
records_true before ops told lawful apart of c among op has hashed =
    let (recorded, was, stands) = of c among in
    let same : recorded ≡ op =
    apart recorded was op has
    (sym (hashed ∙ ap digest_of stands ∙ digest_kept recorded ∙ own_digest recorded (lawful recorded was))) in
    stands ∙ ap op_in same

-- what is listed has a head
listed_at : (file : List ℕ) (heads : List Head) (ops : List Op) (op : Op) → Lists file heads ops → Has ops op
    → (h : Head) × Contains heads h × IsOf file h op
listed_at file [] [] op lists has = absurd has
listed_at file [] (x ∷ ops) op lists has = absurd lists
listed_at file (h ∷ heads) [] op lists has = absurd lists
listed_at file (h ∷ heads) (x ∷ ops) op (it, lists) (inl same) =
    (h, (0, omega arith, refl), subst (λ (o : Op). IsOf file h o) (sym same) it)
listed_at file (h ∷ heads) (x ∷ ops) op (it, lists) (inr has) =
    let (k, (n, low, at), of) = listed_at file heads ops op lists has in
    (k, (suc n, omega (arith, low), at), of)

-- where each head is the first with its digest, what has one hash is one
listed_apart : (file : List ℕ) (heads : List Head) (ops : List Op) (op other : Op) → HaveOwnDigests heads
    → Lists file heads ops → Has ops op → Has ops other → hash_of op ≡ hash_of other → op ≡ other
listed_apart file heads ops op other own lists has has' hashed =
    let (h, among, of) = listed_at file heads ops op lists has in
    let (k, there, of') = listed_at file heads ops other lists has' in
    let digests : h.digest ≡ k.digest =
    ap (λ (x : Head). x.digest) of.head ∙ hashed ∙ sym (ap (λ (x : Head). x.digest) of'.head) in
    let same : h ≡ k = some_is _ _ (sym (own h among) ∙ ap (λ (d : List ℕ). first_under d heads) digests ∙ own k there) in
    one_op file h op other of (subst (λ (x : Head). IsOf file x other) (sym same) of')

-- so what was recorded of them is true of them
pub own_true : OwnTellTrue
own_true file heads ops told own lists of c among op has hashed =
    let (recorded, was, stands) = of c among in
    let (h, there, it) = listed_at file heads ops recorded lists was in
    let same : op ≡ recorded =
    listed_apart file heads ops op recorded own lists has was
    (hashed ∙ ap digest_of stands ∙ digest_kept recorded ∙ own_digest recorded it.lawful) in
    stands ∙ ap op_in (sym same)
