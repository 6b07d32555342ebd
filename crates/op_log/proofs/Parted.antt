-- Heads that are parted into those that are recorded and those that are unreadable.
use Rattle.std.proofs.Common.{◌≡◌, ◌+◌, ℕ, suc, List, [], ◌∷◌, ◌++◌, length, slice_get, Option, Some, IfSome, Contains, inl, inr, refl, sym, ◌∙◌, ap, subst, arith}
use Rattle.sqlite_disk.specs.Disk.{MoreFaults}
use Rattle.sqlite_disk.specs.declared.Disk.{Ghosts}
use Rattle.body_log.specs.declared.log.BodyLog.{BodyLog}
use Rattle.body_log.specs.Log.{end_of}
use Rattle.octets.specs.Members.{Has}
use Rattle.operation.specs.Parts.{ContentParts}
use Rattle.operation.specs.declared.op.Op.{Op}
use Rattle.op_log.specs.Heads.{Head}
use Rattle.op_log.specs.Loaded.{Lists}
use Rattle.op_log.specs.Readable.{AllIsReadable, AreParted, EachIsParted, IsAmiss, IsNamed, IsUntold, ListedAreAmiss, ReachesAll}
use Rattle.op_log.specs.Recorded.{AreRecordedAs, IsRecordedAs}
use Rattle.op_log.specs.Staged.{Grows, StaysOrRises}
use Rattle.op_log.proofs.Faults.{rose_on}
use Rattle.op_log.proofs.Growing.{below_on, reaches_on}

-- what holds of what is there
pub of_some : {X : Type 0} (P : X → Type 0) (o : Option X) (x : X) → o ≡ Some x → IfSome o P → P x
of_some {X} P o x is all = subst (λ (p : Option X). IfSome p P) is all

-- the same of equal lists
pub parted_as : (Is : Head → Op → Type 0) (Not : Head → Type 0) (n : ℕ) {heads more : List Head} → more ≡ heads → {recorded longer : List Op}
    → longer ≡ recorded → (unreadable : List ℕ) → AreParted Is Not n heads recorded unreadable → AreParted Is Not n more longer unreadable
parted_as Is Not n {heads} {more} same {recorded} {longer} are unreadable parted =
    subst (λ (hs : List Head). AreParted Is Not n hs longer unreadable) (sym same)
    (subst (λ (rs : List Op). AreParted Is Not n heads rs unreadable) (sym are) parted)

pub listed_as : (Is : Head → Op → Type 0) (Not : Head → Type 0) (n : ℕ) {heads more : List Head} → more ≡ heads → (recorded : List Op)
    {unreadable longer : List ℕ} → longer ≡ unreadable → AreParted Is Not n heads recorded unreadable → AreParted Is Not n more recorded longer
listed_as Is Not n {heads} {more} same recorded {unreadable} {longer} are parted =
    subst (λ (hs : List Head). AreParted Is Not n hs recorded longer) (sym same)
    (subst (λ (us : List ℕ). AreParted Is Not n heads recorded us) (sym are) parted)

-- one head more is recorded
pub recorded_next : (Is : Head → Op → Type 0) (Not : Head → Type 0) (n : ℕ) (heads : List Head) (recorded : List Op) (unreadable : List ℕ)
    (h : Head) (r : Op) → AreParted Is Not n heads recorded unreadable → Is h r
    → AreParted Is Not n (heads ++ h ∷ []) (recorded ++ r ∷ []) unreadable
recorded_next Is Not n [] recorded unreadable h r (none, empty) is =
    inl (r, [], ap (λ (rs : List Op). rs ++ r ∷ []) none, is, (refl, empty))
recorded_next Is Not n (k ∷ heads) recorded unreadable h r (inl (x, more, are, it, rest)) is =
    inl (x, more ++ r ∷ [], ap (λ (rs : List Op). rs ++ r ∷ []) are, it, recorded_next Is Not (suc n) heads more unreadable h r rest is)
recorded_next Is Not n (k ∷ heads) recorded unreadable h r (inr (more, are, it, rest)) is =
    inr (more, are, it, recorded_next Is Not (suc n) heads recorded more h r rest is)

-- one head more is unreadable
pub listed_next : (Is : Head → Op → Type 0) (Not : Head → Type 0) (n : ℕ) (heads : List Head) (recorded : List Op) (unreadable : List ℕ)
    (h : Head) (m : ℕ) → m ≡ n + length heads → AreParted Is Not n heads recorded unreadable → Not h
    → AreParted Is Not n (heads ++ h ∷ []) recorded (unreadable ++ m ∷ [])
listed_next Is Not n [] recorded unreadable h m at (none, empty) is =
    let same : m ≡ n = omega (arith, at) in
    inr ([], ap (λ (us : List ℕ). us ++ m ∷ []) empty ∙ ap (λ (k : ℕ). k ∷ []) same, is, (none, refl))
listed_next Is Not n (k ∷ heads) recorded unreadable h m at (inl (x, more, are, it, rest)) is =
    inl (x, more, are, it, listed_next Is Not (suc n) heads more unreadable h m (omega (arith, at)) rest is)
listed_next Is Not n (k ∷ heads) recorded unreadable h m at (inr (more, are, it, rest)) is =
    inr (more ++ m ∷ [], ap (λ (us : List ℕ). us ++ m ∷ []) are, it, listed_next Is Not (suc n) heads recorded more h m (omega (arith, at)) rest is)

-- less is said of what is unreadable
pub parted_weaker : (Is : Head → Op → Type 0) (Not Less : Head → Type 0) → ((h : Head) → Not h → Less h) → (n : ℕ) (heads : List Head)
    (recorded : List Op) (unreadable : List ℕ) → AreParted Is Not n heads recorded unreadable → AreParted Is Less n heads recorded unreadable
parted_weaker Is Not Less weaker n [] recorded unreadable parted = parted
parted_weaker Is Not Less weaker n (h ∷ heads) recorded unreadable (inl (x, more, are, it, rest)) =
    inl (x, more, are, it, parted_weaker Is Not Less weaker (suc n) heads more unreadable rest)
parted_weaker Is Not Less weaker n (h ∷ heads) recorded unreadable (inr (more, are, it, rest)) =
    inr (more, are, weaker h it, parted_weaker Is Not Less weaker (suc n) heads recorded more rest)

-- a file that reaches to all data sets goes on to
pub reaches_still : {B : Type 0} (g : Ghosts B) (a b : BodyLog B) (heads : List Head) → Grows g a b → ReachesAll g a heads → ReachesAll g b heads
reaches_still g a b heads grows reach =
    record { below = below_on (end_of a) (end_of b) heads grows.longer reach.below; reach = reaches_on g a b grows reach.reach }

-- what is amiss is so afterwards
pub amiss_on : (file : List ℕ) (first old new : ℕ) → StaysOrRises old new → (h : Head) → IsAmiss file first old h → IsAmiss file first new h
amiss_on file first old new rises h (inl bad) = inl bad
amiss_on file first old new rises h (inr rose) = inr (rose_on first old new rose rises)

-- and since before
pub amiss_from : (file : List ℕ) (first old new : ℕ) → StaysOrRises first old → (h : Head) → IsAmiss file old new h → IsAmiss file first new h
amiss_from file first old new rises h (inl bad) = inl bad
amiss_from file first old new (inl same) h (inr rose) = inr (subst (λ (n : ℕ). MoreFaults n new) same rose)
amiss_from file first old new (inr before) h (inr rose) = inr (rose_on first old new before (inr rose))

-- one head more is parted, where the disk failed at no more, or counted it
module _ (file : List ℕ) (told : List ContentParts) (first old new : ℕ) (heads : List Head) (recorded : List Op) (unreadable : List ℕ)
    (h : Head) (before : AreParted (IsRecordedAs file told) (IsAmiss file first old) 0 heads recorded unreadable) (rises : StaysOrRises old new)
  where
    pub more_recorded : (r : Op) → IsRecordedAs file told h r
        → AreParted (IsRecordedAs file told) (IsAmiss file first new) 0 (heads ++ h ∷ []) (recorded ++ r ∷ []) unreadable
    more_recorded r is =
        recorded_next (IsRecordedAs file told) (IsAmiss file first new) 0 heads recorded unreadable h r
        (parted_weaker (IsRecordedAs file told) (IsAmiss file first old) (IsAmiss file first new) (amiss_on file first old new rises) 0 heads recorded unreadable before)
        is

    pub more_listed : (m : ℕ) → m ≡ length heads → StaysOrRises first old → IsAmiss file old new h
        → AreParted (IsRecordedAs file told) (IsAmiss file first new) 0 (heads ++ h ∷ []) recorded (unreadable ++ m ∷ [])
    more_listed m at since amiss =
        listed_next (IsRecordedAs file told) (IsAmiss file first new) 0 heads recorded unreadable h m (omega (arith, at))
        (parted_weaker (IsRecordedAs file told) (IsAmiss file first old) (IsAmiss file first new) (amiss_on file first old new rises) 0 heads recorded unreadable before)
        (amiss_from file first old new since h amiss)

-- as many have a record or an index as there are heads
counted : (Is : Head → Op → Type 0) (Not : Head → Type 0) (n : ℕ) (heads : List Head) (recorded : List Op) (unreadable : List ℕ)
    → AreParted Is Not n heads recorded unreadable → length recorded + length unreadable ≡ length heads
counted Is Not n [] recorded unreadable (none, empty) =
    let r : length recorded ≡ 0 = ap length none in
    let u : length unreadable ≡ 0 = ap length empty in
    omega (arith, r, u)
counted Is Not n (h ∷ heads) recorded unreadable (inl (x, more, are, it, rest)) =
    let later = counted Is Not (suc n) heads more unreadable rest in
    let r : length recorded ≡ suc (length more) = ap length are in
    omega (arith, later, r)
counted Is Not n (h ∷ heads) recorded unreadable (inr (more, are, it, rest)) =
    let later = counted Is Not (suc n) heads recorded more rest in
    let u : length unreadable ≡ suc (length more) = ap length are in
    omega (arith, later, u)

-- an index is that of a head that is not recorded
listed_at : (Is : Head → Op → Type 0) (Not : Head → Type 0) (n : ℕ) (heads : List Head) (recorded : List Op) (unreadable : List ℕ)
    → AreParted Is Not n heads recorded unreadable → (k : ℕ) → Has unreadable k
    → (i : ℕ) × (k ≡ n + i) × (h : Head) × (slice_get heads i ≡ Some h) × Not h
listed_at Is Not n [] recorded unreadable (none, empty) k has = absurd (subst (λ (us : List ℕ). Has us k) empty has)
listed_at Is Not n (h ∷ heads) recorded unreadable (inl (x, more, are, it, rest)) k has =
    let (i, at, there, is, amiss) = listed_at Is Not (suc n) heads more unreadable rest k has in
    (suc i, omega (arith, at), there, is, amiss)
listed_at Is Not n (h ∷ heads) recorded unreadable (inr (more, are, it, rest)) k has =
    elim (subst (λ (us : List ℕ). Has us k) are has) [
      | inl same ↦ (0, omega (arith, same), h, refl, it)
      | inr later ↦
          let (i, at, there, is, amiss) = listed_at Is Not (suc n) heads recorded more rest k later in
          (suc i, omega (arith, at), there, is, amiss)
    ]

-- a record is that of a head
named_at : (Is : Head → Op → Type 0) (Not : Head → Type 0) (n : ℕ) (heads : List Head) (recorded : List Op) (unreadable : List ℕ)
    → AreParted Is Not n heads recorded unreadable → (r : Op) → Has recorded r → (h : Head) × Contains heads h × Is h r
named_at Is Not n [] recorded unreadable (none, empty) r has = absurd (subst (λ (rs : List Op). Has rs r) none has)
named_at Is Not n (h ∷ heads) recorded unreadable (inl (x, more, are, it, rest)) r has =
    elim (subst (λ (rs : List Op). Has rs r) are has) [
      | inl same ↦ (h, (0, omega arith, refl), subst (λ (y : Op). Is h y) (sym same) it)
      | inr later ↦
          let (there, (i, low, at), is) = named_at Is Not (suc n) heads more unreadable rest r later in
          (there, (suc i, omega (arith, low), at), is)
    ]
named_at Is Not n (h ∷ heads) recorded unreadable (inr (more, are, it, rest)) r has =
    let (there, (i, low, at), is) = named_at Is Not (suc n) heads recorded more rest r has in
    (there, (suc i, omega (arith, low), at), is)

-- and so from the first on
at_index : (Is : Head → Op → Type 0) (Not : Head → Type 0) (heads : List Head) (recorded : List Op) (unreadable : List ℕ)
    → AreParted Is Not 0 heads recorded unreadable → (index : ℕ) → Has unreadable index
    → (h : Head) × (slice_get heads index ≡ Some h) × Not h
at_index Is Not heads recorded unreadable parted index has =
    let (i, at, h, is, amiss) = listed_at Is Not 0 heads recorded unreadable parted index has in
    let same : i ≡ index = omega (arith, at) in
    (h, subst (λ (j : ℕ). slice_get heads j ≡ Some h) same is, amiss)

pub each_is_parted : EachIsParted
each_is_parted told heads recorded unreadable parted = (
  counted IsNamed (IsUntold told) 0 heads recorded unreadable parted,
  at_index IsNamed (IsUntold told) heads recorded unreadable parted,
  named_at IsNamed (IsUntold told) 0 heads recorded unreadable parted,
)

pub listed_are_amiss : ListedAreAmiss
listed_are_amiss file told heads recorded unreadable old new parted index has =
    at_index (IsRecordedAs file told) (IsAmiss file old new) heads recorded unreadable parted index has

-- where the file has the operations of the heads, none is listed
none_listed : (file : List ℕ) (told : List ContentParts) (n : ℕ) (heads : List Head) (recorded ops : List Op) (unreadable : List ℕ) (old new : ℕ)
    → AreParted (IsRecordedAs file told) (IsAmiss file old new) n heads recorded unreadable → Lists file heads ops
    → ¬ MoreFaults old new → (unreadable ≡ []) × AreRecordedAs file told heads recorded
none_listed file told n [] recorded ops unreadable old new (none, empty) lists calm =
    (empty, subst (λ (rs : List Op). AreRecordedAs file told [] rs) (sym none) tt)
none_listed file told n (h ∷ heads) recorded [] unreadable old new parted lists calm = absurd lists
none_listed file told n (h ∷ heads) recorded (op ∷ ops) unreadable old new (inl (r, more, are, it, rest)) (of, lists) calm =
    let later = none_listed file told (suc n) heads more ops unreadable old new rest lists calm in
    (later.0, subst (λ (rs : List Op). AreRecordedAs file told (h ∷ heads) rs) (sym are) (it, later.1))
none_listed file told n (h ∷ heads) recorded (op ∷ ops) unreadable old new (inr (more, are, inl bad, rest)) (of, lists) calm =
    absurd (bad op of)
none_listed file told n (h ∷ heads) recorded (op ∷ ops) unreadable old new (inr (more, are, inr rose, rest)) (of, lists) calm =
    absurd (calm rose)

pub all_is_readable : AllIsReadable
all_is_readable file told heads recorded ops unreadable old new parted lists calm =
    none_listed file told 0 heads recorded ops unreadable old new parted lists calm
