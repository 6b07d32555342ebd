-- What the faults of the two files are to a log of operations.
use Rattle.std.proofs.Common.{◌≡◌, ◌+◌, ◌-◌, ◌^◌, ◌≤◌, ℕ, min, inl, inr, Result, Ok, Err, IsErrOf, MatchResult, OnOk, sym, ◌∙◌, ap, subst, arith}
use Rattle.std.proofs.Math.Nat.{le-min, min-le_right}
use Rattle.std.specs.Result.{IsErrAnd}
use Rattle.sqlite_disk.specs.Disk.{MoreFaults}
use Rattle.body_log.specs.Fault.{CountsAs, CountsAsIf}
use Rattle.head_log.specs.declared.fault.HeadFault.{HeadFault}
use Rattle.head_log.specs.declared.fault.HeadFault.TheVariants as of_heads
use Rattle.op_log.specs.declared.fault.LogFault.{LogFault}
use Rattle.op_log.specs.declared.fault.LogFault.TheVariants.{Disk, Closed, TooLong, DamagedHeads, DamagedBody}
use Rattle.op_log.specs.declared.fault.LogFault.TheVariants.{Collision, Memory}
use Rattle.op_log.specs.Staged.{StaysOrRises}
use Rattle.op_log.specs.Fault.{fault_of_heads, IsOfLook, IsOfPut, IsOfRead, IsOfWrite}

-- damage that is told is damage of the file of heads
pub damaged_is : (f : HeadFault) (n : ℕ) → fault_of_heads f ≡ DamagedHeads n → f ≡ of_heads.Damaged n
damaged_is of_heads.Disk n is = absurd cc
damaged_is of_heads.Closed n is = absurd cc
damaged_is of_heads.TooLong n is = absurd cc
damaged_is (of_heads.Damaged at) n is =
    let place : at ≡ n = cc in
    ap of_heads.Damaged place
damaged_is of_heads.Memory n is = absurd cc

-- what is told is the fault that came
pub told_is : {T : Type 0} (r : Result T LogFault) (told fault : LogFault) → IsErrAnd r (λ it. it ≡ told) → IsErrOf r fault
    → told ≡ fault
told_is (Ok x) told fault is came = absurd is
told_is (Err e) told fault is came =
    let same : e ≡ fault = cc in
    sym is ∙ same

-- what a read tells, a look tells
pub read_is_look : (fault : LogFault) → IsOfRead fault → IsOfLook fault
read_is_look Disk is = is
read_is_look Closed is = is
read_is_look TooLong is = absurd is
read_is_look (DamagedHeads at) is = absurd is
read_is_look (DamagedBody at) is = absurd is
read_is_look Collision is = absurd is
read_is_look Memory is = is

-- and a put
pub read_is_put : (fault : LogFault) → IsOfRead fault → IsOfPut fault
read_is_put Disk is = is
read_is_put Closed is = is
read_is_put TooLong is = absurd is
read_is_put (DamagedHeads at) is = absurd is
read_is_put (DamagedBody at) is = absurd is
read_is_put Collision is = absurd is
read_is_put Memory is = is

-- what a write tells, a put tells
pub write_is_put : (fault : LogFault) → IsOfWrite fault → IsOfPut fault
write_is_put Disk is = is
write_is_put Closed is = is
write_is_put TooLong is = is
write_is_put (DamagedHeads at) is = absurd is
write_is_put (DamagedBody at) is = absurd is
write_is_put Collision is = absurd is
write_is_put Memory is = is

-- where a call was refused, the count rose
pub counts_on : {V P : Type 0} (r : Result V LogFault) (fault : LogFault) (old new : ℕ) → IsErrAnd r (λ it. it ≡ fault)
    → (fault ≡ Disk → P → MoreFaults old new) → CountsAsIf P Disk r old new
counts_on (Ok x) fault old new is counts = absurd is
counts_on (Err e) fault old new is counts = λ told. counts (sym is ∙ told)

pub counts_as : {V : Type 0} (r : Result V LogFault) (fault : LogFault) (old new : ℕ) → IsErrAnd r (λ it. it ≡ fault)
    → (fault ≡ Disk → MoreFaults old new) → CountsAs Disk r old new
counts_as (Ok x) fault old new is counts = absurd is
counts_as (Err e) fault old new is counts = λ told. counts (sym is ∙ told)

-- a count that rose, and then stays or rises, rose
pub rose_on : (old mid new : ℕ) → MoreFaults old mid → StaysOrRises mid new → MoreFaults old new
rose_on old mid new rose (inl same) = subst (λ (n : ℕ). MoreFaults old n) (sym same) rose
rose_on old mid new rose (inr more) =
    let top : min (old + 1) (2 ^ 64 - 1) ≤ 2 ^ 64 - 1 = min-le_right (old + 1) (2 ^ 64 - 1) in
    let low : min (old + 1) (2 ^ 64 - 1) ≤ min (mid + 1) (2 ^ 64 - 1) = le-min (omega (arith, rose)) top in
    omega (arith, low, more)

-- a count that stays or rises twice does so
pub rises_twice : (old mid new : ℕ) → StaysOrRises old mid → StaysOrRises mid new → StaysOrRises old new
rises_twice old mid new (inl same) next = subst (λ (n : ℕ). StaysOrRises n new) same next
rises_twice old mid new (inr rose) next = inr (rose_on old mid new rose next)

-- and so since before
pub rose_since : (first old new : ℕ) → StaysOrRises first old → MoreFaults old new → MoreFaults first new
rose_since first old new (inl same) rose = subst (λ (n : ℕ). MoreFaults n new) same rose
rose_since first old new (inr before) rose = rose_on first old new before (inr rose)

-- what holds where a call ends well, and what its count says then
pub with_rises : {V P Q R : Type 0} (E : LogFault → Type 0) (r : Result V LogFault) → (P → Q → R) → OnOk r P → MatchResult r (λ _. Q) E
    → OnOk r R
with_rises E (Ok x) both p q = both p q
with_rises E (Err e) both p q = tt

-- where a collision is told, the count stays or rises
pub rises_at : {V : Type 0} (r : Result V LogFault) (old new : ℕ) → IsErrOf r Collision
    → MatchResult r (λ _. StaysOrRises old new) (λ fault. (fault ≡ Disk → MoreFaults old new) × (fault ≡ Collision → StaysOrRises old new))
    → StaysOrRises old new
rises_at (Ok x) old new told rises = rises
rises_at (Err e) old new told rises = let same : e ≡ Collision = cc in rises.1 same
