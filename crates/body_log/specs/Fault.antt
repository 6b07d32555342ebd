-- The public numbers of the faults, and what the disk's count of failures says of them.
use Rattle.std.specs.Prelude.{◌≡◌, ℕ, Result, MatchResult}
use Rattle.sqlite_disk.specs.Disk.{MoreFaults}
use Rattle.body_log.specs.declared.fault.BodyFault.{BodyFault}
use Rattle.body_log.specs.declared.fault.BodyFault.TheVariants.{Disk, Closed, TooLong}

abbrev pub number_of : BodyFault → ℕ
number_of Disk = 1
number_of Closed = 2
number_of TooLong = 3

-- the count of the disk's failures stays at `Ok`, and rises where one fault is told
abbrev pub CountsAs : {V F : Type 0} → F → Result V F → ℕ → ℕ → Type 0
CountsAs disk result old new = MatchResult result (λ _. new ≡ old) (λ fault. fault ≡ disk → MoreFaults old new)

-- the same, where this is a failure of the disk only if `P` holds
abbrev pub CountsAsIf : {V F : Type 0} → Type 0 → F → Result V F → ℕ → ℕ → Type 0
CountsAsIf P disk result old new = MatchResult result (λ _. new ≡ old) (λ fault. fault ≡ disk → P → MoreFaults old new)
