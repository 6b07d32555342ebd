-- Laws on readings.
use Rattle.std.proofs.Common.{◌≡◌, Bool, true, false, cond, Result, Ok, Err, refl}
use Rattle.std.specs.Prelude.{IfErr}
use Rattle.octets.specs.Gives.{◌>>=◌}
use Rattle.exchange_frames.specs.declared.fault.FrameFault.{FrameFault}
use Rattle.exchange_frames.specs.declared.fault.FrameFault.TheVariants.{BadFrame}

-- a test that was passed on the way to what else is read
pub guard_then : {F A : Type 0} (b : Bool) (d : F) (r : Result A F) (y : A) → cond b (Err d) r ≡ Ok y
    → (b ≡ false) × (r ≡ Ok y)
guard_then true d r y e = absurd cc
guard_then false d r y e = (refl, e)

-- where this reading fails, the frame is bad
abbrev pub OnlyBad : {X : Type 0} → Result X FrameFault → Type 0
OnlyBad r = IfErr r (λ e. e ≡ BadFrame)

pub bad_then : {A B : Type 0} (r : Result A FrameFault) (f : A → Result B FrameFault) → OnlyBad r
    → ((x : A) → OnlyBad (f x)) → OnlyBad (r >>= f)
bad_then (Ok x) f p q = q x
bad_then (Err e) f p q = p

pub bad_cond : {A : Type 0} (b : Bool) (r s : Result A FrameFault) → OnlyBad r → OnlyBad s → OnlyBad (cond b r s)
bad_cond true r s p q = p
bad_cond false r s p q = q
