-- Which frames call for which task, and when.
use Rattle.std.proofs.Common.{◌≡◌, ℕ, List, Bool, true, false, Option, Some, None, refl}
use Rattle.std.specs.Prelude.{⊤}
use Rattle.exchange_frames.specs.declared.frame.Frame.{Frame}
use Rattle.exchange_frames.specs.declared.frame.Frame.TheVariants.{Have, Want, Give, End, Buckets, Differ, Hello}
use Rattle.exchange.specs.declared.version.Version.{Version}
use Rattle.exchange.specs.Held.{version_of}
use Rattle.exchange.specs.declared.role.Role.{Role}
use Rattle.exchange.specs.declared.role.Role.TheVariants.{Caller, Callee, OldCaller}
use Rattle.exchange.specs.declared.task.Awaited.{Awaited}
use Rattle.exchange.specs.declared.task.Awaited.TheVariants as awaits
use Rattle.exchange.specs.declared.task.Task.{Task}
use Rattle.exchange.specs.declared.task.Task.TheVariants as tasks
use Rattle.exchange.specs.Course.{next_after_gifts}
use Rattle.exchange.specs.Tasks.{task_for, greeted_by, opened_by, ended_by}

-- whether BUCKETS are heard later, where a side that calls, or not, awaits this
abbrev pub later_of : Role → Bool
later_of Caller = true
later_of Callee = false
later_of OldCaller = true

abbrev pub later : Role → Awaited → Bool
later role awaits.Greeting = true
later role awaits.Differ = later_of role
later role awaits.Want = later_of role
later role awaits.Buckets = true
later role awaits.Have = false
later role awaits.Give = false
later role awaits.Nothing = false

-- what a frame is that calls for a task
abbrev pub Fits : Role → Awaited → Task → Frame → Type 0
Fits role awaited tasks.Refuse frame = ⊤
Fits role awaited (tasks.Begin version) frame = (n : ℕ) × (frame ≡ Hello n) × (later role awaited ≡ true)
Fits role awaited (tasks.Meet version) frame = (n : ℕ) × (frame ≡ Hello n) × (later role awaited ≡ true)
Fits role awaited (tasks.Compare buckets) frame = (frame ≡ Buckets buckets) × (later role awaited ≡ true)
Fits role awaited (tasks.Offer places) frame = (frame ≡ Differ places) × (later role awaited ≡ later_of role)
Fits role awaited (tasks.Ask have) frame = frame ≡ Have have
Fits role awaited (tasks.Give want) frame =
    (frame ≡ Want want) × (later role (next_after_gifts role) ≡ true → later role awaited ≡ true)
Fits role awaited (tasks.Take op) frame = (frame ≡ Give op) × (later role awaited ≡ false)
Fits role awaited tasks.Show frame = (frame ≡ End) × (later_of role ≡ false)
Fits role awaited tasks.Rest frame = frame ≡ End

greeted_fits : (role : Role) (n : ℕ) (version : Option Version)
    → Fits role awaits.Greeting (greeted_by version role) (Hello n)
greeted_fits role n None = tt
greeted_fits Caller n (Some version) = (n, refl, refl)
greeted_fits Callee n (Some version) = (n, refl, refl)
greeted_fits OldCaller n (Some version) = tt

opened_fits : (role : Role) (buckets : List (List ℕ))
    → Fits role awaits.Greeting (opened_by role buckets) (Buckets buckets)
opened_fits Caller buckets = tt
opened_fits Callee buckets = (refl, refl)
opened_fits OldCaller buckets = tt

ended_fits : (role : Role) → Fits role awaits.Give (ended_by role) End
ended_fits Caller = refl
ended_fits Callee = (refl, refl)
ended_fits OldCaller = refl

later_gifts : (role : Role) → later role (next_after_gifts role) ≡ true → later_of role ≡ true
later_gifts Caller e = refl
later_gifts Callee e = absurd cc
later_gifts OldCaller e = refl

-- a frame that is heard fits what it calls for
pub fits : (awaited : Awaited) (frame : Frame) (role : Role) → Fits role awaited (task_for awaited frame role) frame
fits awaits.Greeting (Have x) role = tt
fits awaits.Greeting (Want x) role = tt
fits awaits.Greeting (Give x) role = tt
fits awaits.Greeting End role = tt
fits awaits.Greeting (Buckets x) role = opened_fits role x
fits awaits.Greeting (Differ x) role = tt
fits awaits.Greeting (Hello x) role = greeted_fits role x (version_of x)
fits awaits.Differ (Have x) role = tt
fits awaits.Differ (Want x) role = tt
fits awaits.Differ (Give x) role = tt
fits awaits.Differ End role = tt
fits awaits.Differ (Buckets x) role = tt
fits awaits.Differ (Differ x) role = (refl, refl)
fits awaits.Differ (Hello x) role = tt
fits awaits.Want (Have x) role = tt
fits awaits.Want (Want x) role = (refl, later_gifts role)
fits awaits.Want (Give x) role = tt
fits awaits.Want End role = tt
fits awaits.Want (Buckets x) role = tt
fits awaits.Want (Differ x) role = tt
fits awaits.Want (Hello x) role = tt
fits awaits.Buckets (Have x) role = tt
fits awaits.Buckets (Want x) role = tt
fits awaits.Buckets (Give x) role = tt
fits awaits.Buckets End role = tt
fits awaits.Buckets (Buckets x) role = (refl, refl)
fits awaits.Buckets (Differ x) role = tt
fits awaits.Buckets (Hello x) role = tt
fits awaits.Have (Have x) role = refl
fits awaits.Have (Want x) role = tt
fits awaits.Have (Give x) role = tt
fits awaits.Have End role = tt
fits awaits.Have (Buckets x) role = tt
fits awaits.Have (Differ x) role = tt
fits awaits.Have (Hello x) role = tt
fits awaits.Give (Have x) role = tt
fits awaits.Give (Want x) role = tt
fits awaits.Give (Give x) role = (refl, refl)
fits awaits.Give End role = ended_fits role
fits awaits.Give (Buckets x) role = tt
fits awaits.Give (Differ x) role = tt
fits awaits.Give (Hello x) role = tt
fits awaits.Nothing (Have x) role = tt
fits awaits.Nothing (Want x) role = tt
fits awaits.Nothing (Give x) role = tt
fits awaits.Nothing End role = tt
fits awaits.Nothing (Buckets x) role = tt
fits awaits.Nothing (Differ x) role = tt
fits awaits.Nothing (Hello x) role = tt
