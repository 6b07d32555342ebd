-- Where a side has said BUCKETS, and how it goes on from there.
use Rattle.std.proofs.Common.{◌≡◌, ℕ, List, Bool, true, false, Option, Some, None, refl}
use Rattle.std.specs.Prelude.{⊤}
use Rattle.exchange_frames.specs.declared.frame.Frame.{Frame}
use Rattle.exchange_frames.specs.declared.frame.Frame.TheVariants.{Have, Want, Give, End, Buckets, Differ, Hello}
use Rattle.exchange.specs.declared.version.Version.{Version}
use Rattle.exchange.specs.Held.{version_of}
use Rattle.exchange.specs.declared.role.Role.{Role}
use Rattle.exchange.specs.declared.role.Role.TheVariants.{Caller, Callee, OldCaller}
use Rattle.exchange.specs.declared.task.Awaited.{Awaited}
use Rattle.exchange.specs.declared.task.Awaited.TheVariants as awaits
use Rattle.exchange.specs.declared.task.Task.{Task}
use Rattle.exchange.specs.declared.task.Task.TheVariants as tasks
use Rattle.exchange.specs.Course.{next_after_gifts}
use Rattle.exchange.specs.Tasks.{task_for, greeted_by, opened_by, ended_by}
use Rattle.exchange.proofs.Turns.{later_of}

-- whether a version is settled where this is awaited
abbrev pub is_met : Awaited → Bool
is_met awaits.Greeting = false
is_met awaits.Differ = true
is_met awaits.Want = true
is_met awaits.Buckets = true
is_met awaits.Have = true
is_met awaits.Give = true
is_met awaits.Nothing = true

-- whether BUCKETS were said, where a side that calls, or not, awaits this
abbrev pub has_shown : Role → Awaited → Bool
has_shown role awaits.Greeting = false
has_shown role awaits.Differ = true
has_shown role awaits.Want = true
has_shown role awaits.Buckets = later_of role
has_shown role awaits.Have = later_of role
has_shown role awaits.Give = later_of role
has_shown role awaits.Nothing = true

-- what was awaited where this is done
abbrev pub Goes : Role → Awaited → Task → Type 0
Goes role awaited tasks.Refuse = ⊤
Goes role awaited (tasks.Begin version) = awaited ≡ awaits.Greeting
Goes role awaited (tasks.Meet version) = (awaited ≡ awaits.Greeting) × (later_of role ≡ false)
Goes role awaited (tasks.Compare buckets) = later_of role ≡ has_shown role awaited
Goes role awaited (tasks.Offer places) = awaited ≡ awaits.Differ
Goes role awaited (tasks.Ask have) = awaited ≡ awaits.Have
Goes role awaited (tasks.Give want) =
    (awaited ≡ awaits.Want) × (has_shown role (next_after_gifts role) ≡ true)
    × (is_met (next_after_gifts role) ≡ true)
Goes role awaited (tasks.Take op) = awaited ≡ awaits.Give
Goes role awaited tasks.Show = (awaited ≡ awaits.Give) × (later_of role ≡ false)
Goes role awaited tasks.Rest = (awaited ≡ awaits.Give) × (later_of role ≡ true)

greeted_goes : (role : Role) (version : Option Version) → Goes role awaits.Greeting (greeted_by version role)
greeted_goes role None = tt
greeted_goes Caller (Some version) = refl
greeted_goes Callee (Some version) = (refl, refl)
greeted_goes OldCaller (Some version) = tt

opened_goes : (role : Role) (buckets : List (List ℕ)) → Goes role awaits.Greeting (opened_by role buckets)
opened_goes Caller buckets = tt
opened_goes Callee buckets = refl
opened_goes OldCaller buckets = tt

ended_goes : (role : Role) → Goes role awaits.Give (ended_by role)
ended_goes Caller = (refl, refl)
ended_goes Callee = (refl, refl)
ended_goes OldCaller = (refl, refl)

gifts_goes : (role : Role) → (has_shown role (next_after_gifts role) ≡ true) × (is_met (next_after_gifts role) ≡ true)
gifts_goes Caller = (refl, refl)
gifts_goes Callee = (refl, refl)
gifts_goes OldCaller = (refl, refl)

-- what a frame calls for goes on from what was awaited
pub goes : (awaited : Awaited) (frame : Frame) (role : Role) → Goes role awaited (task_for awaited frame role)
goes awaits.Greeting (Have x) role = tt
goes awaits.Greeting (Want x) role = tt
goes awaits.Greeting (Give x) role = tt
goes awaits.Greeting End role = tt
goes awaits.Greeting (Buckets x) role = opened_goes role x
goes awaits.Greeting (Differ x) role = tt
goes awaits.Greeting (Hello x) role = greeted_goes role (version_of x)
goes awaits.Differ (Have x) role = tt
goes awaits.Differ (Want x) role = tt
goes awaits.Differ (Give x) role = tt
goes awaits.Differ End role = tt
goes awaits.Differ (Buckets x) role = tt
goes awaits.Differ (Differ x) role = refl
goes awaits.Differ (Hello x) role = tt
goes awaits.Want (Have x) role = tt
goes awaits.Want (Want x) role = (refl, (gifts_goes role).0, (gifts_goes role).1)
goes awaits.Want (Give x) role = tt
goes awaits.Want End role = tt
goes awaits.Want (Buckets x) role = tt
goes awaits.Want (Differ x) role = tt
goes awaits.Want (Hello x) role = tt
goes awaits.Buckets (Have x) role = tt
goes awaits.Buckets (Want x) role = tt
goes awaits.Buckets (Give x) role = tt
goes awaits.Buckets End role = tt
goes awaits.Buckets (Buckets x) role = refl
goes awaits.Buckets (Differ x) role = tt
goes awaits.Buckets (Hello x) role = tt
goes awaits.Have (Have x) role = refl
goes awaits.Have (Want x) role = tt
goes awaits.Have (Give x) role = tt
goes awaits.Have End role = tt
goes awaits.Have (Buckets x) role = tt
goes awaits.Have (Differ x) role = tt
goes awaits.Have (Hello x) role = tt
goes awaits.Give (Have x) role = tt
goes awaits.Give (Want x) role = tt
goes awaits.Give (Give x) role = refl
goes awaits.Give End role = ended_goes role
goes awaits.Give (Buckets x) role = tt
goes awaits.Give (Differ x) role = tt
goes awaits.Give (Hello x) role = tt
goes awaits.Nothing (Have x) role = tt
goes awaits.Nothing (Want x) role = tt
goes awaits.Nothing (Give x) role = tt
goes awaits.Nothing End role = tt
goes awaits.Nothing (Buckets x) role = tt
goes awaits.Nothing (Differ x) role = tt
goes awaits.Nothing (Hello x) role = tt
