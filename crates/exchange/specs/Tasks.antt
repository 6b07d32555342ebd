-- What each frame calls for.
use Rattle.std.specs.Prelude.{List, ℕ, Option, Some, None}
use Rattle.exchange_frames.specs.declared.frame.Frame.{Frame}
use Rattle.exchange_frames.specs.declared.frame.Frame.TheVariants.{Have, Want, Give, End, Buckets, Differ, Hello}
use Rattle.exchange.specs.declared.version.Version.{Version}
use Rattle.exchange.specs.Held.{version_of}
use Rattle.exchange.specs.declared.role.Role.{Role}
use Rattle.exchange.specs.declared.role.Role.TheVariants.{Caller, Callee, OldCaller}
use Rattle.exchange.specs.declared.task.Awaited.{Awaited}
use Rattle.exchange.specs.declared.task.Awaited.TheVariants as awaits
use Rattle.exchange.specs.declared.task.Task.{Task}
use Rattle.exchange.specs.declared.task.Task.TheVariants as tasks

-- what a side of this role does once a peer said HELLO: with one of version 0 nothing is spoken
abbrev pub greeted_by : Option Version → Role → Task
greeted_by None role = tasks.Refuse
greeted_by (Some version) Caller = tasks.Begin version
greeted_by (Some version) Callee = tasks.Meet version
greeted_by (Some version) OldCaller = tasks.Refuse

-- A peer that calls and begins with BUCKETS speaks version 1.
abbrev pub opened_by : Role → List (List ℕ) → Task
opened_by Caller buckets = tasks.Refuse
opened_by Callee buckets = tasks.Compare buckets
opened_by OldCaller buckets = tasks.Refuse

-- The caller offers first, so the callee offers once it has heard END.
abbrev pub ended_by : Role → Task
ended_by Caller = tasks.Rest
ended_by Callee = tasks.Show
ended_by OldCaller = tasks.Rest

-- what a frame calls for, where a side of this role awaits this
abbrev pub task_for : Awaited → Frame → Role → Task
task_for awaits.Greeting (Hello number) role = greeted_by (version_of number) role
task_for awaits.Greeting (Buckets buckets) role = opened_by role buckets
task_for awaits.Differ (Differ places) role = tasks.Offer places
task_for awaits.Want (Want want) role = tasks.Give want
task_for awaits.Buckets (Buckets buckets) role = tasks.Compare buckets
task_for awaits.Have (Have have) role = tasks.Ask have
task_for awaits.Give (Give op) role = tasks.Take op
task_for awaits.Give End role = ended_by role
task_for _ _ role = tasks.Refuse
