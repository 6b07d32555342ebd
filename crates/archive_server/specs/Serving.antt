-- What passes gain while they serve, and how many passes a server takes.
use Rattle.std.specs.Prelude.{ℕ, ◌+◌, ◌*◌, length, min, ◌≤◌, ◌≡◌, ◌⊎◌, List, [], ◌∷◌, Bool, IsTrue, Option, Some}
use Rattle.std.specs.Prelude.{None, IsSome}
use mathlib.Core.List.{IsPrefix}
use Rattle.site_hub.specs.Hub.{Seat}
use Rattle.archive_server.specs.Done.{Standing, Deeds}
use Rattle.archive_server.specs.declared.fault.ServeFault.{ServeFault}
use Rattle.command_words.specs.Words.{threads_at}
use Rattle.archive_server.specs.declared.duties.Duties.{Duties}
use Rattle.archive_server.specs.declared.exchanging.Exchanging.{Exchanging}
use Rattle.archive_server.specs.declared.job.Job.{Job}
use Rattle.archive_server.specs.declared.job.Job.TheVariants.{Associations, Exchanges, Calls, Pages, Corrects}
pub use Rattle.hub_exchange.specs.Putting.{IsKept, AreKept, WasWritten}
pub use Rattle.hub_exchange.specs.Onward.{IsOnward}

-- A clerk has gone on: its pass is a later one, it knows no less of the ledger, and what became its pass's own stands
-- in what it knows.
pub record HasGoneOn (before after : Standing) : Type 0 where
  pub onward : IsOnward (WasWritten after.known) before.pass after.pass
  pub known : IsPrefix before.known after.known

-- as many passes, in their places, each gone on from what it was, and what became its own since is one of these
abbrev pub AllOnward : (List ℕ → Type 0) → List Seat → List Seat → Type 0
AllOnward these [] [] = Unit {0}
AllOnward these [] (y ∷ ys) = ⊥
AllOnward these (x ∷ xs) [] = ⊥
AllOnward these (x ∷ xs) (y ∷ ys) = IsOnward these x y × AllOnward these xs ys

-- how many associations a job may accept, where each worker may accept so many
abbrev pub room_of : {G : Type 0} → ℕ → Job G → ℕ
room_of each (Associations gate) = each
room_of each (Exchanges exchanging) = 0
room_of each (Calls peer) = 0
room_of each (Pages paging) = 0
room_of each (Corrects correcting) = 0

-- how many all jobs may
abbrev pub room_of_all : {G : Type 0} → ℕ → List (Job G) → ℕ
room_of_all each [] = 0
room_of_all each (job ∷ jobs) = room_of each job + room_of_all each jobs

-- what is expected of a thread: with which pass it begins, how many associations it may accept, and whether somebody
-- may end it
pub record Task : Type 0 where
  pub before : Seat
  pub room : ℕ
  pub ends : Bool

-- What a thread comes back with: its pass has gone on, and it has accepted all that it may, or tells a fault, or
-- somebody may end it.
pub record HasServed (task : Task) (deeds : Deeds) : Type 0 where
  pub onward : IsOnward (WasWritten deeds.clerk.known) task.before deeds.clerk.pass
  pub most : deeds.accepted ≤ task.room
  pub all : IsTrue task.ends ⊎ IsSome deeds.fault ⊎ (deeds.accepted ≡ task.room)

-- what is expected of all threads
pub record Tasks : Type 0 where
  pub before : List Seat
  pub room : ℕ
  pub ends : Bool

-- what all threads came back with: their passes, how many associations they accepted, and the first fault
pub record Results : Type 0 where
  pub passes : List Seat
  pub accepted : ℕ
  pub fault : Option ServeFault

-- What all threads come back with: each pass in its place has gone on, and no more was accepted than may be. Where no
-- fault is told and nobody may end them all was, as far as a u64 counts.
pub record HaveServed (these : List ℕ → Type 0) (tasks : Tasks) (results : Results) : Type 0 where
  pub onward : AllOnward these tasks.before results.passes
  pub most : results.accepted ≤ tasks.room
  pub all : IsTrue tasks.ends ⊎ IsSome results.fault ⊎ (results.accepted ≡ min tasks.room 18446744073709551615)

-- how many threads serve exchanges
abbrev pub serving_in : Option Exchanging → ℕ
serving_in None = 0
serving_in (Some exchanging) = exchanging.workers

-- how many threads a server has beside its workers: those that serve exchanges, one for each peer, one for pages, and
-- one for the desk
abbrev pub others_in : Duties → ℕ
others_in duties =
    serving_in duties.exchange + length duties.peers.now + threads_at duties.pages + threads_at duties.desk

-- so many jobs more, none of which accepts associations
pub record AddsBeside {G : Type 0} (many : ℕ) (before after : List (Job G)) : Type 0 where
  pub more : length after ≡ length before + many
  pub room : (each : ℕ) → room_of_all each after ≡ room_of_all each before

-- As many jobs as these, and of these so many that accept associations.
pub record AreJobs {G : Type 0} (workers others : ℕ) (jobs : List (Job G)) : Type 0 where
  pub count : length jobs ≡ workers + others
  pub room : (each : ℕ) → room_of_all each jobs ≡ workers * each
