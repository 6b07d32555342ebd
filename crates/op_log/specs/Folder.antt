-- What a log in a folder is opened from.
use Rattle.std.specs.Prelude.{Bool, ℕ, List}
use Rattle.sqlite_disk.specs.declared.modelled.Modelled.{Modelled}
use Rattle.sqlite_disk.specs.declared.calls.Calls as calls
use Rattle.sqlite_disk.specs.declared.start.Start.{Ghosts}
use Rattle.sqlite_disk.specs.Modelled.{start_of}
use Rattle.sqlite_disk.specs.Events.{replay}
use Rattle.sqlite_disk.specs.History.{MayLeave}
use Rattle.sqlite_std_file.specs.declared.host.Host.{Host}

module _ {S : Type 0} {g : calls.Ghosts Host} where
  -- a file has returned what was written
  abbrev pub file_is_clean : (start : Ghosts S) → Modelled Host S g start → Bool
  file_is_clean start f = (replay (start_of start f) f.calls.log.events).is_honest

  -- a crash may leave this of it
  abbrev pub file_leaves : (start : Ghosts S) → Modelled Host S g start → List ℕ → Type 0
  file_leaves start f c =
      let m = replay (start_of start f) f.calls.log.events in
      MayLeave start.is_mixing m.seen m.synced m.steps c
