-- A file that nothing has been done to yet.
use Rattle.std.proofs.Common.{◌≡◌, Bool, false, if◌then◌else◌, ℕ, List, [], inl, inr, ap, ◌∙◌, subst}
use Rattle.sqlite_disk.specs.declared.modelled.Modelled.{Modelled}
use Rattle.sqlite_disk.specs.declared.calls.Calls as calls
use Rattle.sqlite_disk.specs.declared.start.Start.{Ghosts}
use Rattle.sqlite_disk.specs.Modelled.{start_of}
use Rattle.sqlite_disk.specs.Events.{Event, replay}
use Rattle.sqlite_disk.specs.History.{MayLeave}
use Rattle.sqlite_std_file.specs.declared.host.Host.{Host}
use Rattle.sqlite_std_file.specs.File.{IsFresh}
use Rattle.op_log.specs.Folder.{file_leaves}

module _ {S : Type 0} {g : calls.Ghosts Host} (start : Ghosts S) (f : Modelled Host S g start) (fresh : IsFresh false f) where
  -- it has what is supposed of it
  pub fresh_seen : (replay (start_of start f) f.calls.log.events).seen ≡ start.db
  fresh_seen =
      ap (λ (events : List Event). (replay (if f.is_log then start.log else start.db) events).seen) fresh.1
      ∙ ap (λ (b : Bool). if b then start.log else start.db) fresh.0

  -- and a crash leaves it so
  pub fresh_left : (d : List ℕ) → file_leaves start f d → d ≡ start.db
  fresh_left d may =
      let own = subst (λ (b : Bool).
      let m = replay (if b then start.log else start.db) f.calls.log.events in MayLeave start.is_mixing m.seen m.synced m.steps d) fresh.0 may in
      let here : MayLeave start.is_mixing start.db start.db [] d = subst (λ (events : List Event).
      let m = replay start.db events in MayLeave start.is_mixing m.seen m.synced m.steps d) fresh.1 own in
      elim here [
        | inl is ↦ is
        | inr is ↦ is
      ]
