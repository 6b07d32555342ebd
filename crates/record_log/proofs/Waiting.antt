-- Contents that wait to be added.
use Rattle.std.proofs.Common.{◌≡◌, ◌++◌, [], List, None, Option, ap, sym, subst, ◌∙◌}
use Rattle.std.proofs.lemmas.List.{append-nil}
use Rattle.sqlite_disk.specs.declared.Disk.{Ghosts}
use Rattle.head_log.specs.declared.log.HeadLog.{HeadLog}
use Rattle.operation.specs.Parts.{ContentParts}
use Rattle.record_log.specs.declared.log.RecordLog.{RecordLog}
use Rattle.record_log.specs.Entries.{without_notes}
use Rattle.record_log.specs.Log.{KeepsIn, Tells}

-- where none waits, those that the file keeps are all
pub none_waits : (cs waiting : List ContentParts) → waiting ≡ [] → cs ≡ cs ++ without_notes waiting
none_waits cs waiting none = sym (ap (λ (xs : List ContentParts). cs ++ without_notes xs) none ∙ append-nil cs)

-- once the file is given up nothing is asked of it
pub given_up_tells : {D : Type 0} (g : Ghosts D) (log : RecordLog D) (cs : List ContentParts) → log.file ≡ None
    → log.waiting.items ≡ [] → Tells g log cs
given_up_tells {D} g log cs none empty =
    record {
      before = cs;
      are = none_waits cs log.waiting.items empty;
      kept = subst (λ (file : Option (HeadLog D)). KeepsIn g file cs) (sym none) tt;
    }
