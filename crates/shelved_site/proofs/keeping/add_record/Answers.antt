use Rattle.std.proofs.Common.{sym, ◌∙◌, ◌++◌, ◌∷◌, []}
use Rattle.record_log.proofs.Waiting.{given_up_tells}
use Rattle.shelved_site.specs.Told.{told_of}
use Rattle.shelved_site.proofs.Adding.{one_of}
use Rattle.shelved_site.proofs.keeping.add_record.Goals as goal

-- The record of the content was added.
pub returns-in-Ok : goal.returns-in-Ok
returns-in-Ok g c cs tells =
    one_of g.H.Disk c.add.new.self c.args.op.now c.in-Content.content c.in-Ok.recorded cs
    (sym c.op.ensures ∙ c.in-Content.is) c.in-Ok.ensures (c.add.ensures cs tells)

-- Memory was refused for it: the file is given up, and nothing is asked of it any more.
pub returns-in-Err : goal.returns-in-Err
returns-in-Err g c cs tells =
    given_up_tells g.H.Disk c.none.result (cs ++ told_of (c.args.op.now ∷ [])) c.none.ensures.file c.none.ensures.none
