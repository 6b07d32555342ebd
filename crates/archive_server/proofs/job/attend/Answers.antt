use Rattle.std.proofs.Common.{ap, sym, subst}
use Rattle.archive_server.specs.Done.{Standing}
use Rattle.archive_server.specs.Serving.{IsOnward, WasWritten, room_of}
use Rattle.archive_server.proofs.CorrectingLaws.{corrected_gone}
use Rattle.archive_server.proofs.OnwardLaws.{gone_looked}
use Rattle.archive_server.proofs.CountLaws.{served_none}
use Rattle.archive_server.proofs.job.attend.Goals as goal

-- A pass of pages only looked, and no association was accepted.
pub returns-in-Pages : goal.returns-in-Pages
returns-in-Pages g c =
    let gone = gone_looked _ _ c.page_all.ensures.looked in record {
      served = served_none _ _ (ap (λ job. room_of c.args.hall.now.each job) c.in-Pages.is)
          c.beside-in-Pages.ensures.none
          (subst (λ (s : Standing). IsOnward (WasWritten s.known) c.args.clerk.pass s.pass)
          (sym c.beside-in-Pages.ensures.clerk) gone.onward);
    }

-- A pass of the desk has gone on, likewise.
pub returns-in-Corrects : goal.returns-in-Corrects
returns-in-Corrects g c =
    let it = c.in-Corrects.correcting in
    let gone = corrected_gone g.H.HubName.opening it.names.now it.site c.args.clerk c.correct_all.result.clerk
    c.correct_all.ensures.corrected in record {
      served = served_none _ _ (ap (λ job. room_of c.args.hall.now.each job) c.in-Corrects.is)
          c.beside-in-Corrects.ensures.none
          (subst (λ (s : Standing). IsOnward (WasWritten s.known) c.args.clerk.pass s.pass)
          (sym c.beside-in-Corrects.ensures.clerk) gone.onward);
    }
