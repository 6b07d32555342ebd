use Rattle.archive_app.proofs.CauseLaws.{full_alike}
use Rattle.archive_app.proofs.output.cause.a_full_disk_is_told_as_one.Goals as goal

-- Each other error has other words.
pub returns : goal.returns
returns c = full_alike
