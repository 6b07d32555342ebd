use Rattle.record_log.proofs.laws.what_is_kept_is_told.Goals as goal

-- Whatever a crash leaves has the groups.
pub returns : goal.returns
returns g c disk end cs kept file may =
    record { groups = kept.groups; are = kept.are; laid = (kept.ready file may).laid; told = kept.told }
