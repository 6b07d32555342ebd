-- A head that is handed out, or was cut off a text.
use Rattle.op_log.specs.declared.record.Record.{Record}
use Rattle.op_log.specs.Heads.{Head}

-- the head
abbrev pub head_in : Record → Head
head_in r = record { digest = r.digest; front = r.front.now; at = r.at; size = r.size }
