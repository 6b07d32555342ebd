-- What commands print.
use Rattle.std.specs.Prelude.{ℕ, ◌==◌, List, [], ◌++◌, ◌∷◌, length, codes, Bool, true, false, if◌then◌else◌}
use Rattle.std.specs.Fmt.{decimal}
use Rattle.std.specs.List.{flat_map}
use Rattle.hex.specs.Hex.{encode_lower}
use Rattle.site_simulation.specs.Texts.{line, end_line, message_line}
use Rattle.exchange.specs.declared.role.Ended.{Ended}
use Rattle.shelved_site.specs.declared.moving.Moved.{Moved}
use Rattle.shelved_site.specs.declared.reporting.Report.{Report}

-- a flagged SOP Instance UID
abbrev pub flagged_line : List ℕ → List ℕ
flagged_line uid = line (codes "flagged " ++ uid)

-- how many operations there are of each kind
abbrev pub count_lines : Report → List ℕ
count_lines report =
    message_line (codes "operations") report.counts.operations
    ++ (message_line (codes "contents") report.counts.contents
    ++ (message_line (codes "corrections") report.counts.corrections
    ++ message_line (codes "series") report.series))

-- the number of all that is held, in hexadecimal digits
abbrev pub fingerprint_line : List ℕ → List ℕ
fingerprint_line fingerprint = line (codes "fingerprint" ++ 32 ∷ encode_lower fingerprint)

-- where it is asked for
abbrev pub fingerprint_lines : Bool → List ℕ → List ℕ
fingerprint_lines true fingerprint = fingerprint_line fingerprint
fingerprint_lines false fingerprint = []

-- the counts, the number of all that is held where it is asked for, the flagged UIDs, and how many these are
abbrev pub report_lines : Report → Bool → List ℕ
report_lines report is_fingerprinted =
    count_lines report ++ (fingerprint_lines is_fingerprinted report.fingerprint
    ++ (flat_map flagged_line report.flagged ++ end_line (length report.flagged)))

-- whether all came that was asked for
abbrev pub finished_line : Bool → List ℕ
finished_line true = line (codes "finished yes")
finished_line false = line (codes "finished no")

-- how many operations could not be read, where there are some
abbrev pub unread_lines : ℕ → List ℕ
unread_lines unread = if unread == 0 then [] else message_line (codes "unread") unread

-- what came of an exchange
abbrev pub exchange_lines : Ended → List ℕ
exchange_lines ended =
    message_line (codes "given") ended.given
    ++ (message_line (codes "taken") ended.taken ++ (unread_lines ended.unread ++ finished_line ended.finished))

-- what a move brought
abbrev pub move_lines : Moved → List ℕ
move_lines moved = message_line (codes "operations") moved.operations ++ message_line (codes "new") moved.new
