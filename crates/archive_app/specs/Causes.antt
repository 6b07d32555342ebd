-- Why a command is refused, in words.
use Rattle.std.specs.Prelude.{ℕ, ◌≡◌, ◌↔◌, ◌++◌, List, codes, Option, Some, None, Bool, true, false}
use Rattle.std.specs.declared.io.ErrorKind.{ErrorKind}
use Rattle.std.specs.declared.io.ErrorKind.TheVariants as kind
use Rattle.sqlite.specs.declared.error.Error.{Error}
use Rattle.sqlite.specs.declared.error.Error.TheVariants.{SqliteFailure}
use Rattle.sqlite.specs.declared.error.ErrorCode.TheVariants as code
use Rattle.command_words.specs.declared.parts.Part.{Part}
use Rattle.command_words.specs.declared.parts.Part.TheVariants as part
use Rattle.site_simulation.specs.declared.run.SimFault.TheVariants as sim
use Rattle.op_shelf.specs.Fault.{fault_of}
use Rattle.site_state.specs.declared.fault.SiteFault.TheVariants as site
use Rattle.site_hub.specs.declared.fault.HubFault.TheVariants as hub
use Rattle.association_run.specs.declared.fault.RunFault.TheVariants as run
use Rattle.exchange.specs.declared.fault.ExchangeFault.{ExchangeFault}
use Rattle.exchange.specs.declared.fault.ExchangeFault.TheVariants as exchange
use Rattle.archive_server.specs.declared.fault.NetFault.TheVariants as net
use Rattle.archive_server.specs.Cause.{words_of_shelf}
use Rattle.site_desk.specs.declared.ask_fault.AskFault.TheVariants as ask
use Rattle.site_desk.specs.Faults.{words_of as words_of_desk}
use Rattle.archive_app.specs.declared.output.ending.CommandFault.{CommandFault}
use Rattle.archive_app.specs.declared.output.ending.CommandFault.TheVariants as fault
use Rattle.archive_app.specs.declared.output.cause.FileCause.{FileCause}
use Rattle.archive_app.specs.declared.output.cause.FileCause.TheVariants as file
use Rattle.archive_app.specs.declared.output.cause.NetCause.{NetCause}
use Rattle.archive_app.specs.declared.output.cause.NetCause.TheVariants as at
use Rattle.archive_app.specs.declared.output.cause.Cause.{Cause}
use Rattle.archive_app.specs.declared.output.cause.Cause.TheVariants as cause

-- what a file refuses for
abbrev pub words_of_file : FileCause → List ℕ
words_of_file file.InUse = codes "another program has it open"
words_of_file file.Absent = codes "it is not there"
words_of_file file.Folder = codes "it is a folder, and no archive's"
words_of_file file.NoFolder = codes "its folder is not there"
words_of_file file.Link = codes "it is a link that leads nowhere"
words_of_file file.NoRights = codes "no right to read and write it, or to make files in its folder"
words_of_file file.ReadOnly = codes "its file system is read-only"
words_of_file file.NotPlain = codes "it is no plain file, or has a second name"
words_of_file file.OtherKind = codes "it is no archive's file"
words_of_file file.OtherDatabase = codes "it is another program's database"
words_of_file file.Damaged = codes "it is damaged, or no archive's file"
words_of_file (file.Heads at) = codes "its file heads is damaged, at byte"
words_of_file file.NoBodies = codes "its file bodies is not there"
words_of_file file.Journal = codes "a rollback journal is beside it: open it with sqlite3 first"
words_of_file file.Full = codes "the disk is full"
words_of_file file.Failed = codes "the disk failed"
words_of_file file.Unopened = codes "it could not be opened"
words_of_file file.Unreadable = codes "some of its operations can't be read"
words_of_file file.Hidden =
    codes "a rejection note may be among what can't be read: archive exchange with another site, or a restore, "
    ++ codes "mends it; --show-without serves without it"
words_of_file file.LostFrames = codes "its -wal is damaged, and an open would lose frames: archive move brings out the rest"
words_of_file (file.Missing count) =
    codes "it held more operations, as where an older copy is in its place: archive exchange "
    ++ codes "with another site brings them, --show-without serves without; missing:"

-- what an address refuses for
abbrev pub words_of_net : NetCause → List ℕ
words_of_net at.InUse = codes "the port is in use"
words_of_net at.NotHere = codes "it is no address of this machine"
words_of_net at.NoRights = codes "no right to listen at this port"
words_of_net at.Unheard = codes "nothing can listen there"
words_of_net at.Nobody = codes "nobody listens there"
words_of_net at.NoAnswer = codes "it did not answer in time"
words_of_net at.NoWay = codes "no way leads there"
words_of_net at.Unreached = codes "it could not be reached"
words_of_net at.Silent = codes "it said nothing for as long as it may"

-- which part of a correction may not be
abbrev pub words_of_part : Part → List ℕ
words_of_part part.Key = codes "KEY is no UID, or no Patient ID, that a target can have"
words_of_part part.Tag = codes "TAG is no attribute of this target that can be corrected"
words_of_part part.Value = codes "VALUE is longer than 64, or has a byte or an outer space that it may not have"

-- what a fault alone says
abbrev pub words_of_fault : CommandFault → List ℕ
words_of_fault (fault.Simulate sim.Read) = codes "standard input could not be read"
words_of_fault (fault.Simulate sim.Write) = codes "standard output could not be written"
words_of_fault (fault.Simulate sim.LongLine) = codes "a line is longer than 65,536 bytes"
words_of_fault (fault.Simulate sim.Memory) = codes "memory was refused"
words_of_fault (fault.Simulate sim.Turns) = codes "the script does not end"
words_of_fault (fault.Shelf why) = words_of_shelf why
words_of_fault (fault.Site site.Collision) = codes "two different operations have one digest"
words_of_fault (fault.Site site.Memory) = codes "memory was refused"
words_of_fault (fault.Hub hub.Busy) = codes "the site was busy"
words_of_fault (fault.Hub hub.Collision) = codes "two different operations have one digest"
words_of_fault (fault.Hub hub.Memory) = codes "memory was refused"
words_of_fault (fault.Hub hub.StampsSpent) = codes "the last counter of stamps is used"
words_of_fault (fault.Hub hub.Torn) = codes "its workers do not agree on what it has"
words_of_fault (fault.Hub hub.Pending) = codes "memory was refused"
words_of_fault (fault.Hub hub.BadCorrection) = codes "a part of the correction may not be"
words_of_fault (fault.Run run.Read) = codes "a peer went away, or fell silent, in an association"
words_of_fault (fault.Run run.Write) = codes "a peer went away, or took nothing, in an association"
words_of_fault (fault.Run run.Memory) = codes "memory was refused"
words_of_fault (fault.Run run.Turns) = codes "an association does not end"
words_of_fault (fault.Exchange exchange.BadFrame) = codes "it sent what is no frame, or one out of its turn, or closed too soon"
words_of_fault (fault.Exchange exchange.TooLong) = codes "a frame is longer than is read or written"
words_of_fault (fault.Exchange exchange.Stranger) = codes "it sent an operation that was not asked for"
words_of_fault (fault.Exchange exchange.Io) = codes "the connection broke off"
words_of_fault (fault.Exchange exchange.Memory) = codes "memory was refused"
words_of_fault (fault.Exchange exchange.Turns) = codes "the exchange does not end"
words_of_fault (fault.Exchange exchange.Refused) = codes "an operation was refused: by a disk, or for an equal digest"
words_of_fault (fault.Net net.Listen) = codes "nothing can listen there"
words_of_fault (fault.Net net.Accept) = codes "a connection could not be accepted"
words_of_fault (fault.Net net.Connect) = codes "it could not be reached"
words_of_fault (fault.Ask ask.Broken) = codes "the connection broke off"
words_of_fault (fault.Ask ask.TooLong) = codes "its answer is longer than 64 MiB, or has too many pages"
words_of_fault (fault.Ask ask.NoAnswer) = codes "it answered what no running site does"
words_of_fault (fault.Ask ask.Memory) = codes "memory was refused"
words_of_fault (fault.Ask (ask.Refused why)) = words_of_desk why
words_of_fault (fault.Ask ask.Unready) = codes "it cannot tell that now: ask again"
words_of_fault (fault.Ask ask.Unsaid) = codes "it could not say what came of it: it may be corrected"

-- Of a shelf it is said that the disk is full exactly where its database said that there is no room.
abbrev pub SaysFullOfAFullDisk : Type 0
SaysFullOfAFullDisk =
    (error : Error) → (words_of_fault (fault.Shelf (fault_of error)) ≡ codes "the disk is full")
    ↔ (error ≡ SqliteFailure code.DiskFull)

-- whether an exchange broke off for what this side refused, and not for its peer
abbrev pub is_own : ExchangeFault → Bool
is_own exchange.BadFrame = false
is_own exchange.TooLong = false
is_own exchange.Stranger = false
is_own exchange.Io = false
is_own exchange.Memory = true
is_own exchange.Turns = false
is_own exchange.Refused = true

-- a cause in words
abbrev pub words_of : Cause → List ℕ
words_of (cause.File cause) = words_of_file cause
words_of (cause.Net cause) = words_of_net cause
words_of (cause.Part part) = words_of_part part
words_of (cause.Fault fault) = words_of_fault fault

-- the byte of a file at which it is, where that is known
abbrev pub place_in : Cause → Option ℕ
place_in (cause.File (file.Heads at)) = Some at
place_in (cause.File (file.Missing count)) = Some count
place_in _ = None

-- why a file is refused, by the kind of the system's error
abbrev pub file_cause_of : ErrorKind → FileCause
file_cause_of kind.NotFound = file.NoFolder
file_cause_of kind.NotADirectory = file.NoFolder
file_cause_of kind.PermissionDenied = file.NoRights
file_cause_of kind.IsADirectory = file.Folder
file_cause_of kind.ReadOnlyFilesystem = file.ReadOnly
file_cause_of kind.StorageFull = file.Full
file_cause_of kind.QuotaExceeded = file.Full
file_cause_of kind.Unsupported = file.NotPlain
file_cause_of _ = file.Unopened

-- why a file is refused, by the database's error, where that says it
abbrev pub file_cause_in_error : Error → Option FileCause
file_cause_in_error (SqliteFailure code.DatabaseBusy) = Some file.InUse
file_cause_in_error (SqliteFailure code.NotADatabase) = Some file.Damaged
file_cause_in_error (SqliteFailure code.DatabaseCorrupt) = Some file.Damaged
file_cause_in_error (SqliteFailure code.DiskFull) = Some file.Full
file_cause_in_error (SqliteFailure code.SystemIoFailure) = Some file.Failed
file_cause_in_error _ = None

-- why nothing can listen at an address, likewise
abbrev pub listen_cause_of : ErrorKind → NetCause
listen_cause_of kind.AddrInUse = at.InUse
listen_cause_of kind.AddrNotAvailable = at.NotHere
listen_cause_of kind.PermissionDenied = at.NoRights
listen_cause_of _ = at.Unheard

-- why a peer is not reached, likewise
abbrev pub reach_cause_of : ErrorKind → NetCause
reach_cause_of kind.ConnectionRefused = at.Nobody
reach_cause_of kind.TimedOut = at.NoAnswer
reach_cause_of kind.WouldBlock = at.NoAnswer
reach_cause_of kind.HostUnreachable = at.NoWay
reach_cause_of kind.NetworkUnreachable = at.NoWay
reach_cause_of _ = at.Unreached
