-- Why the desk makes no correction, or does not show it yet: in words, and by its status.
use Rattle.std.specs.Prelude.{ℕ, List, codes}
use Rattle.site_desk.specs.declared.answer.Status.{Status}
use Rattle.site_desk.specs.declared.answer.Status.TheVariants.{BadRequest, NotFound, MethodNotAllowed, Conflict}
use Rattle.site_desk.specs.declared.answer.Status.TheVariants.{UnsupportedMediaType, MisdirectedRequest}
use Rattle.site_desk.specs.declared.answer.Status.TheVariants.{ServiceUnavailable}
use Rattle.site_desk.specs.declared.fault.DeskFault.{DeskFault}
use Rattle.site_desk.specs.declared.fault.DeskFault.TheVariants.{NoPath, NoPost, HasOrigin, NoKind, NoForm, NoObject}
use Rattle.site_desk.specs.declared.fault.DeskFault.TheVariants.{NoChange, BadKey, BadTag, BadValue, NoSite}
use Rattle.site_desk.specs.declared.fault.DeskFault.TheVariants.{ForeignHost, StampsSpent}
use Rattle.site_desk.specs.declared.fault.DeskFault.TheVariants.{Shelf, Busy, Unshown, Memory}

-- the reason, in words: of a part as `archive correct` names it
abbrev pub words_of : DeskFault → List ℕ
words_of ForeignHost = codes "this name is not one of the site's: see --name"
words_of NoPath = codes "there is no such path: a correction is posted to /correct"
words_of NoPost = codes "a correction is asked for by POST"
words_of HasOrigin = codes "no page in a browser may correct"
words_of NoKind = codes "a correction is application/x-www-form-urlencoded or application/json"
words_of NoForm = codes "a form has target, key, tag and value, each once, and nothing else"
words_of NoObject = codes "an object has target, key, tag and value, each a string"
words_of NoChange = codes "TARGET is study, patient or series, and TAG eight hexadecimal digits"
words_of BadKey = codes "KEY is no UID, or no Patient ID, that a target can have"
words_of BadTag = codes "TAG is no attribute of this target that can be corrected"
words_of BadValue = codes "VALUE is longer than 64, or has a byte or an outer space that it may not have"
words_of NoSite = codes "the site has no number"
words_of StampsSpent = codes "the last counter of stamps is used"
words_of Shelf = codes "the shelf refused the correction"
words_of Busy = codes "the site is busy, or its workers do not agree: try again"
words_of Unshown = codes "it is stored, and shown once the site is started again at the latest"
words_of Memory = codes "memory was refused"

-- its status (RFC 9110, 15)
abbrev pub status_of : DeskFault → Status
status_of ForeignHost = MisdirectedRequest
status_of NoPath = NotFound
status_of NoPost = MethodNotAllowed
status_of HasOrigin = BadRequest
status_of NoKind = UnsupportedMediaType
status_of NoForm = BadRequest
status_of NoObject = BadRequest
status_of NoChange = BadRequest
status_of BadKey = BadRequest
status_of BadTag = BadRequest
status_of BadValue = BadRequest
status_of NoSite = ServiceUnavailable
status_of StampsSpent = Conflict
status_of Shelf = ServiceUnavailable
status_of Busy = ServiceUnavailable
status_of Unshown = ServiceUnavailable
status_of Memory = ServiceUnavailable
