-- What a request at the desk is answered.
use Rattle.std.specs.Prelude.{ℕ, List, [], ◌∷◌, ◌++◌, Result, Ok, Err, codes}
use Rattle.std.specs.Fmt.{decimal}
use Rattle.site_desk.specs.declared.answer.Answer.{Answer}
use Rattle.site_desk.specs.declared.answer.Made.{Made}
use Rattle.site_desk.specs.declared.answer.Status.{Status}
use Rattle.site_desk.specs.declared.fault.DeskFault.{DeskFault}
use Rattle.site_desk.specs.Faults.{words_of, status_of}

-- the number of a status (RFC 9110, 15)
abbrev pub number_of : Status → ℕ
number_of Status.Ok = 200
number_of Status.BadRequest = 400
number_of Status.NotFound = 404
number_of Status.MethodNotAllowed = 405
number_of Status.Conflict = 409
number_of Status.UnsupportedMediaType = 415
number_of Status.MisdirectedRequest = 421
number_of Status.ServiceUnavailable = 503

-- the stamp of a correction that was made, as `archive correct` prints it
abbrev pub stamp_line : Made → List ℕ
stamp_line made = codes "stamp " ++ decimal made.counter ++ 32 ∷ decimal made.site ++ 10 ∷ []

-- a reason as a line
abbrev pub refusal_line : DeskFault → List ℕ
refusal_line fault = words_of fault ++ 10 ∷ []

-- a correction that was made is answered with its stamp, and one that was not with the reason
abbrev pub answer_of : Result Made DeskFault → Answer
answer_of (Ok made) = record { status = Status.Ok; line = stamp_line made }
answer_of (Err fault) = record { status = status_of fault; line = refusal_line fault }
