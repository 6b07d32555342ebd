-- Which requests are refused, and why (PS3.8, 9.3.4).
use Rattle.std.specs.Prelude.{ℕ, ◌%◌, Bool, not, List, ◌==◌, ◌&&◌, nat_lt, Option, Some, None, Result, Ok, Err}
use Rattle.std.specs.Prelude.{if◌then◌else◌}
use Rattle.pdu.specs.declared.request.Request.{Request}
use Rattle.pdu.specs.declared.reject.Reject.{Reject}
use Rattle.dictionary.specs.declared.uids.TheConstants.{APPLICATION_CONTEXT_NAME}
use Rattle.ul_state.specs.declared.admission.TheConstants.{LEAST_MAXIMUM}
use Rattle.ul_state.specs.declared.titles.Title.{Title}
use Rattle.ul_state.specs.Titles.{is_text, without_spaces, may_call}

-- bit 0 is version 1 (PS3.8, 9.3.2)
abbrev pub is_version_one : ℕ → Bool
is_version_one version = version % 2 == 1

unfoldable pub is_known_context : List ℕ → Bool
is_known_context name = is_text name APPLICATION_CONTEXT_NAME

-- a limit in which no fragment fits; 0 is no limit
abbrev pub is_too_short : ℕ → Bool
is_too_short maximum = not (maximum == 0) && nat_lt maximum LEAST_MAXIMUM

abbrev pub refused : ℕ → ℕ → Reject
refused source reason = record { result = 1; source = source; reason = reason }

-- a called title that is not known, else a calling title that may not call it, else a limit in which nothing fits
abbrev pub by_title : {V : Type 0} → Request → Option (Title V) → Result V Reject
by_title request None = Err (refused 1 7)
by_title request (Some title) =
    if not (may_call title.callers (without_spaces request.opening.calling)) then Err (refused 1 3)
    else if is_too_short request.user.maximum_length then Err (refused 1 1)
    else Ok title.value

-- source and reason of the first refusal that holds, else what the called title stands for
abbrev pub admitted : {V : Type 0} → Request → Option (Title V) → Result V Reject
admitted request title =
    if not (is_version_one request.opening.version) then Err (refused 2 2)
    else if not (is_known_context request.application_context) then Err (refused 1 2)
    else by_title request title
