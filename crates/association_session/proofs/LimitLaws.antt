-- A peer that takes less than one fragment is refused.
use Rattle.std.proofs.Common.{◌≡◌, ℕ, Bool, true, false, not, cond, List, Option, Some, None, Result, Ok, Err, refl}
use Rattle.std.proofs.Common.{arith}
use Rattle.std.specs.Prelude.{◌==◌, ◌&&◌, nat_lt, IsSome}
use Rattle.pdu.specs.declared.request.Request.{Request}
use Rattle.pdu.specs.declared.reject.Reject.{Reject}
use Rattle.pdu.specs.declared.value.Pdu.TheVariants as pdus
use Rattle.ul_state.specs.declared.event.Event.{Event}
use Rattle.ul_state.specs.declared.event.Event.TheVariants as events
use Rattle.ul_state.specs.declared.titles.Title.{Title}
use Rattle.ul_state.specs.Admission.{is_too_short, by_title, is_version_one, is_known_context, refused}
use Rattle.ul_state.specs.Decision.{value_for}
use Rattle.ul_state.specs.Titles.{title_of, without_spaces, may_call}
use Rattle.ul_state.specs.Acceptor.{settled_with, settled_for}
use Rattle.association_services.specs.Response.{FitsLimit}
use Rattle.association_session.specs.Row.{sending_limit, limit_in}
use Rattle.archive_model.specs.declared.view.View.{View}

-- a limit that is not too short
fits_by : (n : ℕ) (zero large small : Bool) → (n == 0) ≡ zero → nat_lt 65536 n ≡ large → nat_lt n 8 ≡ small
    → (not zero && small) ≡ false
    → FitsLimit (cond zero 16384 (cond large 65536 n))
fits_by n true large small z l s short = (omega arith, omega arith)
fits_by n false true small z l s short = (omega arith, omega arith)
fits_by n false false true z l s short = absurd cc
fits_by n false false false z l s short = (grind (arith, s), grind (arith, l))

fits : (n : ℕ) → is_too_short n ≡ false → FitsLimit (sending_limit n)
unfolding sending_limit
fits n short = fits_by n (n == 0) (nat_lt 65536 n) (nat_lt n 8) refl refl refl short

by_caller_fits : (value v : View) (may short : Bool)
    → cond (not may) (Err (refused 1 3)) (cond short (Err (refused 1 1)) (Ok value)) ≡ Ok v → short ≡ false
by_caller_fits value v false short e = absurd cc
by_caller_fits value v true true e = absurd cc
by_caller_fits value v true false e = refl

by_title_fits : (request : Request) (title : Option (Title View)) (v : View) → by_title request title ≡ Ok v
    → is_too_short request.user.maximum_length ≡ false
by_title_fits request None v e = absurd cc
by_title_fits request (Some title) v e = by_caller_fits title.value v
    (may_call title.callers (without_spaces request.opening.calling))
    (is_too_short request.user.maximum_length) e

admitted_by : (request : Request) (title : Option (Title View)) (v : View) (version context : Bool)
    → is_version_one request.opening.version ≡ version → is_known_context request.application_context ≡ context
    → cond (not version) (Err (refused 2 2)) (cond (not context) (Err (refused 1 2)) (by_title request title)) ≡ Ok v
    → by_title request title ≡ Ok v
admitted_by request title v true true e f is = is
admitted_by request title v true false e f is = absurd cc
admitted_by request title v false context e f is = absurd cc

-- what is admitted takes a fragment
pub admitted_fits : (titles : List (Title View)) (request : Request) (v : View) → value_for titles request ≡ Ok v
    → FitsLimit (sending_limit request.user.maximum_length)
unfolding value_for
admitted_fits titles request v is =
    let title = title_of titles (without_spaces request.opening.called) in
    fits request.user.maximum_length (by_title_fits request title v
    (admitted_by request title v (is_version_one request.opening.version) (is_known_context request.application_context)
    refl refl is))

settled_request : (titles : List (Title View)) (request : Request) (value : Result View Reject)
    → value_for titles request ≡ value → IsSome (settled_with request value)
    → FitsLimit (sending_limit request.user.maximum_length)
settled_request titles request (Ok v) is some = admitted_fits titles request v is
settled_request titles request (Err reject) is some = absurd cc

-- what an event settles takes a fragment
pub settled_fits : (titles : List (Title View)) (event : Event) → IsSome (settled_for titles event)
    → FitsLimit (limit_in event)
settled_fits titles (events.Got (pdus.AssociateRq request)) some = settled_request titles
    request (value_for titles request) refl some
settled_fits titles (events.Got (pdus.AssociateAc accept)) some = absurd cc
settled_fits titles (events.Got (pdus.AssociateRj reject)) some = absurd cc
settled_fits titles (events.Got (pdus.PData values)) some = absurd cc
settled_fits titles (events.Got pdus.ReleaseRq) some = absurd cc
settled_fits titles (events.Got pdus.ReleaseRp) some = absurd cc
settled_fits titles (events.Got (pdus.Abort source reason)) some = absurd cc
settled_fits titles (events.Bad fault) some = absurd cc
settled_fits titles events.Ended some = absurd cc
settled_fits titles events.LocalAbort some = absurd cc
