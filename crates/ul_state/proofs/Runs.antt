-- What a run of the table can still do, from each state.
use Rattle.std.proofs.Common.{◌≡◌, ◌≢◌, ◌≤◌, List, [], ◌∷◌, rules, arith}
use Rattle.ul_state.specs.Table.{action_of, state_after, acceptances_in, answers_in}
use Rattle.ul_state.specs.declared.table.State.TheVariants.{Sta1, Sta2, Sta6, Sta13}
use Rattle.ul_state.specs.declared.table.Kind.{Kind}
use Rattle.ul_state.specs.declared.table.Kind.TheVariants.{AcceptableRq, OtherRq, PData, ReleaseRq, Abort, OtherPdu}
use Rattle.ul_state.specs.declared.table.Kind.TheVariants.{UnknownPdu, FaultyPdu, StreamEnd, LocalAbort}
use Rattle.ul_state.specs.declared.table.ActionKind.TheVariants.{HandOn, SendAccept}

-- ---- nothing is handed on once goodbye was said

pub idle_hands_nothing_on : (kinds : List Kind) (kind : Kind) → action_of (state_after Sta1 kinds) kind ≢ HandOn
idle_hands_nothing_on [] kind = search rules
idle_hands_nothing_on (first ∷ kinds) kind = idle_hands_nothing_on kinds kind

pub closing_hands_nothing_on : (kinds : List Kind) (kind : Kind) → action_of (state_after Sta13 kinds) kind ≢ HandOn
closing_hands_nothing_on [] AcceptableRq = search rules
closing_hands_nothing_on [] OtherRq = search rules
closing_hands_nothing_on [] PData = search rules
closing_hands_nothing_on [] ReleaseRq = search rules
closing_hands_nothing_on [] Abort = search rules
closing_hands_nothing_on [] OtherPdu = search rules
closing_hands_nothing_on [] UnknownPdu = search rules
closing_hands_nothing_on [] FaultyPdu = search rules
closing_hands_nothing_on [] StreamEnd = search rules
closing_hands_nothing_on [] LocalAbort = search rules
closing_hands_nothing_on (AcceptableRq ∷ kinds) kind = closing_hands_nothing_on kinds kind
closing_hands_nothing_on (OtherRq ∷ kinds) kind = closing_hands_nothing_on kinds kind
closing_hands_nothing_on (PData ∷ kinds) kind = closing_hands_nothing_on kinds kind
closing_hands_nothing_on (ReleaseRq ∷ kinds) kind = closing_hands_nothing_on kinds kind
closing_hands_nothing_on (Abort ∷ kinds) kind = idle_hands_nothing_on kinds kind
closing_hands_nothing_on (OtherPdu ∷ kinds) kind = closing_hands_nothing_on kinds kind
closing_hands_nothing_on (UnknownPdu ∷ kinds) kind = closing_hands_nothing_on kinds kind
closing_hands_nothing_on (FaultyPdu ∷ kinds) kind = closing_hands_nothing_on kinds kind
closing_hands_nothing_on (StreamEnd ∷ kinds) kind = idle_hands_nothing_on kinds kind
closing_hands_nothing_on (LocalAbort ∷ kinds) kind = closing_hands_nothing_on kinds kind

-- ---- nothing is accepted once something was

pub idle_accepts_nothing : (kinds : List Kind) (kind : Kind) → action_of (state_after Sta1 kinds) kind ≢ SendAccept
idle_accepts_nothing [] kind = search rules
idle_accepts_nothing (first ∷ kinds) kind = idle_accepts_nothing kinds kind

pub closing_accepts_nothing : (kinds : List Kind) (kind : Kind) → action_of (state_after Sta13 kinds) kind ≢ SendAccept
closing_accepts_nothing [] AcceptableRq = search rules
closing_accepts_nothing [] OtherRq = search rules
closing_accepts_nothing [] PData = search rules
closing_accepts_nothing [] ReleaseRq = search rules
closing_accepts_nothing [] Abort = search rules
closing_accepts_nothing [] OtherPdu = search rules
closing_accepts_nothing [] UnknownPdu = search rules
closing_accepts_nothing [] FaultyPdu = search rules
closing_accepts_nothing [] StreamEnd = search rules
closing_accepts_nothing [] LocalAbort = search rules
closing_accepts_nothing (AcceptableRq ∷ kinds) kind = closing_accepts_nothing kinds kind
closing_accepts_nothing (OtherRq ∷ kinds) kind = closing_accepts_nothing kinds kind
closing_accepts_nothing (PData ∷ kinds) kind = closing_accepts_nothing kinds kind
closing_accepts_nothing (ReleaseRq ∷ kinds) kind = closing_accepts_nothing kinds kind
closing_accepts_nothing (Abort ∷ kinds) kind = idle_accepts_nothing kinds kind
closing_accepts_nothing (OtherPdu ∷ kinds) kind = closing_accepts_nothing kinds kind
closing_accepts_nothing (UnknownPdu ∷ kinds) kind = closing_accepts_nothing kinds kind
closing_accepts_nothing (FaultyPdu ∷ kinds) kind = closing_accepts_nothing kinds kind
closing_accepts_nothing (StreamEnd ∷ kinds) kind = idle_accepts_nothing kinds kind
closing_accepts_nothing (LocalAbort ∷ kinds) kind = closing_accepts_nothing kinds kind

pub open_accepts_nothing : (kinds : List Kind) (kind : Kind) → action_of (state_after Sta6 kinds) kind ≢ SendAccept
open_accepts_nothing [] AcceptableRq = search rules
open_accepts_nothing [] OtherRq = search rules
open_accepts_nothing [] PData = search rules
open_accepts_nothing [] ReleaseRq = search rules
open_accepts_nothing [] Abort = search rules
open_accepts_nothing [] OtherPdu = search rules
open_accepts_nothing [] UnknownPdu = search rules
open_accepts_nothing [] FaultyPdu = search rules
open_accepts_nothing [] StreamEnd = search rules
open_accepts_nothing [] LocalAbort = search rules
open_accepts_nothing (AcceptableRq ∷ kinds) kind = closing_accepts_nothing kinds kind
open_accepts_nothing (OtherRq ∷ kinds) kind = closing_accepts_nothing kinds kind
open_accepts_nothing (PData ∷ kinds) kind = open_accepts_nothing kinds kind
open_accepts_nothing (ReleaseRq ∷ kinds) kind = closing_accepts_nothing kinds kind
open_accepts_nothing (Abort ∷ kinds) kind = idle_accepts_nothing kinds kind
open_accepts_nothing (OtherPdu ∷ kinds) kind = closing_accepts_nothing kinds kind
open_accepts_nothing (UnknownPdu ∷ kinds) kind = closing_accepts_nothing kinds kind
open_accepts_nothing (FaultyPdu ∷ kinds) kind = closing_accepts_nothing kinds kind
open_accepts_nothing (StreamEnd ∷ kinds) kind = idle_accepts_nothing kinds kind
open_accepts_nothing (LocalAbort ∷ kinds) kind = closing_accepts_nothing kinds kind

-- ---- how many answers are sent

pub idle_acceptances : (kinds : List Kind) → acceptances_in Sta1 kinds ≡ 0
idle_acceptances [] = omega arith
idle_acceptances (first ∷ kinds) = omega (arith, idle_acceptances kinds)

pub closing_acceptances : (kinds : List Kind) → acceptances_in Sta13 kinds ≡ 0
closing_acceptances [] = omega arith
closing_acceptances (AcceptableRq ∷ kinds) = omega (arith, closing_acceptances kinds)
closing_acceptances (OtherRq ∷ kinds) = omega (arith, closing_acceptances kinds)
closing_acceptances (PData ∷ kinds) = omega (arith, closing_acceptances kinds)
closing_acceptances (ReleaseRq ∷ kinds) = omega (arith, closing_acceptances kinds)
closing_acceptances (Abort ∷ kinds) = omega (arith, idle_acceptances kinds)
closing_acceptances (OtherPdu ∷ kinds) = omega (arith, closing_acceptances kinds)
closing_acceptances (UnknownPdu ∷ kinds) = omega (arith, closing_acceptances kinds)
closing_acceptances (FaultyPdu ∷ kinds) = omega (arith, closing_acceptances kinds)
closing_acceptances (StreamEnd ∷ kinds) = omega (arith, idle_acceptances kinds)
closing_acceptances (LocalAbort ∷ kinds) = omega (arith, closing_acceptances kinds)

pub open_acceptances : (kinds : List Kind) → acceptances_in Sta6 kinds ≡ 0
open_acceptances [] = omega arith
open_acceptances (AcceptableRq ∷ kinds) = omega (arith, closing_acceptances kinds)
open_acceptances (OtherRq ∷ kinds) = omega (arith, closing_acceptances kinds)
open_acceptances (PData ∷ kinds) = omega (arith, open_acceptances kinds)
open_acceptances (ReleaseRq ∷ kinds) = omega (arith, closing_acceptances kinds)
open_acceptances (Abort ∷ kinds) = omega (arith, idle_acceptances kinds)
open_acceptances (OtherPdu ∷ kinds) = omega (arith, closing_acceptances kinds)
open_acceptances (UnknownPdu ∷ kinds) = omega (arith, closing_acceptances kinds)
open_acceptances (FaultyPdu ∷ kinds) = omega (arith, closing_acceptances kinds)
open_acceptances (StreamEnd ∷ kinds) = omega (arith, idle_acceptances kinds)
open_acceptances (LocalAbort ∷ kinds) = omega (arith, closing_acceptances kinds)

pub idle_answers : (kinds : List Kind) → answers_in Sta1 kinds ≡ 0
idle_answers [] = omega arith
idle_answers (first ∷ kinds) = omega (arith, idle_answers kinds)

pub closing_answers : (kinds : List Kind) → answers_in Sta13 kinds ≡ 0
closing_answers [] = omega arith
closing_answers (AcceptableRq ∷ kinds) = omega (arith, closing_answers kinds)
closing_answers (OtherRq ∷ kinds) = omega (arith, closing_answers kinds)
closing_answers (PData ∷ kinds) = omega (arith, closing_answers kinds)
closing_answers (ReleaseRq ∷ kinds) = omega (arith, closing_answers kinds)
closing_answers (Abort ∷ kinds) = omega (arith, idle_answers kinds)
closing_answers (OtherPdu ∷ kinds) = omega (arith, closing_answers kinds)
closing_answers (UnknownPdu ∷ kinds) = omega (arith, closing_answers kinds)
closing_answers (FaultyPdu ∷ kinds) = omega (arith, closing_answers kinds)
closing_answers (StreamEnd ∷ kinds) = omega (arith, idle_answers kinds)
closing_answers (LocalAbort ∷ kinds) = omega (arith, closing_answers kinds)

pub open_answers : (kinds : List Kind) → answers_in Sta6 kinds ≡ 0
open_answers [] = omega arith
open_answers (AcceptableRq ∷ kinds) = omega (arith, closing_answers kinds)
open_answers (OtherRq ∷ kinds) = omega (arith, closing_answers kinds)
open_answers (PData ∷ kinds) = omega (arith, open_answers kinds)
open_answers (ReleaseRq ∷ kinds) = omega (arith, closing_answers kinds)
open_answers (Abort ∷ kinds) = omega (arith, idle_answers kinds)
open_answers (OtherPdu ∷ kinds) = omega (arith, closing_answers kinds)
open_answers (UnknownPdu ∷ kinds) = omega (arith, closing_answers kinds)
open_answers (FaultyPdu ∷ kinds) = omega (arith, closing_answers kinds)
open_answers (StreamEnd ∷ kinds) = omega (arith, idle_answers kinds)
open_answers (LocalAbort ∷ kinds) = omega (arith, closing_answers kinds)

pub at_most_one_answer : (kinds : List Kind) → answers_in Sta2 kinds ≤ 1
at_most_one_answer [] = omega arith
at_most_one_answer (AcceptableRq ∷ kinds) = omega (arith, open_answers kinds)
at_most_one_answer (OtherRq ∷ kinds) = omega (arith, closing_answers kinds)
at_most_one_answer (PData ∷ kinds) = omega (arith, closing_answers kinds)
at_most_one_answer (ReleaseRq ∷ kinds) = omega (arith, closing_answers kinds)
at_most_one_answer (Abort ∷ kinds) = omega (arith, idle_answers kinds)
at_most_one_answer (OtherPdu ∷ kinds) = omega (arith, closing_answers kinds)
at_most_one_answer (UnknownPdu ∷ kinds) = omega (arith, closing_answers kinds)
at_most_one_answer (FaultyPdu ∷ kinds) = omega (arith, closing_answers kinds)
at_most_one_answer (StreamEnd ∷ kinds) = omega (arith, idle_answers kinds)
at_most_one_answer (LocalAbort ∷ kinds) = omega (arith, at_most_one_answer kinds)

pub handed_on_behind_one : (kinds : List Kind) (kind : Kind) → action_of (state_after Sta2 kinds) kind ≡ HandOn
    → acceptances_in Sta2 kinds ≡ 1
handed_on_behind_one [] AcceptableRq e = absurd cc
handed_on_behind_one [] OtherRq e = absurd cc
handed_on_behind_one [] PData e = absurd cc
handed_on_behind_one [] ReleaseRq e = absurd cc
handed_on_behind_one [] Abort e = absurd cc
handed_on_behind_one [] OtherPdu e = absurd cc
handed_on_behind_one [] UnknownPdu e = absurd cc
handed_on_behind_one [] FaultyPdu e = absurd cc
handed_on_behind_one [] StreamEnd e = absurd cc
handed_on_behind_one [] LocalAbort e = absurd cc
handed_on_behind_one (AcceptableRq ∷ kinds) kind e = omega (arith, open_acceptances kinds)
handed_on_behind_one (OtherRq ∷ kinds) kind e = absurd (closing_hands_nothing_on kinds kind e)
handed_on_behind_one (PData ∷ kinds) kind e = absurd (closing_hands_nothing_on kinds kind e)
handed_on_behind_one (ReleaseRq ∷ kinds) kind e = absurd (closing_hands_nothing_on kinds kind e)
handed_on_behind_one (Abort ∷ kinds) kind e = absurd (idle_hands_nothing_on kinds kind e)
handed_on_behind_one (OtherPdu ∷ kinds) kind e = absurd (closing_hands_nothing_on kinds kind e)
handed_on_behind_one (UnknownPdu ∷ kinds) kind e = absurd (closing_hands_nothing_on kinds kind e)
handed_on_behind_one (FaultyPdu ∷ kinds) kind e = absurd (closing_hands_nothing_on kinds kind e)
handed_on_behind_one (StreamEnd ∷ kinds) kind e = absurd (idle_hands_nothing_on kinds kind e)
handed_on_behind_one (LocalAbort ∷ kinds) kind e = omega (arith, handed_on_behind_one kinds kind e)
