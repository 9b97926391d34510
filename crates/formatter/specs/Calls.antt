-- The call that an Op and the text lent beside it are, and what is no call.
use Rattle.std.specs.Prelude.{List, ℕ, Option, Some, None}
use Rattle.error.specs.declared.Error.TheVariants.{WrongCall}
use Rattle.error.specs.Answer.{number_of}
use Rattle.calls.specs.Call.{Call, opens, place, value, sub, endsub, finish, hold}
use Rattle.calls.specs.Model.{State, Out, beyond, fault_of, step}
use Rattle.writer_backend.specs.Pieces.{place_of}
use Rattle.value_writes.specs.Values.{value_of}
use Rattle.formatter.specs.declared.dispatch.Op.{Op}
use Rattle.formatter.specs.declared.dispatch.Op.TheVariants.{Open, Place, Finish, Sub, EndSub, Value}

-- Document 01, 'A nested record': the calls of a run
abbrev pub call_of : Op → List ℕ → Call
call_of (Open k) s = opens k s
call_of (Place p) s = place (place_of p s)
call_of Finish s = finish
call_of (Sub f) s = sub f
call_of EndSub s = endsub
call_of (Value v) s = value (value_of v s)

-- Document 01, 'The answer to a call', order: 9 before all; docs/DECISIONS.md, 'The formatter': what is no call meets 8
abbrev pub fault_or : State → Option Call → ℕ
fault_or F (Some c) = fault_of F c
fault_or F None = hold (beyond F.output.mode F.output.bytes) (number_of WrongCall)

-- Document 01, 'A nested record': what a call does; what is no call changes nothing
abbrev pub step_or : State → Option Call → Out
step_or F (Some c) = step F c
step_or F None = record { answer = fault_or F None; state = F }
