-- Document 01, 'A nested record, and its count': the counter, one call that it counts, and a length that is added to it.
use Rattle.std.specs.Prelude.{cond, ◌≡◌, List, [], ℕ, ◌+◌, ltb, eqb, Option}
use Rattle.error.specs.Answer.{Answer, done, number_of, answer_number}
use Rattle.error.specs.declared.Error.TheVariants.{CountTooLarge}
use Rattle.calls.specs.Model.{counting, State, Out, most}
use Rattle.formatter.specs.declared.head.Head.{Head}
use Rattle.formatter.specs.declared.entries.Entry.{Entry}
use Rattle.formatter.specs.View.{stack_of, open_of, view_out}
use Rattle.calls.specs.Call.{Call}
use Rattle.run.specs.declared.Ran.{Ran}
use Rattle.run.specs.Played.{Played, end_counted}
use Rattle.compute_str_length.specs.declared.CountedCall.{CountedCall}
use Rattle.compute_str_length.specs.declared.CountedThenAdded.{CountedThenAdded}

-- 'The answer to a call': what a length that is added answers, and the total then
pub record Added : Type 0 where
  pub answer : ℕ
  pub total : ℕ

-- 'The answer to a call', 6: where the total would pass 2^64 - 1 it stays; else the length is added
unfoldable pub add_to : ℕ → ℕ → Added
add_to total n = cond (ltb most (total + n)) (record { answer = number_of CountTooLarge; total = total }) (record { answer = done; total = total + n })

-- 'A nested record': the formatter that a head and its stack are where the counter has the total; the head's own mode says nothing
abbrev pub counting_at : ℕ → Head → List Entry → State
counting_at total h s = record { output = record { mode = counting total; bytes = [] }; flags = h.flags; margin = h.margin; stack = stack_of (open_of h s) }

-- 'A nested record': one counter, lent through the calls and advanced by each: the answer r, the head h and the stack s are what a call gives, o, and the formatter then counts on from the counter's total
abbrev pub CountsCall : Answer → Head → List Entry → ℕ → Out → Type 0
CountsCall r h s total o = (view_out r h s [] ≡ o) × (o.state.output.mode ≡ counting total)

-- 'A nested record': the same, and whether the total is then 0
abbrev pub CountsCallThenLen : CountedCall → List Entry → Out → Type 0
CountsCallThenLen r s o = CountsCall r.answer r.head s r.total o × (r.empty ≡ eqb r.total 0)

-- 'A nested record': one counter, lent through the calls: the same as of a call, of a run of the calls ds that ends in p
abbrev pub CountsRun : List (Option Call) → Ran → ℕ → Played → Type 0
CountsRun ds r total p = (end_counted ds r ≡ p) × (p.output.mode ≡ counting total)

-- 'A nested record': r is what a run of the calls ds gives that ends in p, and what a length n answers and leaves that is added to its total
abbrev pub CountsThenAdds : List (Option Call) → CountedThenAdded → Played → ℕ → Type 0
CountsThenAdds ds r p n = (end_counted ds r.ran ≡ p) × (◌≡◌ {A = Added} (record { answer = answer_number r.answer; total = r.total }) (add_to r.ran.number n))
