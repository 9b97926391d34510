use mathlib.Core.Logic.{inl, inr}
use mathlib.Core.Path.{refl}
use Rattle.str_writer.specs.Value.{input_fault}
use Rattle.value_writes.specs.Values.{form_of}
use Rattle.value_writes.proofs.ValueLaws.{met, integer_input}
use Rattle.value_writes.proofs.value_fault.Goals as goal

pub returns-in-Int : goal.returns-in-Int
unfolding input_fault
returns-in-Int c = elim c.in-Int.is [ inl (m, x, e) ↦ rw (e, integer_input (form_of m) x) | inr (k, n, e) ↦ rw e refl ]

pub returns-in-Str : goal.returns-in-Str
unfolding input_fault
returns-in-Str c = rw c.in-Str.is (met _ c.str_fault.ensures)
