use mathlib.Core.Logic.{inl, inr}
use mathlib.Core.Path.{refl}
use Rattle.str_writer.specs.Value.{cut_fault}
use Rattle.value_writes.specs.Values.{form_of}
use Rattle.value_writes.proofs.ValueLaws.{integer_uncut}
use Rattle.value_writes.proofs.cut_fault.Goals as goal

pub returns-in-Int : goal.returns-in-Int
unfolding cut_fault
returns-in-Int c = elim c.in-Int.is [
  | inl (m, x, e) ↦ rw (e, integer_uncut (form_of m) x)
  | inr o ↦ elim o [ inl (m, n, e) ↦ rw e refl | inr o' ↦ elim o' [ inl (m, r, e) ↦ rw e refl | inr (k, n, e) ↦ rw e refl ] ]
]
