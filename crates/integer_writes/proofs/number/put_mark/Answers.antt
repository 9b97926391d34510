use mathlib.Core.Path.{sym}
use native.Mathlib.Omega.{arith}
use Rattle.str_writer.proofs.Splice.{splice-nil, splice-one, splice-two}
use Rattle.integer_writes.proofs.number.put_mark.Goals as goal

pub returns-in-Nothing : goal.returns-in-Nothing
returns-in-Nothing c = rw c.in-Nothing.is (sym (splice-nil c.args.buf.now c.args.at))

pub returns-in-Minus : goal.returns-in-Minus
returns-in-Minus c = rw c.in-Minus.is (splice-one c.args.buf.now c.args.at 45 (omega (arith, rw c.in-Minus.is at c.requires)))

pub returns-in-Prefix : goal.returns-in-Prefix
returns-in-Prefix c = rw c.in-Prefix.is (splice-two c.args.buf.now c.args.at 48 c.in-Prefix.letter (rw c.in-Prefix.is at c.requires))
