use mathlib.Core.Path.{◌∙◌}
use Rattle.integer_writes.proofs.IntegerText.{debug-put}
use Rattle.integer_writes.proofs.number.write_debug_parts.Goals as goal

pub returns-in-Decimal-clause-as_value : goal.returns-in-Decimal-clause-as_value
returns-in-Decimal-clause-as_value c = λ k z p q. c.write_decimal.ensures ∙ debug-put c.args.flags c.args.buf.now c.args.at k z (rw c.in-Decimal.is p)

pub returns-in-Hexadecimal-clause-as_value : goal.returns-in-Hexadecimal-clause-as_value
returns-in-Hexadecimal-clause-as_value c = λ k z p q. c.write_hexadecimal.ensures ∙ debug-put c.args.flags c.args.buf.now c.args.at k z (rw (c.in-Hexadecimal.is, q))

pub returns-in-Binary-clause-as_value : goal.returns-in-Binary-clause-as_value
returns-in-Binary-clause-as_value c = λ k z p q. c.write_binary.ensures ∙ debug-put c.args.flags c.args.buf.now c.args.at k z (rw (c.in-Binary.is, q))
