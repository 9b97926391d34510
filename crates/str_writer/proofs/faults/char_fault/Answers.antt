use mathlib.Core.Path.{sym, ap, ◌∙◌}
use Rattle.error.specs.Answer.{answer_of}
use Rattle.str_writer.proofs.Values.{char-fault, char_fine}
use Rattle.str_writer.proofs.faults.char_fault.Goals as goal

pub returns-then-not-is_char : goal.returns-then-not-is_char
returns-then-not-is_char c = λ m. sym (ap answer_of (char-fault m c.args.c (sym c.is_char.ensures ∙ c.if-not-is_char.true)))

pub returns : goal.returns
returns c = λ m. sym (ap answer_of (char_fine m c.args.c (sym c.is_char.ensures ∙ c.if-not-is_char.false)))
