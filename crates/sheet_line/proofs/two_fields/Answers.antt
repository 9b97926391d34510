use Rattle.std.proofs.Common.{arith}
use Rattle.sheet_line.specs.Line.{two_fields}
use Rattle.sheet_line.proofs.Words.{words}
use Rattle.sheet_line.proofs.two_fields.Goals as goal

pub returns-in-open : goal.returns-in-open
unfolding two_fields
returns-in-open c = let e = c.without_text.ensures c.args.text.now in grind (arith, words, c.open_bare.ensures)

pub returns-in-char : goal.returns-in-char
unfolding two_fields
returns-in-char c = let e = c.without_text-in-char.ensures c.args.text.now in grind (arith, words, c.char_op.ensures)
