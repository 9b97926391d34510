use mathlib.Core.Path.{◌≡◌, sym, ◌∙◌}
use mathlib.Core.Bool.{true, false}
use Rattle.utf8.specs.Utf8.{is_scalar}
use Rattle.char_encoding.proofs.Laws.{display-char}
use Rattle.char_encoding.proofs.char_display_len.Goals as goal

pub returns-then-not-is_char : goal.returns-then-not-is_char
returns-then-not-is_char c = let e : is_scalar c.args.c ≡ false = sym c.is_char.ensures ∙ c.if-not-is_char.true in rw e

pub returns : goal.returns
returns c = let e : is_scalar c.args.c ≡ true = sym c.is_char.ensures ∙ c.if-not-is_char.false in rw (e, display-char c.args.c e, c.utf8_len.ensures)
