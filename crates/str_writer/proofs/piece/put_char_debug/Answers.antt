use mathlib.Core.Bool.{false}
use mathlib.Core.List.{[]}
use mathlib.Core.Path.{◌≡◌}
use Prim.Native.Nat.{ℕ}
use Rattle.utf8.specs.Utf8.{is_scalar}
use Rattle.char_encoding.specs.Char.{char_debug}
use Rattle.str_writer.proofs.Values.{untold}
use Rattle.str_writer.proofs.piece.put_char_debug.Goals as goal

debug-none : (c : ℕ) → is_scalar c ≡ false → char_debug c ≡ []
unfolding char_debug
debug-none c h = simp h

pub returns-in-Err : goal.returns-in-Err
returns-in-Err c = rw (debug-none c.args.c (untold c.args.c _ _ c.in-Err.ensures)) c.put-in-Err.ensures
