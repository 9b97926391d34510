-- The outcomes of a write, a law for each, as the writers' returns cite them.
use mathlib.Core.Path.{◌≡◌, refl, ◌∙◌}
use mathlib.Core.List.{List, [], ◌∷◌}
use Rattle.std.specs.Prelude.{Option, Some, None, Ok}
use Prim.Native.Nat.{ℕ, ◌+◌, ◌-◌, ◌≤◌, ◌<◌}
use native.Mathlib.Omega.{arith}
use lib.ListN.{length}
use borrow.Author.Tests.{lt-ltb, le-ltb}
use Rattle.error.specs.declared.Error.{Error}
use Rattle.error.specs.declared.Error.TheVariants.{NotEnoughSpace, BadCursor}
use Rattle.formatting.specs.declared.flags.FormattingFlags.{FormattingFlags}
use Rattle.str_writer.specs.Value.{Value, text_of, input_fault, cut_fault}
use Rattle.str_writer.specs.Write.{outcome, splice, refused, placed, cursor_fault, first_of, unless, put, write}

module _ (b : List ℕ) (at : ℕ) (t : List ℕ) where
  -- 1: the piece is longer than what is left
  pub placed-short : at ≤ length b → length b - at < length t → refused NotEnoughSpace b at ≡ placed b at t
  unfolding placed
  placed-short h k = simp (lt-ltb (length b) (at + length t) (omega arith))

  -- 0: the text at the cursor, and the cursor past it
  pub placed-done : at ≤ length b → length t ≤ length b - at → outcome (record { at = at + length t; answer = Ok tt }) (splice b at t) ≡ placed b at t
  unfolding placed
  placed-done h k = simp (le-ltb (length b) (at + length t) (omega arith))

  pub put_bad : length b < at → refused BadCursor b at ≡ put b at t
  unfolding put
  put_bad h = simp (lt-ltb _ _ h)

  pub put-placed : at ≤ length b → placed b at t ≡ put b at t
  unfolding put
  put-placed h = simp (le-ltb _ _ h)

  pub put-short : at ≤ length b → length b - at < length t → refused NotEnoughSpace b at ≡ put b at t
  put-short h k = placed-short h k ∙ put-placed h

  pub put-done : at ≤ length b → length t ≤ length b - at → outcome (record { at = at + length t; answer = Ok tt }) (splice b at t) ≡ put b at t
  put-done h k = placed-done h k ∙ put-placed h

-- what meets no fault but 9 is put as a piece
pub put-write : (f : FormattingFlags) (b : List ℕ) (at : ℕ) (v : Value) → input_fault v ≡ None → cut_fault v ≡ None → put b at (text_of f v) ≡ write f b at v
unfolding put write
put-write f b at v e k = rw (e, k) (alone (cursor_fault b at))
  where
    alone : (c : Option Error) → unless c b at (placed b at (text_of f v)) ≡ unless (first_of (c ∷ None ∷ None ∷ [])) b at (placed b at (text_of f v))
    alone None = refl
    alone (Some a) = refl
