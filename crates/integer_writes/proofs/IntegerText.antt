-- Integers: a prefix with digits after it at the cursor, and an integer by its sign, its absolute value and its two's complement.
use mathlib.Core.Path.{◌≡◌, refl}
use mathlib.Core.List.{List, ◌++◌}
use Prim.Native.Nat.{ℕ, ◌+◌, ◌-◌, ◌≤◌}
use native.Mathlib.Omega.{arith}
use lib.IntN.{ℤ}
use lib.ListN.{length, length-append}
use Rattle.std.specs.Prelude.{⊤, Ok}
use Rattle.error.specs.Answer.{answer_of}
use Rattle.formatting.specs.declared.flags.FormattingFlags.{FormattingFlags}
use Rattle.pwrapper.specs.Number.{display_text, debug_text}
use Rattle.str_writer.specs.Value.{Form, display, debug, integer, text_of, input_fault, cut_fault}
use Rattle.str_writer.specs.Write.{outcome, splice, cursor_fault, put, write}
use Rattle.str_writer.proofs.Splice.{splice-splice, length-splice}
use Rattle.str_writer.proofs.Outcomes.{put-done, put-write}
use Rattle.str_writer.proofs.Judging.{met, cursor-fits, put-fits}

-- where a text of len bytes fits, p with the digits d after it: p can be put, then d, and the two are the text
pub record Prefixed (b : List ℕ) (at : ℕ) (p d : List ℕ) (len : ℕ) : Type 0 where
  pub room : at + len ≤ length b
  pub prefix : at + length p ≤ length b
  pub digits : (length d ≤ at + len) × (at + len ≤ length (splice b at p))
  pub done : outcome (record { at = at + len; answer = Ok tt }) (splice (splice b at p) (at + len - length d) d) ≡ put b at (p ++ d)

-- past the tests of the cursor and of the room such a text fits
module _ (b : List ℕ) (at : ℕ) (p d : List ℕ) {len : ℕ} (e : len ≡ length (p ++ d)) where
  pub prefixed : {u v : ⊤} → Ok u ≡ answer_of (cursor_fault b at) → (at ≤ length b → Ok v ≡ (put b at (p ++ d)).written.answer) → Prefixed b at p d len
  prefixed k g =
      let h = put-fits b at (p ++ d) _ (g (cursor-fits b at (met _ _ k))) in
      let l : length (p ++ d) ≡ length p + length d = length-append p d in
      let m : at + len - length d ≡ at + length p = omega arith in
      record {
        room = omega arith;
        prefix = omega arith;
        digits = rw (length-splice b at p (omega arith)) (omega arith);
        done = rw (m, splice-splice b at p d (omega arith), e) (put-done b at (p ++ d) (omega arith) (omega arith));
      }

-- an integer meets no fault: its text is put as a piece
module _ (f : FormattingFlags) (b : List ℕ) (at k : ℕ) (z : ℤ) where
  pub write-integer : (m : Form) → put b at (text_of f (integer m k z)) ≡ write f b at (integer m k z)
  unfolding input_fault cut_fault
  write-integer m = put-write f b at (integer m k z) refl refl

  pub display-put : {t : List ℕ} → display_text z ≡ t → put b at t ≡ write f b at (integer display k z)
  unfolding text_of
  display-put e = rw (← e) (write-integer display)

  pub debug-put : {t : List ℕ} → debug_text f k z ≡ t → put b at t ≡ write f b at (integer debug k z)
  unfolding text_of
  debug-put e = rw (← e) (write-integer debug)
