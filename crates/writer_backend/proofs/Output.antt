-- One piece: its length added to a total, or its text written at the cursor.
use mathlib.Core.Bool.{Bool, true, false, false≢true}
use mathlib.Core.Path.{◌≡◌, refl, sym, ap, ◌∙◌}
use mathlib.Core.List.{List}
use Prim.Native.Nat.{ℕ, zero, suc, ◌+◌, ◌%◌, ◌≤◌, ◌<◌}
use native.Mathlib.Omega.{arith}
use lib.ListN.{length}
use borrow.Author.Tests.{lt-ltb}
use Rattle.calls.specs.Model.{to, counting, writing, put_in, put, wrote}
use Rattle.str_writer.specs.Write.{Written, outcome, placed}
use Rattle.str_writer.specs.Write.{put as put_text}
use Rattle.str_writer.proofs.Outcomes.{put-placed}
use Rattle.writer_backend.specs.declared.pieces.WriterBackend.{WriterBackend}
use Rattle.writer_backend.specs.Output.{as_mode, mode_of, is_counting, moved_by, added, output_of}

as_counting : (t n : ℕ) → is_counting (as_mode t n) ≡ true → as_mode t n ≡ counting n
as_counting zero n e = absurd (false≢true e)
as_counting (suc t) n e = refl

as_writing : (t n : ℕ) → is_counting (as_mode t n) ≡ false → as_mode t n ≡ writing n
as_writing zero n e = refl
as_writing (suc t) n e = absurd (false≢true (sym e))

-- the mode that `is_counting` tells
module _ (w : WriterBackend) {r : Bool} (e : r ≡ is_counting (mode_of w)) where
  pub counts : r ≡ true → mode_of w ≡ counting w.number
  counts t = as_counting (w.mode % 2) w.number (sym e ∙ t)

  pub writes : r ≡ false → mode_of w ≡ writing w.number
  writes t = as_writing (w.mode % 2) w.number (sym e ∙ t)

  -- a length added to a total, where a text is counted
  pub adds : r ≡ true → (b t : List ℕ) {n : ℕ} → n ≡ length t → added (mode_of w) b n ≡ put_in (mode_of w) b t
  adds q b t l = rw (counts q, l)

module _ (w : WriterBackend) (b : List ℕ) (e : mode_of w ≡ writing w.number) (s : List ℕ) where
  -- a cursor past the bytes has no room
  pub put_past : length b < w.number → to (mode_of w) b 1 ≡ put (output_of w b) s
  unfolding placed
  put_past h = rw (e, lt-ltb (length b) (w.number + length s) (omega arith))

  pub put-writes : w.number ≤ length b → wrote (put_text b w.number s) ≡ put (output_of w b) s
  put-writes h = rw (e, ← put-placed b w.number s h)

-- a single write at a cursor within the bytes, as a piece
pub written : (w : WriterBackend) {r : Bool} → r ≡ is_counting (mode_of w) → r ≡ false → (b : List ℕ) {b' : List ℕ} (t : List ℕ) (x : Written) → w.number ≤ length b → outcome x b' ≡ put_text b w.number t → moved_by (mode_of w) b' x ≡ put (output_of w b) t
written w e q b {b'} t x h p =
    let m = writes w e q in
    let same : moved_by (mode_of w) b' x ≡ wrote (outcome x b') = rw m in
    same ∙ ap wrote p ∙ put-writes w b m t h
