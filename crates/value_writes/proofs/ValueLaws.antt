-- A value judged, then emitted: the fault that it meets, or its text placed or counted; and the parts of its length.
use mathlib.Core.Bool.{Bool, true, false, cond}
use Rattle.std.proofs.Common.{Option, Some, None, Ok, Err, nat_lt, ◌^◌}
use mathlib.Core.Path.{◌≡◌, refl, sym, ap}
use mathlib.Core.List.{List, [], ◌∷◌, ◌++◌}
use Prim.Native.Nat.{ℕ, ◌-◌}
use native.Mathlib.Omega.{arith}
use lib.Dec.{ltb}
use lib.IntN.{ℤ, pos}
use lib.ListN.{length}
use lib.Seq.{length-slice}
use Rattle.error.specs.declared.Error.TheVariants.{NotAChar, CountTooLarge, BadCursor}
use Rattle.error.specs.declared.Error.{Error}
use Rattle.error.specs.Answer.{Answer, number_of, answer_of, answer_number}
use Rattle.formatting.specs.declared.flags.FormattingFlags.{FormattingFlags}
use Rattle.formatting.specs.declared.flags.NumberFormatting.{NumberFormatting}
use Rattle.formatting.specs.declared.flags.NumberFormatting.TheVariants.{Decimal, Hexadecimal, Binary}
use Rattle.utf8.specs.Utf8.{is_scalar}
use Rattle.char_encoding.specs.Char.{unless_no_char}
use Rattle.pwrapper.specs.QuotedCount.{count_of}
use Rattle.utils.specs.declared.Range.{Range}
use Rattle.utils.specs.Text.{saturated, part}
use Rattle.pwrapper.specs.Number.{decimal, display_text, twos_complement, debug_in, debug_parts}
use Rattle.str_writer.specs.Value.{Form, display, debug, Value, integer, char, text_of, input_fault, cut_fault}
use Rattle.str_writer.specs.Write.{Written, Outcome, outcome, placed, unless}
use Rattle.str_writer.specs.Write.{put as put_text}
use Rattle.char_encoding.proofs.Laws.{told}
use Rattle.str_writer.proofs.Values.{char_fine}
use Rattle.pwrapper.proofs.Ranges.{clamped_end}
use Rattle.error.specs.Answer.{fault_number}
use Rattle.calls.specs.Model.{Mode, counting, writing, to, wrote, put_in, beyond}
use Rattle.writer_backend.specs.declared.pieces.WriterBackend.{WriterBackend}
use Rattle.value_writes.specs.declared.Integer.{Integer}
use Rattle.value_writes.specs.declared.Integer.TheVariants.{Unsigned, Signed}
use Rattle.value_writes.specs.declared.Parts.{Parts}
use Rattle.writer_backend.specs.Output.{mode_of, is_counting, moved_by, added, output_of}
use Rattle.writer_backend.proofs.Output.{counts, writes}
use Rattle.writer_backend.proofs.Sequence.{error_number}
use Rattle.value_writes.specs.Values.{bits_of, integer_of, heeded_by, text_of_parts, unless_fault, judged_in, emitted, value_judged, value_out}

-- the number of an answer to what is met
pub met : {r : Answer} (x : Option Error) → r ≡ answer_of x → answer_number r ≡ fault_number x
met None e = rw e
met (Some x) e = rw e

-- a character's length, or 5
module _ (m : Form) (c n : ℕ) where
  pub char_counted : (k : ℕ) → Ok k ≡ unless_no_char c n → (k ≡ n) × (0 ≡ fault_number (input_fault (char m c)))
  char_counted k e = let t = told c k n e in (t.1, sym (ap fault_number (char_fine m c t.0)))

  pub char_met : (e : Error) → Err e ≡ unless_no_char c n → number_of e ≡ fault_number (input_fault (char m c))
  unfolding input_fault
  char_met e p = go (is_scalar c) p
    where
      go : (b : Bool) → Err e ≡ cond b (Ok n) (Err NotAChar) → number_of e ≡ fault_number (cond b None (Some NotAChar))
      go true q = cc
      go false q = let w : e ≡ NotAChar = cc in rw w

-- a quoted text's length
pub quoted_counted : (n k : ℕ) → Ok k ≡ count_of n → k ≡ n
quoted_counted n k e = go (nat_lt n (2 ^ 64)) e
  where
    go : (b : Bool) → Ok k ≡ cond b (Ok n) (Err CountTooLarge) → k ≡ n
    go true q = cc
    go false q = cc

-- a value is judged by its input, then, in writing, by its range
module _ (m : Mode) (v : Value) where
  pub judged_input : (e : Error) → number_of e ≡ fault_number (input_fault v) → number_of e ≡ judged_in m v
  judged_input e p = rw (← p, error_number e)

  pub judged_counting : {n : ℕ} → m ≡ counting n → 0 ≡ fault_number (input_fault v) → 0 ≡ judged_in m v
  judged_counting q p = rw (← p, q)

  pub judged_writing : {n : ℕ} → m ≡ writing n → 0 ≡ fault_number (input_fault v) → fault_number (cut_fault v) ≡ judged_in m v
  judged_writing q p = rw (← p, q)

judged_uncut : (m : Mode) (v : Value) → cut_fault v ≡ None → 0 ≡ fault_number (input_fault v) → 0 ≡ judged_in m v
judged_uncut (counting n) v u p = rw (← p)
judged_uncut (writing n) v u p = rw (← p, u)

-- a text whose length is added, or that a single write puts
module _ (w : WriterBackend) {r : Bool} (e : r ≡ is_counting (mode_of w)) where
  pub emits_len : r ≡ true → (b t : List ℕ) {n : ℕ} → n ≡ length t → added (mode_of w) b n ≡ emitted (mode_of w) b t
  emits_len q b t l = rw (counts w e q, l)

  pub emits : r ≡ false → (b : List ℕ) {b' : List ℕ} (t : List ℕ) (x : Written) → outcome x b' ≡ put_text b w.number t → moved_by (mode_of w) b' x ≡ emitted (mode_of w) b t
  emits q b t x p = rw (writes w e q) (ap wrote p)

-- what a value answers: 9 before all, then a fault that it meets, else its text is emitted
module _ (w : WriterBackend) (b : List ℕ) (f : FormattingFlags) (v : Value) where
  pub value_past : (e : Error) → number_of e ≡ beyond (mode_of w) b → to (mode_of w) b (number_of e) ≡ value_out w b f v
  unfolding value_out
  value_past e p = rw (← p, error_number e)

  pub value_within : 0 ≡ beyond (mode_of w) b → value_judged w b f v ≡ value_out w b f v
  unfolding value_out put_text
  value_within p = rw (← p) (ap (unless_fault (judged_in (mode_of w) v) (output_of w b)) (by_mode (mode_of w) p))
    where
      by_test : (c : Bool) (n : ℕ) (o : Outcome) → 0 ≡ fault_number (cond c (Some BadCursor) None) → wrote (unless (cond c (Some BadCursor) None) b n o) ≡ wrote o
      by_test true n o z = absurd (omega (arith, z))
      by_test false n o z = refl

      by_mode : (m : Mode) → 0 ≡ beyond m b → emitted m b (text_of f v) ≡ put_in m b (text_of f v)
      by_mode (counting n) z = refl
      by_mode (writing n) z = by_test (ltb (length b) n) n (placed b n (text_of f v)) z

  pub judged-refused : (e : Error) → number_of e ≡ judged_in (mode_of w) v → to (mode_of w) b (number_of e) ≡ value_judged w b f v
  judged-refused e p = rw (← p, error_number e)

  pub judged-emitted : 0 ≡ judged_in (mode_of w) v → emitted (mode_of w) b (text_of f v) ≡ value_judged w b f v
  judged-emitted p = rw (← p)

  -- by its input alone, and where no range cuts it
  pub input-refused : (e : Error) → number_of e ≡ fault_number (input_fault v) → to (mode_of w) b (number_of e) ≡ value_judged w b f v
  input-refused e p = judged-refused e (judged_input (mode_of w) v e p)

  pub uncut-emitted : cut_fault v ≡ None → 0 ≡ fault_number (input_fault v) → emitted (mode_of w) b (text_of f v) ≡ value_judged w b f v
  uncut-emitted u p = judged-emitted (judged_uncut (mode_of w) v u p)

-- what holds of every integer, of any width, holds of one by its type
by_type : (P : Value → Type 0) (m : Form) → ((k : ℕ) (z : ℤ) → P (integer m k z)) → (x : Integer) → P (integer_of m x)
by_type P m h (Unsigned w n) = h (bits_of w) (pos n)
by_type P m h (Signed w z) = h (bits_of w) z

-- an integer meets nothing
pub integer_input : (m : Form) (x : Integer) → input_fault (integer_of m x) ≡ None
unfolding input_fault
integer_input m x = by_type (λ v. input_fault v ≡ None) m (λ k z. refl) x

pub integer_uncut : (m : Form) (x : Integer) → cut_fault (integer_of m x) ≡ None
unfolding cut_fault
integer_uncut m x = by_type (λ v. cut_fault v ≡ None) m (λ k z. refl) x

-- an integer's text by the flags that it heeds: its display form is decimal, its debug form by the flags
pub integer-text : (m : Form) (f : FormattingFlags) (k : ℕ) (z : ℤ) (p : Parts) → p.flags ≡ heeded_by m f → display_text z ≡ cond p.is_negative (45 ∷ []) [] ++ decimal p.n → twos_complement k z ≡ p.bits → text_of f (integer m k z) ≡ text_of_parts p
unfolding text_of
integer-text display f k z p e t b = rw (e, t)
integer-text debug f k z p e t b = rw e (by_format f.num_fmt)
  where
    by_format : (x : NumberFormatting) → debug_in x f k z ≡ debug_parts x f p.is_negative p.n p.bits
    by_format Decimal = t
    by_format Hexadecimal = rw b
    by_format Binary = rw b

-- the length of a clamped range
pub clamped_length : (s : List ℕ) (r q : Range) → q ≡ saturated s r → q.end - q.start ≡ length (part s r)
clamped_length s r q e = rw e (sym (length-slice (saturated s r).start (saturated s r).end s (clamped_end s r (saturated s r) refl)))
