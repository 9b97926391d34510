-- The text of a value that meets no fault is well formed, and a write keeps what stands before the cursor well formed.
use mathlib.Core.Bool.{Bool, true, false, cond, and-eq-true_iff}
use mathlib.Core.Logic.{dite}
use mathlib.Core.List.{List, [], ◌∷◌, ◌++◌}
use Rattle.std.specs.Prelude.{Option, Some, None}
use Rattle.std.proofs.lemmas.Option.{none-some}
use mathlib.Core.Path.{◌≡◌, refl, sym, ◌∙◌}
use Prim.Native.Nat.{ℕ, ◌+◌, ◌-◌, ◌%◌, ◌≤◌}
use native.Mathlib.Decide.{dec_lt}
use native.Mathlib.Omega.{arith}
use lib.ListN.{length, take, length-append}
use lib.Seq.{take_at, length-take-le}
use borrow.Author.Tests.{lt-ltb}
use Rattle.error.specs.declared.Error.{Error}
use Rattle.error.specs.declared.Error.TheVariants.{BadCursor, NotUtf8, NotAChar, NotOnCharBoundary}
use Rattle.formatting.specs.declared.flags.FormattingFlags.{FormattingFlags}
use Rattle.utf8.specs.Utf8.{is_scalar, well_formed}
use Rattle.utf8.proofs.Rfc3629.{append, octets_well_formed}
use Rattle.utils.specs.Text.{saturated, part, is_boundary}
use Rattle.char_encoding.specs.Char.{char_display, char_inner, char_debug}
use Rattle.char_encoding.proofs.Laws.{display-char, inner-low, inner-high, debug-some}
use Rattle.str_writer.specs.Value.{Form, display, debug, Value, integer, char, str, ascii, repeated, string_text, text_of, input_fault, cut_fault}
use Rattle.str_writer.specs.Write.{KeepsWellFormed, Outcome, refused, placed, cursor_fault, first_of, unless, write}
use Rattle.str_writer.proofs.AsciiText.{low_part, low-ascii, low-replicate, low_escape, low-display, low-debug}
use Rattle.str_writer.proofs.Outcomes.{placed-short, placed-done}
use Rattle.str_writer.proofs.Utf8Text.{ascii_well_formed, marked_well_formed, quoted_well_formed, part_well_formed}

-- the texts of a character
module _ (c : ℕ) (e : is_scalar c ≡ true) where
  pub char-display_well_formed : well_formed (char_display c) ≡ true
  char-display_well_formed = rw (display-char c e) (octets_well_formed c e)

  char-inner_well_formed : well_formed (char_inner c) ≡ true
  char-inner_well_formed =
      dite (dec_lt c 128)
      (λ h. rw (inner-low c h) (ascii_well_formed (low_escape c h)))
      (λ h. rw (inner-high c (omega arith)) char-display_well_formed)

  pub char-debug_well_formed : well_formed (char_debug c) ≡ true
  char-debug_well_formed = rw (debug-some c e) (marked_well_formed 39 (omega arith) (char_inner c) char-inner_well_formed)

-- a string, bare or quoted
pub string_well_formed : (m : Form) (t : List ℕ) → well_formed t ≡ true → well_formed (string_text m t) ≡ true
string_well_formed display t e = e
string_well_formed debug t e = quoted_well_formed t e

-- a test that meets no fault
passed : (t : Bool) (a : Error) → cond t None (Some a) ≡ None → t ≡ true
passed true a e = refl
passed false a e = absurd (none-some a (sym e))

pub text_well_formed : (f : FormattingFlags) (v : Value) → input_fault v ≡ None → cut_fault v ≡ None → well_formed (text_of f v) ≡ true
unfolding text_of input_fault cut_fault
text_well_formed f (integer display k z) e h = ascii_well_formed (low-display z)
text_well_formed f (integer debug k z) e h = ascii_well_formed (low-debug f k z)
text_well_formed f (char display c) e h = char-display_well_formed c (passed (is_scalar c) NotAChar e)
text_well_formed f (char debug c) e h = char-debug_well_formed c (passed (is_scalar c) NotAChar e)
text_well_formed f (str m s r) e h =
    let b = (and-eq-true_iff (is_boundary s (saturated s r).start) (is_boundary s (saturated s r).end)).0 (passed _ NotOnCharBoundary h) in
    string_well_formed m (part s r) (part_well_formed s r (passed (well_formed s) NotUtf8 e) b.0 b.1)
text_well_formed f (ascii m s r) e h =
    string_well_formed m (part s r) (ascii_well_formed (low_part s r (low-ascii s 0 e)))
text_well_formed f (repeated c n) e h = ascii_well_formed (low-replicate n (c % 128) (omega arith))

-- what stands before the cursor is well formed
abbrev pub Kept : Outcome → Type 0
Kept o = well_formed (take o.written.at o.bytes) ≡ true

module _ (b : List ℕ) (at : ℕ) (k : well_formed (take at b) ≡ true) where
  pub placed-keeps : (t : List ℕ) → at ≤ length b → well_formed t ≡ true → Kept (placed b at t)
  placed-keeps t h e =
      dite (dec_lt (length b - at) (length t))
      (λ x. rw (← placed-short b at t h x) k)
      (λ x. let n : length (take at b) ≡ at = length-take-le at b h in
      let m : length (take at b ++ t) ≡ at + length t = rw (length-append, n) in
      rw (← placed-done b at t h (omega arith), take_at (take at b ++ t) _ (at + length t) m) (append (take at b) t k ∙ e))

-- a cursor that is not past the end
cursor-fits : (b : List ℕ) (at : ℕ) → cursor_fault b at ≡ None → at ≤ length b
cursor-fits b at e = dite (dec_lt (length b) at) (λ h. absurd (none-some BadCursor (sym (rw (lt-ltb _ _ h) at e)))) (λ h. omega arith)

-- a write is refused, or its text is placed
module _ (P : Outcome → Type 0) (b : List ℕ) (at : ℕ) (k : (a : Error) → P (refused a b at)) where
  unless-either : (x y z : Option Error) (o : Outcome) → (x ≡ None → y ≡ None → z ≡ None → P o) → P (unless (first_of (x ∷ y ∷ z ∷ [])) b at o)
  unless-either None None None o g = g refl refl refl
  unless-either None None (Some a) o g = k a
  unless-either None (Some a) z o g = k a
  unless-either (Some a) y z o g = k a

  pub write-either : (f : FormattingFlags) (v : Value)
      → (at ≤ length b → input_fault v ≡ None → cut_fault v ≡ None → P (placed b at (text_of f v))) → P (write f b at v)
  unfolding write
  write-either f v g = unless-either (cursor_fault b at) (input_fault v) (cut_fault v) _ (λ x y z. g (cursor-fits b at x) y z)

pub write_keeps : KeepsWellFormed
write_keeps f b at v k =
    write-either Kept b at (λ a. k) f v (λ h y z. placed-keeps b at k (text_of f v) h (text_well_formed f v y z))
