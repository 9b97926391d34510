-- What a value's input and range meet, a law for each, and the texts of parts, characters and repeated characters.
use mathlib.Core.Bool.{Bool, cond, true, false, ◌||◌, and-false, or-true, false≢true}
use mathlib.Core.Logic.{dite}
use Rattle.std.specs.Prelude.{Some, None, Ok, Err}
use mathlib.Core.Path.{◌≡◌, refl, sym, ap, ◌∙◌}
use mathlib.Core.List.{List, [], ◌∷◌}
use Prim.Native.Nat.{ℕ, ◌+◌, ◌-◌, ◌%◌, ◌≤◌}
use native.Mathlib.Decide.{dec_lt}
use native.Mathlib.Nat.{min-eq_left, le_refl, zero-min}
use native.Mathlib.Omega.{arith}
use lib.Dec.{ltb}
use lib.ListN.{length, replicate, length-replicate}
use lib.Seq.{take-length}
use borrow.Author.Tests.{lt-ltb, le-ltb, eq-eqb}
use Rattle.error.specs.declared.Error.{Error}
use Rattle.error.specs.declared.Error.TheVariants.{NotAscii, NotOnCharBoundary, NotAChar}
use Rattle.formatting.specs.declared.flags.FormattingFlags.{FormattingFlags}
use Rattle.utf8.specs.Utf8.{well_formed, continues, is_scalar}
use Rattle.utf8.proofs.Grammar.{none-low, broken}
use Rattle.utils.specs.declared.Range.{Range}
use Rattle.utils.specs.Text.{saturated, part, is_boundary}
use Rattle.ascii_str.specs.declared.NotAsciiError.{NotAsciiError}
use Rattle.ascii_str.specs.Ascii.{ascii_from}
use Rattle.char_encoding.specs.Char.{unless_no_char}
use Rattle.str_writer.specs.Value.{Form, str, ascii, char, repeated, whole, text_of, input_fault, cut_fault}
use Rattle.str_writer.specs.Write.{outcome, splice, put, write}
use Rattle.str_writer.proofs.Outcomes.{put-done, put-write}

-- the whole of a text
whole-end : (s : List ℕ) → (saturated s (whole s)).end ≡ length s
whole-end s = min-eq_left (le_refl (length s))

pub whole_part : (s : List ℕ) → part s (whole s) ≡ s
whole_part s = rw (zero-min, whole-end, take-length)

-- the first octet of well-formed text is no tail
first_boundary : (a : ℕ) (s : List ℕ) → well_formed (a ∷ s) ≡ true → (ltb a 0x80 || ltb 0xBF a) ≡ true
unfolding continues
first_boundary a s e =
    dite (dec_lt a 0x80) (λ h. rw (lt-ltb a 0x80 h))
    (λ h. dite (dec_lt 0xBF a) (λ k. rw (lt-ltb 0xBF a k) (or-true (ltb a 0x80)))
    (λ k. absurd (false≢true (sym (broken s) ∙ rw (none-low a (omega arith) (omega arith)) at e))))

-- well-formed text has a boundary at its start, and any text at its end
pub start_boundary : (s : List ℕ) → well_formed s ≡ true → is_boundary s 0 ≡ true
start_boundary [] e = refl
start_boundary (a ∷ s) e = rw (lt-ltb 0 (length (a ∷ s)) (omega arith)) (first_boundary a s e)

pub end_boundary : (s : List ℕ) → is_boundary s (length s) ≡ true
end_boundary s = rw (le-ltb (length s) (length s) (omega arith)) (eq-eqb (length s) (length s) refl)

module _ (m : Form) (s : List ℕ) (r : Range) where
  pub str-cut-start : is_boundary s (saturated s r).start ≡ false → cut_fault (str m s r) ≡ Some NotOnCharBoundary
  unfolding cut_fault
  str-cut-start e = rw e

  pub str-cut-end : is_boundary s (saturated s r).end ≡ false → cut_fault (str m s r) ≡ Some NotOnCharBoundary
  unfolding cut_fault
  str-cut-end e = rw (e, and-false)

  pub str_uncut : is_boundary s (saturated s r).start ≡ true → is_boundary s (saturated s r).end ≡ true → cut_fault (str m s r) ≡ None
  unfolding cut_fault
  str_uncut e k = rw (e, k)

  pub ascii-fault : (e : NotAsciiError) → ascii_from 0 s ≡ Err e → input_fault (ascii m s r) ≡ Some NotAscii
  unfolding input_fault
  ascii-fault i e = rw e

  pub ascii_fine : ascii_from 0 s ≡ Ok tt → input_fault (ascii m s r) ≡ None
  unfolding input_fault
  ascii_fine e = rw e

  pub ascii_uncut : cut_fault (ascii m s r) ≡ None
  unfolding cut_fault
  ascii_uncut = refl

-- the whole of a well-formed text cuts no character
pub whole_uncut : (m : Form) (s : List ℕ) → well_formed s ≡ true → cut_fault (str m s (whole s)) ≡ None
whole_uncut m s e =
    str_uncut m s (whole s)
    (rw zero-min (start_boundary s e))
    (rw whole-end (end_boundary s))

module _ (m : Form) (c : ℕ) where
  pub char-fault : is_scalar c ≡ false → input_fault (char m c) ≡ Some NotAChar
  unfolding input_fault
  char-fault e = rw e

  pub char_fine : is_scalar c ≡ true → input_fault (char m c) ≡ None
  unfolding input_fault
  char_fine e = rw e

  pub char_uncut : cut_fault (char m c) ≡ None
  unfolding cut_fault
  char_uncut = refl

-- what is refused is no character
pub untold : {A : Type 0} (c : ℕ) (a : A) (e : Error) → Err e ≡ unless_no_char c a → is_scalar c ≡ false
untold {A} c a e h = go (is_scalar c) h
  where
    go : (b : Bool) → Err e ≡ cond b (Ok a) (Err NotAChar) → b ≡ false
    go true k = cc k
    go false k = refl

module _ (c n : ℕ) where
  pub repeated_fine : input_fault (repeated c n) ≡ None
  unfolding input_fault
  repeated_fine = refl

  pub repeated_uncut : cut_fault (repeated c n) ≡ None
  unfolding cut_fault
  repeated_uncut = refl

  pub repeated-text : (f : FormattingFlags) → text_of f (repeated c n) ≡ replicate n (c % 128)
  unfolding text_of
  repeated-text f = refl

-- the repeated character is put as a piece
pub repeated-write : (f : FormattingFlags) (b : List ℕ) (at c n : ℕ) → put b at (replicate n (c % 128)) ≡ write f b at (repeated c n)
repeated-write f b at c n = rw (← repeated-text c n f) (put-write f b at (repeated c n) (repeated_fine c n) (repeated_uncut c n))

module _ (f : FormattingFlags) (b : List ℕ) (at : ℕ) (h : at ≤ length b) where
  pub repeated-put : (c n : ℕ) → put b at (replicate n (c % 128)) ≡ write f b at (repeated c n)
  repeated-put c n = repeated-write f b at c n

  -- the repeated character, by its count
  module _ (c n : ℕ) where
    pub repeated-done : n ≤ length b - at → outcome (record { at = at + n; answer = Ok tt }) (splice b at (replicate n (c % 128))) ≡ write f b at (repeated c n)
    repeated-done k =
        let t = replicate n (c % 128) in
        let l : n ≡ length t = sym (length-replicate n (c % 128)) in
        ap (λ (j : ℕ). outcome (record { at = at + j; answer = Ok tt }) (splice b at t)) l ∙ put-done b at t h (omega arith) ∙ repeated-put c n
