-- A single write is judged, then emitted: what a judge that answers has met, and a law for each outcome of a piece and of a write.
use mathlib.Core.Bool.{Bool, true, false, cond}
use mathlib.Core.Path.{◌≡◌, refl, sym, ◌∙◌}
use mathlib.Core.List.{List, [], ◌∷◌, ◌++◌}
use Prim.Native.Nat.{ℕ, ◌+◌, ◌≤◌}
use lib.Dec.{ltb}
use lib.ListN.{length}
use borrow.Author.Tests.{ltb-false}
use Rattle.std.specs.Prelude.{⊤, Option, Some, None, Result, Ok, Err}
use Rattle.std.specs.Result.{IsErrAnd}
use Rattle.std.proofs.lemmas.Option.{none-some}
use Rattle.error.specs.declared.Error.{Error}
use Rattle.error.specs.declared.Error.TheVariants.{NotEnoughSpace, NotUtf8, BadCursor}
use Rattle.error.specs.Answer.{Answer, answer_of}
use Rattle.formatting.specs.declared.flags.FormattingFlags.{FormattingFlags}
use Rattle.utf8.specs.Utf8.{well_formed}
use Rattle.utils.specs.declared.Range.{Range}
use Rattle.utils.specs.Text.{part}
use Rattle.char_encoding.specs.Char.{char_display, char_debug}
use Rattle.str_writer.specs.Value.{Form, display, debug, Value, char, str, ascii, whole, string_text, text_of, input_fault, cut_fault}
use Rattle.str_writer.specs.Write.{Outcome, outcome, splice, refused, placed, cursor_fault, first_of, unless, put, write_fault, write}
use Rattle.str_writer.proofs.Outcomes.{put-write}
use Rattle.str_writer.proofs.Values.{whole_part, whole_uncut}

-- what an answer says was met
abbrev pub fault_in : Answer → Option Error
fault_in (Ok u) = None
fault_in (Err e) = Some e

-- an error that `?` hands on
pub handed : {A : Type 0} → (r : Result A Error) (e : Error) → IsErrAnd r (λ y. y ≡ e) → r ≡ Err e
handed (Ok x) e h = absurd h
handed (Err y) e h = rw h refl

pub met : (f : Option Error) (x : Answer) → x ≡ answer_of f → f ≡ fault_in x
met None x h = rw h refl
met (Some e) x h = rw h refl

-- where the first fault is none, none is met
pub none_met : (f : Option Error) (fs : List (Option Error)) → first_of (f ∷ fs) ≡ None → (f ≡ None) × (first_of fs ≡ None)
none_met None fs h = (refl, h)
none_met (Some e) fs h = absurd (none-some e (sym h))

-- a fault with none behind it is the first
pub first_only : (f : Option Error) (fs : List (Option Error)) → first_of fs ≡ None → first_of (f ∷ fs) ≡ f
first_only None fs h = h
first_only (Some e) fs h = refl

-- the first fault is also that of more
pub first_more : (fs gs : List (Option Error)) (e : Error) → first_of fs ≡ Some e → first_of (fs ++ gs) ≡ Some e
first_more [] gs e h = absurd (none-some e h)
first_more (None ∷ fs) gs e h = first_more fs gs e h
first_more (Some a ∷ fs) gs e h = h

-- past the test of the cursor there is room
pub cursor-fits : (b : List ℕ) (at : ℕ) → cursor_fault b at ≡ None → at ≤ length b
cursor-fits b at e = ltb-false (length b) at (go (ltb (length b) at) e)
  where
    go : (t : Bool) → cond t (Some BadCursor) None ≡ None → t ≡ false
    go true k = absurd (none-some BadCursor (sym k))
    go false k = refl

-- a piece of text: refused, or put
module _ (b : List ℕ) (at : ℕ) (t : List ℕ) where
  abbrev put_in : Bool → Bool → Outcome
  put_in x y = unless (cond x (Some BadCursor) None) b at
      (cond y (refused NotEnoughSpace b at) (outcome (record { at = at + length t; answer = Ok tt }) (splice b at t)))

  pub put-cursor : (e : Error) → cursor_fault b at ≡ Some e → Err e ≡ (put b at t).written.answer
  unfolding put
  put-cursor e h = rw h refl

  pub put-met : (e : Error) → Err e ≡ (put b at t).written.answer → refused e b at ≡ put b at t
  unfolding put placed
  put-met e h = go (ltb (length b) at) (ltb (length b) (at + length t)) h
    where
      go : (x y : Bool) → Err e ≡ (put_in x y).written.answer → refused e b at ≡ put_in x y
      go true y k = rw k refl
      go false true k = rw k refl
      go false false k = cc k

  pub put-fits : (u : ⊤) → Ok u ≡ (put b at t).written.answer → at + length t ≤ length b
  unfolding put placed
  put-fits u h = go (ltb (length b) at) (ltb (length b) (at + length t)) refl h
    where
      go : (x y : Bool) → ltb (length b) (at + length t) ≡ y → Ok u ≡ (put_in x y).written.answer → at + length t ≤ length b
      go true y d k = cc k
      go false true d k = cc k
      go false false d k = ltb-false (length b) (at + length t) d

-- a judged write: refused, or its text emitted
module _ (b : List ℕ) (at : ℕ) (v : Value) where
  pub write-met : (g : FormattingFlags) (e : Error) → write_fault b at v ≡ Some e → refused e b at ≡ write g b at v
  unfolding write
  write-met g e h = rw h refl

  pub write-emit : (g : FormattingFlags) → write_fault b at v ≡ None → put b at (text_of g v) ≡ write g b at v
  write-emit g h =
      let n = none_met (cursor_fault b at) _ h in
      let m = none_met (input_fault v) _ n.1 in
      put-write g b at v m.0 (none_met (cut_fault v) [] m.1).0

  -- past the cursor the input is judged, and the range only where it meets nothing
  pub judged-input : (fs : List (Option Error)) → first_of fs ≡ None → cursor_fault b at ≡ None
      → answer_of (input_fault v) ≡ answer_of (first_of (cursor_fault b at ∷ input_fault v ∷ fs))
  judged-input fs h k = rw (k, first_only (input_fault v) fs h) refl

  pub judged-met : (e : Error) → first_of (cursor_fault b at ∷ input_fault v ∷ []) ≡ Some e → write_fault b at v ≡ Some e
  judged-met e h = first_more (cursor_fault b at ∷ input_fault v ∷ []) (cut_fault v ∷ []) e h

  pub judged-cut : first_of (cursor_fault b at ∷ input_fault v ∷ []) ≡ None → write_fault b at v ≡ cut_fault v
  judged-cut h =
      let n = none_met (cursor_fault b at) _ h in
      rw (n.0, (none_met (input_fault v) _ n.1).0, first_only (cut_fault v) [] refl) refl

-- what stands in the text of a string with no fault
input_fine : (m : Form) (s : List ℕ) (r : Range) → input_fault (str m s r) ≡ None → well_formed s ≡ true
unfolding input_fault
input_fine m s r e = go (well_formed s) e
  where
    go : (t : Bool) → cond t None (Some NotUtf8) ≡ None → t ≡ true
    go true e = refl
    go false e = absurd (none-some NotUtf8 (sym e))

-- the same by the text of a string or a character
module _ (g : FormattingFlags) (b : List ℕ) (at : ℕ) where
  module _ (m : Form) (s : List ℕ) (r : Range) where
    pub str-emit : write_fault b at (str m s r) ≡ None → put b at (string_text m (part s r)) ≡ write g b at (str m s r)
    unfolding text_of
    str-emit h = write-emit b at (str m s r) g h

    pub ascii-emit : write_fault b at (ascii m s r) ≡ None → put b at (string_text m (part s r)) ≡ write g b at (ascii m s r)
    unfolding text_of
    ascii-emit h = write-emit b at (ascii m s r) g h

  module _ (c : ℕ) where
    pub char-emit : write_fault b at (char display c) ≡ None → put b at (char_display c) ≡ write g b at (char display c)
    unfolding text_of
    char-emit h = write-emit b at (char display c) g h

    pub char-emit-debug : write_fault b at (char debug c) ≡ None → put b at (char_debug c) ≡ write g b at (char debug c)
    unfolding text_of
    char-emit-debug h = write-emit b at (char debug c) g h

  -- the whole of a string, whose range cuts no character
  pub whole-emit : (m : Form) (s : List ℕ) → first_of (cursor_fault b at ∷ input_fault (str m s (whole s)) ∷ []) ≡ None
      → put b at (string_text m s) ≡ write g b at (str m s (whole s))
  whole-emit m s h =
      let n = none_met (cursor_fault b at) _ h in
      let f = (none_met (input_fault (str m s (whole s))) [] n.1).0 in
      rw whole_part at (str-emit m s (whole s) (judged-cut b at (str m s (whole s)) h ∙ whole_uncut m s (input_fine m s (whole s) f)))
