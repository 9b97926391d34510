-- A run whose flags are a number below 12 is the run with these flags; with others nothing is played.
use mathlib.Core.Bool.{true, false}
use mathlib.Core.Path.{◌≡◌, refl}
use mathlib.Core.List.{List, []}
use Prim.Native.Nat.{ℕ, zero, suc, ◌≤◌, ◌<◌}
use native.Mathlib.Omega.{arith}
use Rattle.std.specs.Prelude.{Some, Result, Ok, Err}
use Rattle.error.specs.declared.Error.{Error}
use Rattle.error.specs.declared.Error.TheVariants.{WrongCall, BadCursor}
use mathlib.Core.Logic.{dite}
use native.Mathlib.Decide.{dec_lt}
use Rattle.formatting.specs.FlagsAsNumber.{flags_of, checked_flags}
use Rattle.formatting.specs.declared.flags.FormattingFlags.{FormattingFlags}
use Rattle.formatting.specs.declared.flags_as_number.NotFlags.{NotFlags}
use lib.Dec.{ltb}
use lib.ListN.{length}
use borrow.Author.Tests.{lt-ltb, le-ltb}
use Rattle.calls.specs.Call.{hold}
use Rattle.calls.specs.Model.{Mode, counting, start}
use Rattle.encoded_call.specs.Encoding.{decode}
use Rattle.run.specs.declared.Ran.{Ran}
use Rattle.run.specs.Played.{played, run_or, stored, end_counted, end_written, WritesAsCounted}
use Rattle.run.proofs.Playing.{stored-none}
use Rattle.table_text.specs.Exported.{settings_by, run_by, played_by, count_end, write_end}

hold-done : (a : ℕ) → hold a 0 ≡ a
hold-done zero = refl
hold-done (suc a) = refl

-- the number of flags that were taken, and one that was refused
pub taken : (n : ℕ) (f : FormattingFlags) → Ok f ≡ checked_flags n → (n < 12) × (f ≡ flags_of n)
taken n f e = dite (dec_lt n 12) (λ h. (h, same_Ok (rw (lt-ltb n 12 h) at e))) (λ h. absurd (ok_err (rw (le-ltb n 12 (omega arith)) at e)))
  where
    same_Ok : {A B : Type 0} {x y : A} → ◌≡◌ {A = Result A B} (Ok x) (Ok y) → x ≡ y
    same_Ok h = cc

    ok_err : {A B : Type 0} {x : A} {y : B} → ◌≡◌ {A = Result A B} (Ok x) (Err y) → ⊥
    ok_err h = cc

pub refused : (n : ℕ) (r : Result FormattingFlags NotFlags) → r ≡ checked_flags n → ((f : FormattingFlags) → r ≡ Ok f → ⊥) → 11 < n
refused n r e k = dite (dec_lt n 12) (λ h. absurd (k (flags_of n) (rw (e, lt-ltb n 12 h) refl))) (λ h. omega arith)

-- flags below 12
module _ (n : ℕ) (h : n ≤ 11) (m : Mode) (b w t : List ℕ) where
  below : ltb n 12 ≡ true
  below = lt-ltb n 12 (omega arith)

  pub played_by_lem : played m b (settings_by n) (decode w t) ≡ played_by m b n (decode w t)
  played_by_lem = rw (below, hold-done)

  pub answers_by : (run_or (start m b (settings_by n)) (decode w t)).answers ≡ (run_by m b n (decode w t)).answers
  answers_by = rw below

-- so what a sender relies on is about the run with these flags
pub as_counted : (n : ℕ) → n ≤ 11 → (w t b : List ℕ) (p e k : ℕ) (b' : List ℕ)
    → WritesAsCounted (played (counting 0) [] (settings_by n) (decode w t)) (settings_by n) (decode w t) b p e k b'
    → WritesAsCounted (count_end n w t) (settings_by n) (decode w t) b p e k b'
as_counted n h w t b p e k b' r = rw (← played_by_lem n h (counting 0) [] w t) r

-- other flags: nothing is played
module _ (n : ℕ) (h : 11 < n) (w t : List ℕ) where
  above : ltb n 12 ≡ false
  above = le-ltb n 12 (omega arith)

  pub no_answers : (m : Mode) (b l : List ℕ) → l ≡ stored l (run_by m b n (decode w t)).answers
  no_answers m b l = rw (above, stored-none)

  abbrev refusal : Error → ℕ → Ran
  refusal e p = record { first = Some (record { error = e; place = 0 }); number = p; entries = 0 }

  pub count-refused : end_counted (decode w t) (refusal WrongCall 0) ≡ count_end n w t
  count-refused = rw above

  pub none-counted : (b : List ℕ) (p e k : ℕ) (b' : List ℕ) → WritesAsCounted (count_end n w t) (settings_by n) (decode w t) b p e k b'
  none-counted b p e k b' c C = absurd (omega (arith, rw above at C.done))

  pub write_past : (b : List ℕ) (p : ℕ) → length b < p → end_written (decode w t) (refusal BadCursor p) b ≡ write_end n b p w t
  write_past b p k = rw (above, lt-ltb (length b) p k)

  pub write-refused : (b : List ℕ) (p : ℕ) → p ≤ length b → end_written (decode w t) (refusal WrongCall p) b ≡ write_end n b p w t
  write-refused b p k = rw (above, le-ltb (length b) p k)
