-- A value's length added to a total, and a refusal in its place.
use mathlib.Core.Path.{◌≡◌, refl, ◌∙◌}
use mathlib.Core.List.{List, []}
use Prim.Native.Nat.{ℕ, ◌+◌, ◌^◌, ◌≤◌}
use native.Mathlib.Omega.{arith}
use borrow.Author.Tests.{lt-ltb, ltb-false}
use lib.IntN.{ℤ}
use lib.ListN.{length}
use Rattle.std.specs.Prelude.{Bool, true, false, cond, nat_lt, Result, Ok, Err}
use Rattle.error.specs.declared.Error.{Error}
use Rattle.error.specs.declared.Error.TheVariants.{CountTooLarge}
use Rattle.error.specs.Answer.{number_of, fault_number}
use Rattle.formatting.specs.Flags.{default_flags}
use Rattle.formatting.specs.declared.flags.FormattingFlags.{FormattingFlags}
use Rattle.formatting.specs.declared.flags_as_number.NotFlags.{NotFlags}
use Rattle.formatting.specs.FlagsAsNumber.{are_flags, flags_of, checked_flags}
use Rattle.str_writer.specs.Value.{Form, Value, integer, text_of, input_fault}
use Rattle.pwrapper.specs.QuotedCount.{count_of}
use Rattle.calls.specs.Model.{PieceOutcome, to, counting, most, put_in}
use Rattle.value_writes.specs.Values.{value_out}
use Rattle.value_writes.proofs.ValueLaws.{judged_counting, value_within, judged-emitted, input-refused}
use Rattle.single_writes.specs.ByFlags.{by_flags, from}

-- it is that integer counted
pub counts-integer : (t : ℕ) (f : FormattingFlags) (m : Form) (k : ℕ) (z : ℤ) {r : PieceOutcome} {n : ℕ} → ((s : List ℕ) → n ≡ length s → r ≡ put_in (counting t) [] s)
    → n ≡ length (text_of f (integer m k z)) → r ≡ value_out (from t) [] f (integer m k z)
unfolding value_out input_fault
counts-integer t f m k z h e = h (text_of f (integer m k z)) e

-- a value that meets nothing but a boundary is counted, one that meets a fault is refused with it
module _ (t : ℕ) (v : Value) where
  pub counted-value : 0 ≡ fault_number (input_fault v) → {r : PieceOutcome} → r ≡ put_in (counting t) [] (text_of default_flags v) → r ≡ value_out (from t) [] default_flags v
  counted-value z e = e ∙ judged-emitted (from t) [] default_flags v (judged_counting (counting t) v refl z) ∙ value_within (from t) [] default_flags v refl

  pub refused-value : (e : Error) → number_of e ≡ fault_number (input_fault v) → to (counting t) [] (number_of e) ≡ value_out (from t) [] default_flags v
  refused-value e p = input-refused (from t) [] default_flags v e p ∙ value_within (from t) [] default_flags v refl

-- a text that has more than 2^64 - 1 bytes is refused with 6
pub count-refused : (t : List ℕ) (e : Error) → Err e ≡ count_of (length t) → (n : ℕ) → to (counting n) [] (number_of e) ≡ put_in (counting n) [] t
count-refused t e q n = go (nat_lt (length t) (2 ^ 64)) refl q
  where
    go : (x : Bool) → nat_lt (length t) (2 ^ 64) ≡ x → ◌≡◌ {A = Result ℕ Error} (Err e) (cond x (Ok (length t)) (Err CountTooLarge)) → to (counting n) [] (number_of e) ≡ put_in (counting n) [] t
    go true h k = cc k
    go false h k =
        let z : e ≡ CountTooLarge = cc k in
        let l : 2 ^ 64 ≤ length t = ltb-false (length t) (2 ^ 64) h in
        rw (z, lt-ltb most (n + length t) (omega arith)) refl

-- what flags tell that are a number: what is done by them, or what stands where they are none
module _ {A : Type 0} (n : ℕ) (r : A) (o : FormattingFlags → A) where
  pub flags_ok : (f : FormattingFlags) → Ok f ≡ checked_flags n → o f ≡ by_flags n r o
  flags_ok f e = go (are_flags n) e
    where
      go : (x : Bool) → ◌≡◌ {A = Result FormattingFlags NotFlags} (Ok f) (cond x (Ok (flags_of n)) (Err (record { 0 = n }))) → o f ≡ cond x (o (flags_of n)) r
      go true q = let z : f ≡ flags_of n = cc q in rw z refl
      go false q = cc q

  pub flags_err : (x : NotFlags) → Err x ≡ checked_flags n → r ≡ by_flags n r o
  flags_err x e = go (are_flags n) e
    where
      go : (y : Bool) → ◌≡◌ {A = Result FormattingFlags NotFlags} (Err x) (cond y (Ok (flags_of n)) (Err (record { 0 = n }))) → r ≡ cond y (o (flags_of n)) r
      go true q = cc q
      go false q = refl
