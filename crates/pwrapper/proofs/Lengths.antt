-- The lengths of the texts of a number: the decimal digits, the sign, the prefix.
use Rattle.std.specs.Prelude.{◌≡◌, ℕ, zero, suc, ◌+◌, ◌/◌, ◌^◌, ◌<◌, ◌≤◌, Bool, true, false, cond, [], ◌∷◌, ◌++◌, length, ℤ, pos, negsuc, nat_abs, unsigned_abs}
use Rattle.std.specs.Int.{is_negative, from_bool}
use mathlib.Core.Path.{refl, sym, ap, ◌∙◌}
use mathlib.Core.Logic.{⊎_elim}
use borrow.Author.Tests.{le-ltb, le-leb, lt-leb}
use native.Mathlib.Nat.{le_trans, pow-le-pow_left, pow-le-pow_right}
use native.Mathlib.Omega.{arith}
use lib.Dec.{leb, lit≤}
use lib.Signed.{lt_z}
use mir.Syntax.{Width}
use mir.Val.{SFits, of_z, to_z}
use mir.ValLaws.{to_z-of_z}
use Rattle.pwrapper.specs.Digits.{digits, digit_text, dec_digit}
use Rattle.pwrapper.specs.Number.{decimal, display_text, prefix}
use Rattle.pwrapper.proofs.Digits.{lt_or_ge, digits-short, digits_low, digits_between, text-length, text_pow, text-one}
use Rattle.pwrapper.proofs.Sign.{below, from}

-- at most 64 digits in any base, of a number of 64 bits
pub at-most-64 : (b : ℕ) → 2 ≤ b → (n : ℕ) → n < 2 ^ 64 → length (digits b n) ≤ 64
at-most-64 b b2 n h = digits-short b b2 63 n (le_trans h (pow-le-pow_left b2 64))

pub decimal-64 : (n : ℕ) → n < 2 ^ 64 → length (decimal n) ≤ 64
decimal-64 n h = rw (text-length 10 (lit≤ tt) dec_digit n) (at-most-64 10 (lit≤ tt) n h)

pub decimal-one : (n : ℕ) → n < 10 → length (decimal n) ≡ 1
decimal-one = text-one 10 (lit≤ tt) dec_digit

-- a threshold's step: k digits more than the quotient has
pub decimal-more : (k n r : ℕ) → 10 ^ k ≤ n → r ≡ length (decimal (n / 10 ^ k)) → r + k ≡ length (decimal n)
decimal-more k n r h e = omega (arith, text_pow 10 (lit≤ tt) dec_digit k n h)

-- one, and one more for each power of ten up to the kth that n reaches
unfoldable pub reached : ℕ → ℕ → ℕ
reached zero n = 1
reached (suc k) n = reached k n + from_bool (leb (10 ^ suc k) n)

reached-all : (k n : ℕ) → 10 ^ k ≤ n → reached k n ≡ k + 1
unfolding reached
reached-all zero n h = refl
reached-all (suc k) n h =
    let less : 10 ^ k ≤ n = le_trans (pow-le-pow_right {n = 10} (lit≤ tt) (omega arith)) h in
    rw (le-leb (10 ^ suc k) n h) (omega (arith, reached-all k n less))

reached-low : (k n : ℕ) → n < 10 ^ suc k → reached k n ≡ length (digits 10 n)
unfolding reached
reached-low zero n h = rw (digits_low 10 (lit≤ tt) n h)
reached-low (suc k) n h = ⊎_elim
    (λ (l : n < 10 ^ suc k). rw (lt-leb (10 ^ suc k) n l) (omega (arith, reached-low k n l)))
    (λ (g : 10 ^ suc k ≤ n). reached-all (suc k) n g ∙ sym (digits_between 10 (lit≤ tt) (suc k) n g h))
    (lt_or_ge n (10 ^ suc k))

-- below the next power of ten these are the digits
pub decimal-reached : (k n : ℕ) → n < 10 ^ suc k → reached k n ≡ length (decimal n)
decimal-reached k n h = reached-low k n h ∙ sym (text-length 10 (lit≤ tt) dec_digit n)

-- len is the length of the absolute value's decimal text: the display form's, by the sign
pub record Signed (w : Width) (z : ℤ) (len : ℕ) : Type 0 where
  pub minus : lt_z (to_z w (of_z w z)) (pos 0) ≡ true → len + 1 ≡ length (display_text z)
  pub no_minus : lt_z (to_z w (of_z w z)) (pos 0) ≡ false → len ≡ length (display_text z)
  pub room : len ≤ 64

-- a is the absolute value of z as a call takes z
pub signed : (w : Width) (z : ℤ) → SFits w z → (a len : ℕ) → a ≡ nat_abs (to_z w (of_z w z)) → len ≡ length (decimal a) → a < 2 ^ 64 → Signed w z len
signed w z f a len abs e h =
    let size : a ≡ nat_abs z = abs ∙ ap nat_abs (to_z-of_z w z f) in
    record {
      minus = λ t. rw ((below w z f t).text, ← size) (omega arith);
      no_minus = λ t. rw ((from w z f t).text, ← size) e;
      room = rw e (decimal-64 a h);
    }

-- len is the count of the digits: the text's length, by whether it has a prefix
pub record Prefixed (f : ℕ → ℕ) (b n x : ℕ) (t : Bool) (len : ℕ) : Type 0 where
  pub alternate : t ≡ true → len + 2 ≡ length (prefix t x ++ digit_text f b n)
  pub bare : t ≡ false → len ≡ length (prefix t x ++ digit_text f b n)
  pub room : len ≤ 64

pub prefixed : (f : ℕ → ℕ) (b n x : ℕ) (t : Bool) (len : ℕ) → 2 ≤ b → len ≡ length (digits b n) → n < 2 ^ 64 → Prefixed f b n x t len
prefixed f b n x t len b2 e h = record {
  alternate = λ a. rw a (omega (arith, text-length b b2 f n));
  bare = λ a. rw a (omega (arith, text-length b b2 f n));
  room = rw e (at-most-64 b b2 n h);
}

-- an integer's text, by its sign and its absolute value
pub signed-text : (z : ℤ) → display_text z ≡ cond (is_negative z) (45 ∷ []) [] ++ decimal (unsigned_abs z)
signed-text (pos n) = rw (le-ltb n 0 (omega arith)) refl
signed-text (negsuc n) = refl

-- the same of the lengths: an integer's, by its sign and the digits of its absolute value
pub signed-length : (z : ℤ) (d : ℕ) → d ≡ length (decimal (unsigned_abs z)) → cond (is_negative z) 1 0 + d ≡ length (display_text z)
signed-length z d e = rw signed-text (go (is_negative z))
  where
    go : (b : Bool) → cond b 1 0 + d ≡ length (cond b (45 ∷ []) [] ++ decimal (unsigned_abs z))
    go true = omega (arith, e)
    go false = omega (arith, e)
