-- Laws of the digits of a number, in any base from 2 on.
use Rattle.std.specs.Prelude.{◌≡◌, ℕ, zero, suc, ◌+◌, ◌-◌, ◌*◌, ◌/◌, ◌%◌, ◌^◌, ◌<◌, ◌≤◌, Bool, true, false, ltb, ◌⊎◌, List, [], ◌∷◌, ◌++◌, length}
use mathlib.Core.Path.{refl, sym, ap, ◌∙◌}
use mathlib.Core.Logic.{inl, inr, ⊎_elim}
use mathlib.Core.List.{map-append}
use Prim.Native.Nat.{zero-le}
use native.Mathlib.Nat.{le_trans, le_of_suc-le-suc, div-lt_self, div-div-eq-div-mul, le-div_iff_mul-le, div-one, pow-suc, pow-succ', mul_comm}
use native.Mathlib.Nat.{mod-lt, pow-zero, eq-zero-or-pos, pow-le-pow_right, one-mul, div-lt_iff_lt-mul, zero-add}
use native.Mathlib.Decide.{le_ind}
use native.Mathlib.Omega.{arith}
use lib.Dec.{lit≤}
use lib.Count.{count_leading_zeros, leading_length, leading_top, leading_of_zero}
use lib.Pow.{pow-add, pow_mono}
use lib.ListN.{length-append, length-map}
use borrow.Author.Tests.{lt-ltb, le-ltb, ltb-true, ltb-false}
use Rattle.formatting.specs.declared.flags.HexFormatting.{HexFormatting}
use Rattle.formatting.specs.Hex.{hex_digit}
use Rattle.pwrapper.specs.Digits.{digits_in, digits, digit_text, dec_digit}

pub lt_or_ge : (n m : ℕ) → (n < m) ⊎ (m ≤ n)
lt_or_ge n m = go (ltb n m) refl
  where
    go : (t : Bool) → ltb n m ≡ t → (n < m) ⊎ (m ≤ n)
    go true e = inl (ltb-true n m e)
    go false e = inr (ltb-false n m e)

module _ (b : ℕ) (b2 : 2 ≤ b) where
  smaller : (n d : ℕ) → b ≤ n → n ≤ suc d → n / b ≤ d
  smaller n d h k = le_of_suc-le-suc (le_trans (div-lt_self {n = n} {k = b} (omega arith) (omega arith)) k)

  -- what holds below the base, and of a number where it holds of its quotient, holds of each number
  pub by_digits : (P : ℕ → Type 0) → ((n : ℕ) → n < b → P n) → ((n : ℕ) → b ≤ n → P (n / b) → P n) → (n : ℕ) → P n
  by_digits P low high n = upto n n (omega arith)
    where
      upto : (d n : ℕ) → n ≤ d → P n
      upto zero n h = low n (omega arith)
      upto (suc d) n h = ⊎_elim (low n) (λ (g : b ≤ n). high n g (upto d (n / b) (smaller n d g h))) (lt_or_ge n b)

  more : (d n : ℕ) → n ≤ d → digits_in (suc d) b n ≡ digits_in d b n
  unfolding digits_in
  more zero n h = simp (lt-ltb n b (omega arith))
  more (suc d) n h = ⊎_elim
      (λ (l : n < b). simp (lt-ltb n b l))
      (λ (g : b ≤ n). simp (le-ltb n b g) (ap (λ (l : List ℕ). l ++ (n % b ∷ [])) (more d (n / b) (smaller n d g h))))
      (lt_or_ge n b)

  enough : (d n : ℕ) → n ≤ d → digits_in d b n ≡ digits_in n b n
  enough d n h = le_ind (λ (m : ℕ). digits_in m b n ≡ digits_in n b n) refl (λ m k e. more m n k ∙ e) d h

  -- below the base: one digit
  pub digits_low : (n : ℕ) → n < b → digits b n ≡ n ∷ []
  unfolding digits digits_in
  digits_low zero h = refl
  digits_low (suc n) h = simp (lt-ltb (suc n) b h)

  -- from the base on: the digits of the quotient, and the remainder
  pub digits_step : (n : ℕ) → b ≤ n → digits b n ≡ digits b (n / b) ++ (n % b ∷ [])
  unfolding digits digits_in
  digits_step zero h = absurd (omega arith)
  digits_step (suc n) h = simp (le-ltb (suc n) b h) (ap (λ (l : List ℕ). l ++ (suc n % b ∷ [])) (enough n (suc n / b) (smaller (suc n) n h (omega arith))))

  -- a quotient by the base's kth power has k digits fewer
  pub digits_pow : (k n : ℕ) → b ^ k ≤ n → length (digits b n) ≡ k + length (digits b (n / b ^ k))
  digits_pow zero n h = rw (pow-zero, div-one, zero-add)
  digits_pow (suc k) n h =
      let g : b ^ k * b ≤ n = rw pow-suc at h in
      let q : b ^ k ≤ n / b = (le-div_iff_mul-le {k = b} {x = b ^ k} {y = n} (omega arith)).1 g in
      let o : b ^ zero ≤ b ^ k = pow-le-pow_right {n = b} (omega arith) zero-le in
      let one : 1 * b ≤ n = (le-div_iff_mul-le {k = b} {x = 1} {y = n} (omega arith)).0 (le_trans (rw pow-zero at o) q) in
      let p : b ≤ n = omega arith in
      rw (digits_step n p, length-append, digits_pow k (n / b) q, div-div-eq-div-mul, pow-suc, mul_comm b (b ^ k)) (omega arith)

  -- between two neighbouring powers of the base: the greater exponent is the number of digits
  pub digits_between : (k n : ℕ) → b ^ k ≤ n → n < b ^ suc k → length (digits b n) ≡ k + 1
  digits_between k n h g =
      let p : b ^ zero ≤ b ^ k = pow-le-pow_right {n = b} (omega arith) zero-le in
      let q : n / b ^ k < b = (div-lt_iff_lt-mul {k = b ^ k} {x = n} {y = b} (rw pow-zero at p)).1 (rw (pow-succ' b k) at g) in
      rw (digits_pow k n h, digits_low (n / b ^ k) q)

  pub digits_pos : (n : ℕ) → 1 ≤ length (digits b n)
  digits_pos n = ⊎_elim
      (λ (l : n < b). rw (digits_low n l) (omega arith))
      (λ (g : b ≤ n). rw (digits_step n g, length-append) (omega arith))
      (lt_or_ge n b)

  -- a number below a power of the base has at most so many digits
  pub digits-short : (k n : ℕ) → n < b ^ suc k → length (digits b n) ≤ suc k
  digits-short zero n h = rw (digits_low n (rw (pow-suc, pow-zero, one-mul) at h)) (omega arith)
  digits-short (suc k) n h = ⊎_elim
      (λ (l : n < b). rw (digits_low n l) (omega arith))
      (λ (g : b ≤ n). rw (digits_step n g, length-append) (omega (arith, digits-short k (n / b) ((div-lt_iff_lt-mul {k = b} {x = n} {y = b ^ suc k} (omega arith)).1 (rw (pow-suc b (suc k)) at h)))))
      (lt_or_ge n b)

  -- the same laws of the text, whatever byte stands for a digit
  module _ (f : ℕ → ℕ) where
    pub text-low : (n : ℕ) → n < b → digit_text f b n ≡ f n ∷ []
    unfolding digit_text
    text-low n h = rw (digits_low n h)

    pub text-step : (n : ℕ) → b ≤ n → digit_text f b n ≡ digit_text f b (n / b) ++ (f (n % b) ∷ [])
    unfolding digit_text
    text-step n h = rw (digits_step n h, map-append)

    pub text-length : (n : ℕ) → length (digit_text f b n) ≡ length (digits b n)
    unfolding digit_text
    text-length n = simp length-map

    pub text_pow : (k n : ℕ) → b ^ k ≤ n → length (digit_text f b n) ≡ k + length (digit_text f b (n / b ^ k))
    text_pow k n h = simp text-length (digits_pow k n h)

    pub text-one : (n : ℕ) → n < b → length (digit_text f b n) ≡ 1
    text-one n h = rw (text-low n h)

    pub text_pos : (n : ℕ) → 1 ≤ length (digit_text f b n)
    text_pos n = rw text-length (digits_pos n)

    pub text-short : (k n : ℕ) → n < b ^ suc k → length (digit_text f b n) ≤ suc k
    text-short k n h = rw text-length (digits-short k n h)

-- up to base ten a hexadecimal digit is a decimal one
pub same_digits : (h : HexFormatting) (b : ℕ) → 2 ≤ b → b ≤ 10 → (n : ℕ) → digit_text (hex_digit h) b n ≡ digit_text dec_digit b n
same_digits h b b2 b10 = by_digits b b2 (λ (n : ℕ). digit_text (hex_digit h) b n ≡ digit_text dec_digit b n)
    (λ n l. rw (text-low b b2 (hex_digit h) n l, text-low b b2 dec_digit n l) (rw (lt-ltb n 10 (le_trans l b10)) refl))
    (λ n l e. rw (text-step b b2 (hex_digit h) n l, text-step b b2 dec_digit n l, e, lt-ltb (n % b) 10 (le_trans (mod-lt n (omega arith)) b10)) refl)

-- a power of 16 as one of 2
pub sixteen : (q : ℕ) → 16 ^ q ≡ 2 ^ (4 * q)
sixteen zero = refl
sixteen (suc q) =
    let e : 4 * suc q ≡ 4 * q + 4 = omega arith in
    rw (pow-suc, sixteen q, e, pow-add)

-- what the count of leading zero bits of a number of k bits says of its digits
module _ (k n : ℕ) (h : n < 2 ^ k) where
  pub bits_zero : k - count_leading_zeros k n ≡ 0 → n ≡ 0
  bits_zero e =
      let m = leading_length k n h in
      let z : m.0 ≡ 0 = omega (arith, m.1) in
      omega (arith, rw z at m.2)

  -- j is the place of the highest set bit
  top : (k - count_leading_zeros k n ≡ 0 → ⊥) → (j : ℕ) × (k - count_leading_zeros k n ≡ j + 1) × (2 ^ j ≤ n) × (n < 2 ^ suc j)
  top ne = ⊎_elim
      (λ (z : n ≡ 0). absurd (ne (rw (z, leading_of_zero) (omega arith))))
      (λ (p : 0 < n). let t = leading_top k n p h in (t.0, omega (arith, t.1), t.2, t.3))
      (eq-zero-or-pos n)

  pub bits_binary : (k - count_leading_zeros k n ≡ 0 → ⊥) → length (digits 2 n) ≡ k - count_leading_zeros k n
  bits_binary ne = let t = top ne in digits_between 2 (lit≤ tt) t.0 n t.2 t.3 ∙ sym t.1

  pub bits_hex : (k - count_leading_zeros k n ≡ 0 → ⊥) → length (digits 16 n) ≡ (k - count_leading_zeros k n + 3) / 4
  bits_hex ne =
      let t = top ne in
      let q = t.0 / 4 in
      let lo : 16 ^ q ≤ n = rw sixteen (le_trans (pow_mono {i = 4 * q} {j = t.0} (omega arith)) t.2) in
      let hi : n < 16 ^ suc q = rw sixteen (le_trans t.3 (pow_mono {i = suc t.0} {j = 4 * suc q} (omega arith))) in
      digits_between 16 (lit≤ tt) q n lo hi ∙ omega (arith, t.1)
