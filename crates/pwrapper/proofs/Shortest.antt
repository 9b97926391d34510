-- A check of the definition of digits: read back they give the number, each is below the base, and no zero leads.
use Rattle.std.specs.Prelude.{◌≡◌, ℕ, ◌+◌, ◌*◌, ◌/◌, ◌%◌, ◌<◌, ◌≤◌, List, [], ◌∷◌, ◌++◌, get_or}
use mathlib.Core.Path.{refl}
use mathlib.Core.Logic.{⊎_elim}
use mathlib.Core.List.Memᴰ
use mathlib.Core.List.{Memᴰ}
use native.Mathlib.Nat.{mod-lt, le-div_iff_mul-le, div-add-mod'}
use native.Mathlib.Omega.{arith}
use lib.ListN.{get_or-append}
use Rattle.pwrapper.specs.Digits.{digits}
use Rattle.pwrapper.proofs.Digits.{by_digits, digits_low, digits_step, digits_pos}

-- the number that digits stand for, highest first; a is that of the digits before
value_from : ℕ → ℕ → List ℕ → ℕ
value_from b a [] = a
value_from b a (d ∷ ds) = value_from b (a * b + d) ds

pub value : ℕ → List ℕ → ℕ
value b ds = value_from b 0 ds

last : (b a d : ℕ) (ds : List ℕ) → value_from b a (ds ++ (d ∷ [])) ≡ value_from b a ds * b + d
unfolding value_from
last b a d [] = refl
last b a d (x ∷ ds) = last b (a * b + x) d ds

module _ (b : ℕ) (b2 : 2 ≤ b) where
  -- read back, the digits give the number
  pub value-digits : (n : ℕ) → value b (digits b n) ≡ n
  unfolding value value_from
  value-digits = by_digits b b2 (λ (n : ℕ). value b (digits b n) ≡ n)
      (λ n h. rw (digits_low b b2 n h) (omega arith))
      (λ n h e. rw (digits_step b b2 n h, last, e) (div-add-mod' n b))

  -- each digit is below the base
  pub digit-below : (n d : ℕ) → Memᴰ d (digits b n) → d < b
  digit-below = by_digits b b2 (λ (n : ℕ). (d : ℕ) → Memᴰ d (digits b n) → d < b)
      (λ n h d m. rw (Memᴰ.eq_of_singleton (rw (digits_low b b2 n h) at m)) h)
      (λ n h e d m. ⊎_elim (e d)
      (λ (k : Memᴰ d (n % b ∷ [])). rw (Memᴰ.eq_of_singleton k) (mod-lt n (omega arith)))
      (Memᴰ.append_cases (digits b (n / b)) (rw (digits_step b b2 n h) at m)))

  -- only of 0 is the first digit 0
  pub first-digit : (n : ℕ) → 0 < n → 0 < get_or (digits b n) 0 0
  first-digit = by_digits b b2 (λ (n : ℕ). 0 < n → 0 < get_or (digits b n) 0 0)
      (λ n h p. rw (digits_low b b2 n h) p)
      (λ n h e p. rw (digits_step b b2 n h, get_or-append (digits b (n / b)) (n % b ∷ []) 0 0 (digits_pos b b2 (n / b))) (e ((le-div_iff_mul-le {k = b} {x = 1} {y = n} (omega arith)).1 (omega arith))))

  -- below the base the number is its own digit
  pub one-digit : (n : ℕ) → n < b → digits b n ≡ n ∷ []
  one-digit = digits_low b b2
