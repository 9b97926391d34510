-- A signed number below zero by its complement, and one from zero on, at any width.
use Rattle.std.specs.Prelude.{◌≡◌, ℕ, suc, ◌+◌, ◌-◌, ◌^◌, ◌<◌, true, false, ltb, ◌∷◌, ℤ, pos, negsuc, nat_abs}
use mathlib.Core.Path.{refl, sym, ap, ◌∙◌}
use native.Mathlib.Omega.{arith}
use lib.Signed.{lt_z}
use borrow.Author.Tests.{ltb-true}
use mir.Syntax.{Width}
use mir.Val.{SFits, bits, hbits, of_z, to_z}
use Rattle.pwrapper.specs.Number.{twos_complement, decimal, display_text}
use mir.ValLaws.{to_z-of_z, to_z_pos, half_full}

-- the complement of -(n + 1), read as signed, is n
not_neg : (w : Width) (n : ℕ) → n < 2 ^ hbits w → to_z w (2 ^ bits w - 1 - of_z w (negsuc n)) ≡ pos n
not_neg w n h =
    let f : n < 2 ^ bits w = half_full w h in
    let e : 2 ^ bits w - 1 - (2 ^ bits w - suc n) ≡ n = omega arith in
    rw e (to_z_pos w n h)

-- what is known in the branch x < 0
pub record Below (w : Width) (z : ℤ) : Type 0 where
  pub n : ℕ
  pub read : to_z w (2 ^ bits w - 1 - of_z w z) ≡ pos n
  pub size : n + 1 ≡ nat_abs z
  pub twos : 2 ^ bits w - 1 - n ≡ twos_complement (bits w) z
  pub text : display_text z ≡ 45 ∷ decimal (nat_abs z)
  pub half : n < 2 ^ hbits w
  pub full : n < 2 ^ bits w

pub record From (w : Width) (z : ℤ) : Type 0 where
  pub n : ℕ
  pub read : to_z w (of_z w z) ≡ pos n
  pub size : n ≡ nat_abs z
  pub twos : n ≡ twos_complement (bits w) z
  pub text : display_text z ≡ decimal (nat_abs z)
  pub full : n < 2 ^ bits w

pub below : (w : Width) (z : ℤ) → SFits w z → lt_z (to_z w (of_z w z)) (pos 0) ≡ true → Below w z
below w (pos n) f t =
    let s : ltb n 0 ≡ true = ap (λ (z : ℤ). lt_z z (pos 0)) (sym (to_z-of_z w (pos n) f)) ∙ t in
    absurd (omega (arith, ltb-true n 0 s))
below w (negsuc n) f t = record { n = n; read = not_neg w n f.sfits; size = omega arith; twos = let f' : n < 2 ^ bits w = half_full w f.sfits in omega arith; text = refl; half = f.sfits; full = half_full w f.sfits }

pub from : (w : Width) (z : ℤ) → SFits w z → lt_z (to_z w (of_z w z)) (pos 0) ≡ false → From w z
from w (pos n) f t = record { n = n; read = to_z-of_z w (pos n) f; size = refl; twos = refl; text = refl; full = half_full w f.sfits }
from w (negsuc n) f t =
    let s : true ≡ false = ap (λ (z : ℤ). lt_z z (pos 0)) (sym (to_z-of_z w (negsuc n) f)) ∙ t in
    let z : ◌≡◌ {A = ℕ} 0 1 = cc in absurd (omega arith)
