-- The numbers of a call's words: the width that they are, and the integers of a width, over the width.
use mathlib.Core.Path.{◌≡◌, refl}
use Prim.Native.Nat.{ℕ, suc, ◌+◌, ◌*◌, ◌-◌, ◌/◌, ◌^◌, ◌≤◌, ◌<◌}
use native.Mathlib.Omega.{arith}
use mir.Syntax.{w64}
use mir.Val.{to_z}
use mir.Facts.{to_z_pos, to_z-neg}
use borrow.Author.Tests.{lt-ltb, le-ltb}
use Rattle.value_writes.specs.declared.Width.{Width}
use Rattle.value_writes.specs.declared.Width.TheVariants.{W8, W16, W32, W64}
use Rattle.value_writes.specs.Values.{bits_of}
use Rattle.encoded_call.specs.Encoding.{signed_at}

pub half : (w : Width) → 2 ^ bits_of w ≡ 2 * 2 ^ (bits_of w - 1)
half W8 = refl
half W16 = refl
half W32 = refl
half W64 = refl

module _ (w : Width) (g a : ℕ) (e : g + 1 ≡ 2 ^ bits_of w) (f : g < 2 ^ 64) where
  -- up to half of the greatest number, the bits are the integer
  pub from_zero : a ≤ g / 2 → to_z w64 a ≡ signed_at (bits_of w) a
  from_zero h = rw (lt-ltb a (2 ^ (bits_of w - 1)) (omega (arith, half w))) (to_z_pos w64 (omega arith))

  -- past it, what is missing to the greatest number is the complement
  pub below-zero : g / 2 < a → a ≤ g → to_z w64 (2 ^ 64 - 1 - (g - a)) ≡ signed_at (bits_of w) a
  below-zero h l =
      let n : 2 ^ bits_of w - 1 - a ≡ g - a = omega arith in
      let m : 2 ^ 64 - 1 - (g - a) ≡ 2 ^ 64 - suc (g - a) = omega arith in
      rw (le-ltb a (2 ^ (bits_of w - 1)) (omega (arith, half w)), n, m) (to_z-neg w64 (g - a) (omega arith))
