-- An integer as an `Integer`: its parts, at any width, and the texts and bits that it stands for.
use Rattle.std.proofs.Common.{◌≡◌, ℕ, suc, ◌+◌, ◌-◌, ◌*◌, ◌%◌, ◌^◌, ◌<◌, ◌≤◌, ℤ, pos, negsuc, nat_abs, ap, ◌∙◌, mod-eq_of_lt, suc-mul, arith, rules, pow_pos, pow-add, SFits, to_z, of_z}
use native.Mathlib.Nat.{mul-add-mod_self_right}
use lib.Bits.{and_mask}
use lib.Signed.{lt_z, mag}
use mir.Syntax.{Width}
use mir.Val.{bits}
use mir.ValLaws.{to_z-of_z, half_full}
use Rattle.pwrapper.specs.Number.{display_text, twos_complement}
use Rattle.pargument.specs.declared.Integer.{Integer}
use Rattle.pargument.specs.Integer.{is_below_zero, integer_of, integer_bits, integer_display}

pub below-zero : (z : ℤ) → lt_z z (pos 0) ≡ is_below_zero z
below-zero z = search rules

-- the parts of a signed integer of w bits, read off the number that a call takes: those of its `Integer`
pub integer-made : (w : Width) (z : ℤ) (u : ℕ) → SFits w z → u ≡ nat_abs (to_z w (of_z w z))
    → ◌≡◌ {A = Integer} (record { is_negative = lt_z (to_z w (of_z w z)) (pos 0); unsigned = u; mask = 2 ^ bits w - 1 }) (integer_of (bits w) z)
integer-made w z u h e = rw (e, to_z-of_z w z h, below-zero z)

-- the last k bits of the two's complement in 64 bits are that in k bits
complement : (k n : ℕ) → k ≤ 64 → n < 2 ^ k → (2 ^ 64 - suc n) % 2 ^ 64 % 2 ^ k ≡ 2 ^ k - suc n
complement k n k64 h =
    let s : 64 - k + k ≡ 64 = omega arith in
    let p : 2 ^ 64 ≡ 2 ^ (64 - k) * 2 ^ k = rw s at (pow-add 2 (64 - k) k) in
    let q = 2 ^ (64 - k) - 1 in
    let o : 2 ^ (64 - k) ≡ suc q = omega (arith, pow_pos (64 - k)) in
    let t : 2 ^ 64 ≡ q * 2 ^ k + 2 ^ k = p ∙ ap (λ (x : ℕ). x * 2 ^ k) o ∙ suc-mul q (2 ^ k) in
    let l : 2 ^ 64 - suc n < 2 ^ 64 = omega arith in
    let e : 2 ^ 64 - suc n ≡ q * 2 ^ k + (2 ^ k - suc n) = omega (arith, t) in
    rw (mod-eq_of_lt l, e, mul-add-mod_self_right) (mod-eq_of_lt (omega arith))

-- an integer that fits k bits, unsigned or signed: `mag` is n for n and for -(n + 1)
pub integer_bits_lem : (k : ℕ) (z : ℤ) → k ≤ 64 → mag z < 2 ^ k → integer_bits (integer_of k z) ≡ twos_complement k z
integer_bits_lem k (pos n) k64 h = rw and_mask (mod-eq_of_lt h)
integer_bits_lem k (negsuc n) k64 h = rw and_mask (complement k n k64 h)

-- the same of a signed integer of w bits
pub integer_bits-signed : (w : Width) (z : ℤ) → bits w ≤ 64 → SFits w z → integer_bits (integer_of (bits w) z) ≡ twos_complement (bits w) z
integer_bits-signed w z k64 h = integer_bits_lem (bits w) z k64 (half_full w h.sfits)

-- the decimal text is that of the number
pub integer-display : (k : ℕ) (z : ℤ) → integer_display (integer_of k z) ≡ display_text z
integer-display k z = search rules
