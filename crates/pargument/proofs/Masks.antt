-- The greatest number of k bits, as the greatest one of 64 bits shifted right.
use Rattle.std.proofs.Common.{◌≡◌, ℕ, suc, ◌+◌, ◌-◌, ◌*◌, ◌/◌, ◌^◌, ◌≤◌, arith, pow_pos, pow-add, suc-mul, ap, ◌∙◌}
use Rattle.std.proofs.lemmas.Nat.{div-mul-add}

pub shifted-ones : (k : ℕ) → k ≤ 64 → 18446744073709551615 / 2 ^ (64 - k) ≡ 2 ^ k - 1
shifted-ones k h =
    let w = 2 ^ (64 - k) in
    let s : k + (64 - k) ≡ 64 = omega arith in
    let p : 2 ^ 64 ≡ 2 ^ k * w = rw s at (pow-add 2 k (64 - k)) in
    let o : 2 ^ k ≡ suc (2 ^ k - 1) = omega (arith, pow_pos k) in
    let t : 2 ^ 64 ≡ (2 ^ k - 1) * w + w = p ∙ ap (λ (x : ℕ). x * w) o ∙ suc-mul (2 ^ k - 1) w in
    let e : 18446744073709551615 ≡ (2 ^ k - 1) * w + (w - 1) = omega (arith, t, pow_pos (64 - k)) in
    rw e (div-mul-add (2 ^ k - 1) w (w - 1) (omega (arith, pow_pos (64 - k))))
