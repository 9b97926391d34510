-- The digits of a number laid backwards into a buffer, one in each turn of a loop, in any base from 2 on.
use mathlib.Core.Path.{◌≡◌, refl, ◌∙◌}
use mathlib.Core.List.{List, [], ◌∷◌, ◌++◌, append_assoc}
use Prim.Native.Nat.{ℕ, suc, ◌+◌, ◌-◌, ◌*◌, ◌/◌, ◌%◌, ◌≤◌, ◌<◌}
use mathlib.Core.Logic.{⊎_elim}
use native.Mathlib.Nat.{mod-eq_of_lt, div-eq_of_lt, div-lt_iff_lt-mul}
use native.Mathlib.Omega.{arith}
use lib.ListN.{length, take, drop, set, length-append, length-set}
use lib.Seq.{take-set-le, set_split, drop_at, length-take-le, append_snoc}
use Rattle.pwrapper.specs.Digits.{digit_text}
use Rattle.pwrapper.proofs.Digits.{lt_or_ge, text-low, text-step, text-one, text_pos}
use Rattle.str_writer.specs.Write.{splice}
use Rattle.str_writer.proofs.Splice.{splice-one}

-- a byte stored right after where t is to stand is the last byte of a longer text
splice-last : (b : List ℕ) (at : ℕ) (t : List ℕ) (d : ℕ) → at + length t < length b → splice (set b (at + length t) d) at t ≡ splice b at (t ++ (d ∷ []))
splice-last b at t d h =
    let k = at + length t in
    let e : drop k (set b k d) ≡ d ∷ drop (suc k) b =
    rw set_split (drop_at (take k b) (d ∷ drop (suc k) b) k (length-take-le k b (omega arith))) in
    let g : at + length (t ++ (d ∷ [])) ≡ suc k = rw length-append (omega arith) in
    let u : take at (set b k d) ≡ take at b = take-set-le at b k d (omega arith) in
    rw (u, e, g, ← append_assoc, append_snoc)

-- the digits of rest still have to be laid, from start up to at
pub record Laying (f : ℕ → ℕ) (b : ℕ) (buf₀ : List ℕ) (start n : ℕ) (buf : List ℕ) (at rest : ℕ) : Type 0 where
  pub place : at ≡ start + length (digit_text f b rest)
  pub some : 1 ≤ at
  pub fits : at ≤ length buf
  pub same : length buf ≡ length buf₀
  pub laid : splice buf start (digit_text f b rest) ≡ splice buf₀ start (digit_text f b n)

module _ (f : ℕ → ℕ) (b : ℕ) (b2 : 2 ≤ b) where
  pub laying_start : (buf : List ℕ) (end n : ℕ) → length (digit_text f b n) ≤ end → end ≤ length buf → Laying f b buf (end - length (digit_text f b n)) n buf end n
  laying_start buf end n h k =
      record { place = omega arith; some = omega (arith, text_pos b b2 f n); fits = k; same = refl; laid = refl }

  module _ {buf₀ : List ℕ} {start n : ℕ} {buf : List ℕ} {at rest : ℕ} (l : Laying f b buf₀ start n buf at rest) where
    pub laying_step : (rest / b ≡ 0 → ⊥) → Laying f b buf₀ start n (set buf (at - 1) (f (rest % b))) (at - 1) (rest / b)
    laying_step ne =
        let h : b ≤ rest = ⊎_elim (λ s. absurd (ne (div-eq_of_lt s))) (λ s. s) (lt_or_ge rest b) in
        let t = digit_text f b (rest / b) in
        let e : digit_text f b rest ≡ t ++ (f (rest % b) ∷ []) = text-step b b2 f rest h in
        let m : length (digit_text f b rest) ≡ length t + 1 = rw e (length-append t (f (rest % b) ∷ [])) in
        let p : at - 1 ≡ start + length t = omega arith in
        record {
          place = p;
          some = omega (arith, text_pos b b2 f (rest / b));
          fits = rw length-set (omega arith);
          same = rw length-set l.same;
          laid = rw (p, splice-last buf start t (f (rest % b)) (omega arith), ← e) l.laid;
        }

    pub laying_end : rest / b ≡ 0 → set buf (at - 1) (f (rest % b)) ≡ splice buf₀ start (digit_text f b n)
    laying_end z =
        let k : rest < 1 * b = (div-lt_iff_lt-mul {k = b} {x = rest} {y = 1} (omega arith)).0 (omega arith) in
        let h : rest < b = omega arith in
        let p : at - 1 ≡ start = omega (arith, text-one b b2 f rest h) in
        rw (p, mod-eq_of_lt h) (splice-one buf start (f rest) (omega arith) ∙ (rw (text-low b b2 f rest h) at l.laid))
