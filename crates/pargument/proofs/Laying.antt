-- Digits laid in an array from its end: the start, the step and the end of the loop, in any base from 2 on.
use Rattle.std.proofs.Common.{◌≡◌, ℕ, zero, suc, ◌-◌, ◌*◌, ◌/◌, ◌%◌, ◌^◌, ◌<◌, ◌≤◌, List, ◌∷◌, ◌++◌, length, set, replicate, refl, ap, ⊎_elim, mod-eq_of_lt, div-lt_iff_lt-mul, arith, rules, lit≤, length-append}
use native.Mathlib.Nat.{div-eq_of_lt}
use lib.Seq.{append_snoc}
use Rattle.pwrapper.specs.Digits.{digit_text}
use Rattle.pwrapper.proofs.Digits.{lt_or_ge, text-low, text-step, text_pos, text-short}
use Rattle.pargument.specs.Integer.{start_of, array_of, Ends}

-- a number of 64 bits has at most 64 digits in base 2, 20 in base 10 and 16 in base 16
pub digits_fit : (f : ℕ → ℕ) (n : ℕ) → n < 2 ^ 64 → (length (digit_text f 2 n) ≤ 64) × (length (digit_text f 10 n) ≤ 20) × (length (digit_text f 16 n) ≤ 16)
digits_fit f n h = (text-short 2 (lit≤ tt) f 63 n h, text-short 10 (lit≤ tt) f 19 n (omega arith), text-short 16 (lit≤ tt) f 15 n h)

-- the bytes that a text of at most k leaves before it, for a prefix or a sign
pub left_of : {size k : ℕ} {array : List ℕ} {at : ℕ} {text : List ℕ} → Ends size array at text → length text ≤ k → size - k ≤ at
left_of h l = omega (arith, h.whole)

-- what the contracts say of the start and the array
pub settled : {size : ℕ} {array : List ℕ} {at : ℕ} {text : List ℕ} → Ends size array at text → (at ≡ start_of size text) × (array ≡ array_of size text)
settled h = search rules

set-last-zero : (k : ℕ) (t : List ℕ) (d : ℕ) → set (replicate (suc k) 0 ++ t) k d ≡ replicate k 0 ++ d ∷ t
set-last-zero zero t d = refl
set-last-zero (suc k) t d = grind (arith, set-last-zero k t d)

-- one byte more before the text
pub put : {size : ℕ} {array : List ℕ} {at k : ℕ} {text : List ℕ} (d : ℕ) → at ≡ suc k → Ends size array at text → Ends size (set array k d) k (d ∷ text)
put {k = k} {text = text} d e h = record { bytes = rw (h.bytes, e) (set-last-zero k text d); whole = omega arith }

-- the loop's invariant: the digits of the rest in base b, and what is laid from `at` on, are those of n
pub record Laying (f : ℕ → ℕ) (b size n : ℕ) (array : List ℕ) (at rest : ℕ) : Type 0 where
  pub laid : List ℕ
  pub ends : Ends size array at laid
  pub fits : length (digit_text f b rest) ≤ at
  pub text : digit_text f b rest ++ laid ≡ digit_text f b n

pub laying_start : {f : ℕ → ℕ} {b n : ℕ} (size : ℕ) → length (digit_text f b n) ≤ size → Laying f b size n (replicate size 0) size n
laying_start size h = search rules

module _ {f : ℕ → ℕ} {b size n : ℕ} (b2 : 2 ≤ b) {array : List ℕ} {at rest : ℕ} (l : Laying f b size n array at rest) where
  -- there is a place for the next digit
  pub laying_place : 0 < at
  laying_place = omega (arith, text_pos b b2 f rest)

  module _ (d : ℕ) (e : d ≡ f (rest % b)) where
    pub laying_step : (rest / b ≡ 0 → ⊥) → Laying f b size n (set array (at - 1) d) (at - 1) (rest / b)
    laying_step ne =
        let g : b ≤ rest = ⊎_elim (λ s. absurd (ne (div-eq_of_lt s))) (λ s. s) (lt_or_ge rest b) in
        let t = text-step b b2 f rest g in
        record {
          laid = d ∷ l.laid;
          ends = put d (omega (arith, laying_place)) l.ends;
          fits = omega (arith, simp length-append at (ap length t));
          text = rw (e, ← append_snoc, ← t) l.text;
        }

    pub laying_end : rest / b ≡ 0 → Ends size (set array (at - 1) d) (at - 1) (digit_text f b n)
    laying_end z =
        let s : rest < 1 * b = (div-lt_iff_lt-mul {k = b} {x = rest} {y = 1} (omega arith)).0 (omega arith) in
        let s' : rest < b = omega arith in
        let t : d ∷ l.laid ≡ digit_text f b n = rw (e, mod-eq_of_lt s') (rw (text-low b b2 f rest s') at l.text) in
        rw (← t) (put d (omega (arith, laying_place)) l.ends)
