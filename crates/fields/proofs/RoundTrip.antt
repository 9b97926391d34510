-- What is read and what is printed are the same texts, of numbers and of bytes.
use borrow.Author.Rules.{rules}
use mathlib.Core.Bool.{Bool, true, false, cond, ◌&&◌, false≢true, and-eq-true_iff}
use mathlib.Core.Logic.{dite}
use mathlib.Core.Path.{◌≡◌, refl, sym, ap, ◌∙◌}
use mathlib.Core.List.{List, [], ◌∷◌, ◌++◌, append-nil}
use Prim.Native.Nat.{ℕ, ◌+◌, ◌-◌, ◌*◌, ◌/◌, ◌%◌, ◌≤◌, ◌<◌}
use native.Mathlib.Nat.{mod-lt, div-add-mod'}
use native.Mathlib.Decide.{dec_lt, ℕ_discrete}
use native.Mathlib.Omega.{arith}
use borrow.Author.Tests.{ltb-true, le-leb}
use lib.Dec.{ltb, lit≤}
use lib.ListN.{length, get_or, get_or-append}
use lib.Seq.{append_snoc}
use Rattle.formatting.specs.declared.flags.HexFormatting.TheVariants.{Upper}
use Rattle.formatting.specs.Hex.{hex_digit}
use Rattle.std.specs.Prelude.{Some, None}
use Rattle.std.proofs.lemmas.Option.{none-some, same_Some}
use Rattle.pwrapper.specs.Digits.{dec_digit}
use Rattle.pwrapper.specs.Number.{decimal}
use Rattle.pwrapper.proofs.Digits.{by_digits, text-low, text-step, text_pos, text-one}
use Rattle.fields.specs.Decimal.{read_from, is_shortest, decimal_of}
use Rattle.fields.specs.Hex.{is_hex_digit, hex_value, is_hex, hex_bytes, hex_pairs}
use Rattle.fields.specs.RoundTrip.{all_bytes, NumberRoundTrip, HexRoundTrip}
use Rattle.fields.proofs.Numbers.{number-zero, number_digits}

decimal-low : (n : ℕ) → n < 10 → decimal n ≡ (48 + n) ∷ []
decimal-low = text-low 10 (lit≤ tt) dec_digit

decimal_step : (n : ℕ) → 10 ≤ n → decimal n ≡ decimal (n / 10) ++ ((48 + n % 10) ∷ [])
decimal_step = text-step 10 (lit≤ tt) dec_digit

-- one digit more
decimal-more : (n d : ℕ) → 0 < n → d < 10 → decimal (n * 10 + d) ≡ decimal n ++ ((48 + d) ∷ [])
decimal-more n d h k =
    let q : (n * 10 + d) / 10 ≡ n = omega arith in
    let r : (n * 10 + d) % 10 ≡ d = omega arith in
    decimal_step (n * 10 + d) (omega arith) ∙ rw (q, r)

-- a byte that is read is a digit
digit : (a b : ℕ) (s : List ℕ) (n : ℕ) → read_from a (b ∷ s) ≡ Some n → (48 ≤ b) × (b ≤ 57) × (read_from (a * 10 + (b - 48)) s ≡ Some n)
unfolding read_from
digit a b s n e = search rules

-- the digits of a number above 0, and then what is read on
grows : (s : List ℕ) (a n : ℕ) → 0 < a → read_from a s ≡ Some n → decimal a ++ s ≡ decimal n
unfolding read_from
grows [] a n h e = rw (same_Some a n e, append-nil)
grows (b ∷ s) a n h e =
    let p = digit a b s n e in
    let v : 48 + (b - 48) ≡ b = omega arith in
    let d : decimal (a * 10 + (b - 48)) ≡ decimal a ++ (b ∷ []) = decimal-more a (b - 48) h (omega arith) ∙ rw v in
    sym (append_snoc (decimal a) b s) ∙ (rw d at (grows s (a * 10 + (b - 48)) n (omega arith) p.2))

read_shortest : (s : List ℕ) (n : ℕ) → decimal_of s ≡ Some n → s ≡ decimal n
unfolding read_from is_shortest
read_shortest [] n e = absurd (none-some n e)
read_shortest (b ∷ []) n e =
    let p = digit 0 b [] n e in
    let v = same_Some (0 * 10 + (b - 48)) n p.2 in
    let w : 48 + n ≡ b = omega arith in
    rw (decimal-low n (omega arith), w)
read_shortest (b ∷ d ∷ s) n e =
    dite (ℕ_discrete b 48)
    (λ z. absurd (none-some n (sym (number-zero (b ∷ d ∷ s) (omega arith) z) ∙ e)))
    (λ z.
    let p = digit 0 b (d ∷ s) n (sym (number_digits (b ∷ d ∷ s) (omega arith) (λ h. z)) ∙ e) in
    let a = 0 * 10 + (b - 48) in
    let v : 48 + a ≡ b = omega arith in
    let w : decimal a ≡ b ∷ [] = decimal-low a (omega arith) ∙ rw v in
    rw w at (grows (d ∷ s) a n (omega arith) p.2))

read-snoc : (s : List ℕ) (a k d : ℕ) → d < 10 → read_from a s ≡ Some k → read_from a (s ++ ((48 + d) ∷ [])) ≡ Some (k * 10 + d)
unfolding read_from
read-snoc [] a k d h e =
    let v : 48 + d - 48 ≡ d = omega arith in
    rw (le-leb 48 (48 + d) (omega arith), le-leb (48 + d) 57 (omega arith), v, same_Some a k e)
read-snoc (b ∷ s) a k d h e =
    let p = digit a b s k e in
    rw (le-leb 48 b p.0, le-leb b 57 p.1) (read-snoc s (a * 10 + (b - 48)) k d h p.2)

-- read back, the digits give the number
read-decimal : (n : ℕ) → read_from 0 (decimal n) ≡ Some n
unfolding read_from
read-decimal = by_digits 10 (lit≤ tt) (λ (n : ℕ). read_from 0 (decimal n) ≡ Some n)
    (λ n h. let v : 0 * 10 + n ≡ n = omega arith in rw (decimal-low n h) (read-snoc [] 0 0 n h refl ∙ ap Some v))
    (λ n h e. rw (decimal_step n h) (read-snoc (decimal (n / 10)) 0 (n / 10) (n % 10) (mod-lt n (omega arith)) e ∙ ap Some (div-add-mod' n 10)))

-- only of 0 is the first digit `0`
first-digit : (n : ℕ) → 0 < n → 48 < get_or (decimal n) 0 0
first-digit = by_digits 10 (lit≤ tt) (λ (n : ℕ). 0 < n → 48 < get_or (decimal n) 0 0)
    (λ n h p. rw (decimal-low n h) (omega arith))
    (λ n h e p. rw (decimal_step n h, get_or-append (decimal (n / 10)) ((48 + n % 10) ∷ []) 0 0 (text_pos 10 (lit≤ tt) dec_digit (n / 10))) (e (omega arith)))

decimal_shortest : (n : ℕ) → 1 < length (decimal n) → get_or (decimal n) 0 0 ≡ 48 → ⊥
decimal_shortest n h e =
    dite (dec_lt n 10)
    (λ l. omega (arith, text-one 10 (lit≤ tt) dec_digit n l))
    (λ l. omega (arith, first-digit n (omega arith)))

pub number_round_trip : NumberRoundTrip
number_round_trip s n = (
  read_shortest s n,
  λ e. rw (e, number_digits (decimal n) (λ z. omega (arith, text_pos 10 (lit≤ tt) dec_digit n)) (decimal_shortest n)) (read-decimal n),
)

-- a digit's value is below 16, and the digit is that of its value
digit_value : (b : ℕ) → is_hex_digit b ≡ true → (hex_value b < 16) × (hex_digit Upper (hex_value b) ≡ b)
digit_value b e = search rules

-- the digit of a number below 16 is one, and has it as its value
digit_of : (d : ℕ) → d < 16 → (is_hex_digit (hex_digit Upper d) ≡ true) × (hex_value (hex_digit Upper d) ≡ d)
digit_of d h = search rules

-- the bytes of pairs, printed, are the pairs
pairs_of_bytes : (s : List ℕ) → is_hex s ≡ true → hex_pairs (hex_bytes s) ≡ s
unfolding is_hex hex_bytes hex_pairs
pairs_of_bytes [] e = refl
pairs_of_bytes (a ∷ []) e = absurd (false≢true e)
pairs_of_bytes (a ∷ b ∷ s) e =
    let p = (and-eq-true_iff (is_hex_digit a && is_hex_digit b) (is_hex s)).0 e in
    let q = (and-eq-true_iff (is_hex_digit a) (is_hex_digit b)).0 p.0 in
    let x = digit_value a q.0 in
    let y = digit_value b q.1 in
    let u : (hex_value a * 16 + hex_value b) / 16 ≡ hex_value a = omega arith in
    let v : (hex_value a * 16 + hex_value b) % 16 ≡ hex_value b = omega arith in
    rw (u, v, x.1, y.1, pairs_of_bytes s p.1)

-- the pairs of bytes are pairs, and read back they give the bytes
bytes_of_pairs : (t : List ℕ) → all_bytes t ≡ true → (is_hex (hex_pairs t) ≡ true) × (hex_bytes (hex_pairs t) ≡ t)
unfolding is_hex hex_bytes hex_pairs
bytes_of_pairs [] e = (refl, refl)
bytes_of_pairs (b ∷ t) e =
    let p = (and-eq-true_iff (ltb b 256) (all_bytes t)).0 e in
    let l = ltb-true b 256 p.0 in
    let x = digit_of (b / 16) (omega arith) in
    let y = digit_of (b % 16) (omega arith) in
    let r = bytes_of_pairs t p.1 in
    let v : b / 16 * 16 + b % 16 ≡ b = div-add-mod' b 16 in
    (rw (x.0, y.0) r.0, rw (x.1, y.1, v, r.1))

read_pairs : (s t : List ℕ) (i : Bool) → is_hex s ≡ i → cond i (Some (hex_bytes s)) None ≡ Some t → s ≡ hex_pairs t
read_pairs s t true e o = sym (pairs_of_bytes s e) ∙ ap hex_pairs (same_Some (hex_bytes s) t o)
read_pairs s t false e o = absurd (none-some t o)

pub hex_round_trip : HexRoundTrip
hex_round_trip s t h =
    let r = bytes_of_pairs t h in
    (read_pairs s t (is_hex s) refl, λ e. rw (e, r.0, r.1))
