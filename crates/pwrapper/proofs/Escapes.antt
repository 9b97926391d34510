-- The length of a quoted string: what the escapes of its bytes add to them.
use Rattle.std.specs.Prelude.{◌≡◌, ℕ, ◌+◌, ◌-◌, ◌%◌, ◌^◌, ◌<◌, ◌≤◌, cond, List, [], ◌∷◌, ◌++◌, length, get_or, take, drop}
use mathlib.Core.Path.{refl, sym, ◌∙◌}
use mathlib.Core.Logic.{⊎_elim}
use mathlib.Core.List.{append_assoc, append-nil}
use native.Mathlib.Omega.{arith}
use native.Mathlib.Numerals.{add-one}
use lib.ListN.{length-append}
use lib.Seq.{drop-append-add, take-length, take-suc}
use borrow.Author.Tests.{lt-ltb, le-ltb}
use Rattle.std.specs.Prelude.{Option, Some, None, Ok, Err}
use Rattle.std.specs.Option.{SomeIff, ok_or}
use Rattle.error.specs.declared.Error.{Error}
use Rattle.error.specs.declared.Error.TheVariants.{CountTooLarge}
use Rattle.formatting.specs.declared.escaping.Escape.{Escape}
use Rattle.formatting.specs.declared.escaping.Escape.TheVariants.{Bare, Backslash, Hexadecimal}
use Rattle.formatting.specs.Escape.{escape_of, escape_text, is_escaped, is_letter, escaped, quoted}
use Rattle.pwrapper.specs.QuotedCount.{count_of}
use Rattle.pwrapper.proofs.Digits.{lt_or_ge}

-- two texts one after the other
escaped-append : (a b : List ℕ) → escaped (a ++ b) ≡ escaped a ++ escaped b
unfolding escaped
escaped-append [] b = refl
escaped-append (x ∷ a) b = rw (escaped-append a b) (sym (append_assoc (escape_text (escape_of x) x) (escaped a) (escaped b)))

-- the text of a byte under its escape: a letter's is one byte longer, a code's three
pub escape_length : (e : Escape) (b : ℕ) → length (escape_text e b) ≡ cond (is_escaped e) (cond (is_letter e) 2 4) 1
escape_length Bare b = refl
escape_length (Backslash l) b = refl
escape_length Hexadecimal b = refl

escape_pos : (e : Escape) (b : ℕ) → 1 ≤ length (escape_text e b)
escape_pos Bare b = omega arith
escape_pos (Backslash l) b = omega arith
escape_pos Hexadecimal b = omega arith

-- what holds where i bytes are passed: their escapes add sum
pub record Passed (s : List ℕ) (sum i : ℕ) : Type 0 where
  pub within : i ≤ length s
  pub all : length (escaped (take i s)) ≡ i + sum

pub none_passed : (s : List ℕ) → Passed s 0 0
unfolding escaped
none_passed s = record { within = omega arith; all = refl }

-- one byte more, under a sum that grows by what its escape adds
pub byte_passed : {s : List ℕ} {sum i : ℕ} → Passed s sum i → (sum' : ℕ) → i < length s
    → sum + length (escape_text (escape_of (get_or s i 0)) (get_or s i 0)) ≡ sum' + 1 → Passed s sum' (i + 1)
unfolding escaped
byte_passed {s} {sum} {i} p sum' h e = record {
  within = omega arith;
  all = rw (add-one, take-suc s i 0 h, escaped-append, length-append, append-nil) (omega (arith, p.all));
}

-- where all are passed: the bytes, the marks, and what the escapes add
pub all-passed : {s : List ℕ} {sum i : ℕ} → Passed s sum i → length s ≤ i → length s + 2 + sum ≡ length (quoted s)
all-passed {s} {sum} {i} p h =
    let e : i ≡ length s = omega (arith, p.within) in
    let l = rw (e, take-length) at p.all in
    rw length-append (omega arith)

-- an escape is not shorter than its byte
escaped-long : (t : List ℕ) → length t ≤ length (escaped t)
unfolding escaped
escaped-long [] = omega arith
escaped-long (x ∷ t) = rw (length-append (escape_text (escape_of x) x) (escaped t)) (omega (arith, escaped-long t, escape_pos (escape_of x) x))

-- len counts the marks and what stands before rest, which comes in turns of 64 bytes until last
pub record Turns (s last : List ℕ) (len : ℕ) (rest : List ℕ) : Type 0 where
  pub counted : length (quoted s) + length rest ≡ len + length (escaped rest)
  pub whole : length rest % 64 ≡ length last
  pub ends : drop (length rest - length last) rest ≡ last

pub first-turn : (s last : List ℕ) → last ≡ drop (length s - length s % 64) s → length last ≡ length s % 64 → Turns s last (length s + 2) s
first-turn s last e l = record { counted = rw length-append (omega arith); whole = sym l; ends = rw l (sym e) }

-- a turn x, whose escapes add more
module _ {s last rest : List ℕ} {len : ℕ} (p : Turns s last len rest) (x rest' : List ℕ) (more : ℕ) (e : rest ≡ x ++ rest') (n : length (escaped x) ≡ length x + more) where
  pub turn-counted : length (quoted s) + length rest' ≡ len + more + length (escaped rest')
  turn-counted =
      let a : length (escaped rest) ≡ length (escaped x) + length (escaped rest') = rw (e, escaped-append, length-append) in
      let b : length rest ≡ length x + length rest' = rw (e, length-append) in
      omega (arith, n, a, b, p.counted)

  pub next-turn : length x ≡ 64 → Turns s last (len + more) rest'
  next-turn h =
      let l : length rest ≡ 64 + length rest' = rw (e, length-append, h) in
      let m : length rest' % 64 ≡ length last = omega (arith, p.whole) in
      let k : length rest - length last ≡ length x + (length rest' - length last) = omega arith in
      record { counted = turn-counted; whole = m; ends = rw (k, e, drop-append-add x rest') at p.ends }

  pub turn-passes : 2 ^ 64 ≤ len + more → 2 ^ 64 ≤ length (quoted s)
  turn-passes h = omega (arith, turn-counted, escaped-long rest')

-- where less than a turn is left
pub last-turn : {s last rest : List ℕ} {len : ℕ} → Turns s last len rest → length rest < 64 → (more : ℕ) → length (escaped last) ≡ length last + more → len + more ≡ length (quoted s)
last-turn {s} {last} {rest} {len} p h more n =
    let z : length rest - length last ≡ 0 = omega (arith, p.whole) in
    let e : rest ≡ last = rw z at p.ends in
    omega (arith, n, rw e at p.counted)

-- a count that fits, and one that does not
pub count_fits : (n : ℕ) → n < 2 ^ 64 → count_of n ≡ Ok n
count_fits n h = rw (lt-ltb n (2 ^ 64) h)

pub count-passes : (n : ℕ) → 2 ^ 64 ≤ n → count_of n ≡ Err CountTooLarge
count-passes n h = rw (le-ltb n (2 ^ 64) h)

-- a sum that may pass is a count
pub sum-counted : (r : Option ℕ) (n : ℕ) → SomeIff r (n < 2 ^ 64) n → ok_or r CountTooLarge ≡ count_of n
sum-counted None n h = ⊎_elim
    (λ (l : n < 2 ^ 64). absurd (h l))
    (λ (g : 2 ^ 64 ≤ n). sym (count-passes n g))
    (lt_or_ge n (2 ^ 64))
sum-counted (Some x) n h = rw (h.1) (sym (count_fits n h.0))

pub counted-ok : (v n : ℕ) → Ok v ≡ count_of n → v ≡ n
counted-ok v n h = ⊎_elim
    (λ (l : n < 2 ^ 64). cc (h ∙ count_fits n l))
    (λ (g : 2 ^ 64 ≤ n). cc (h ∙ count-passes n g))
    (lt_or_ge n (2 ^ 64))

pub counted-err : (e : Error) (n : ℕ) → Err e ≡ count_of n → (e ≡ CountTooLarge) × (2 ^ 64 ≤ n)
counted-err e n h = ⊎_elim
    (λ (l : n < 2 ^ 64). cc (h ∙ count_fits n l))
    (λ (g : 2 ^ 64 ≤ n). (cc (h ∙ count-passes n g), g))
    (lt_or_ge n (2 ^ 64))
