-- How what has to follow a text changes with one octet more.
use mathlib.Core.Bool.{false}
use mathlib.Core.Option.{none, some}
use mathlib.Core.List.{List, [], ◌∷◌}
use mathlib.Core.Path.{◌≡◌, refl}
use Prim.Native.Nat.{ℕ, zero, suc, ◌≤◌, ◌<◌, ◌-◌}
use native.Mathlib.Omega.{arith}
use borrow.Author.Rules.{rules}
use lib.ListN.{replicate}
use Rattle.utf8.specs.Utf8.{Octets, tail, follow, continues}
use Rattle.utf8.specs.Expected.{ranges_of}
use Rattle.utf8.proofs.Grammar.{First, follows, broken}

-- what has to follow a first octet
pub begins : {a : ℕ} {rs : List Octets} → First a rs → (s : List ℕ) → continues s (some rs) ≡ continues s (follow a)
begins f s = rw (follows f)

-- no octet is from 1 to 0
pub never : (s : List ℕ) → continues s (some (ranges_of 1 1 0)) ≡ false
unfolding continues
never [] = refl
never (a ∷ s) = grind arith

-- what has to follow an octet that is no first octet
pub breaks : (a : ℕ) → follow a ≡ none → (s : List ℕ) → continues s (some (ranges_of 1 1 0)) ≡ continues s (follow a)
breaks a e s = grind (arith, never, broken)

tails : (n : ℕ) → ranges_of n 0x80 0xBF ≡ replicate n tail
tails n = search rules

-- an octet in the range
pub passes : (n l h a : ℕ) → 0 < n → l ≤ a → a ≤ h → (s : List ℕ) → continues s (some (ranges_of (n - 1) 0x80 0xBF)) ≡ continues (a ∷ s) (some (ranges_of n l h))
unfolding continues
passes zero l h a k p q s = absurd (omega arith)
passes (suc n) l h a k p q s = grind (arith, tails)

-- an octet out of the range
pub fails : (n l h a : ℕ) → 0 < n → (l ≤ a → h < a) → (s : List ℕ) → continues s (some (ranges_of 1 1 0)) ≡ continues (a ∷ s) (some (ranges_of n l h))
unfolding continues
fails zero l h a k p s = absurd (omega arith)
fails (suc n) l h a k p s = grind (arith, never)
