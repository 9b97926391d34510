-- A text compared with a word, byte by byte.
use Rattle.std.proofs.lemmas.Grind.{common_steps}
use borrow.Author.Rules.{rules}
use Rattle.std.proofs.Common.{ℕ, Bool, true, List, [], ◌∷◌, length, ◌≡◌, refl, eqb, suc, arith}
use mathlib.Core.Bool.{◌&&◌}
use lib.ListN.{get_or}
use Rattle.std.specs.Str.{bytes_eq}

-- the bytes of p stand in w from place i on
abbrev pub stands_at : List ℕ → ℕ → List ℕ → Bool
stands_at w i [] = true
stands_at w i (c ∷ p) = eqb (get_or w i 0) c && stands_at w (suc i) p

shifted : (a : ℕ) (w : List ℕ) (i : ℕ) (p : List ℕ) → stands_at (a ∷ w) (suc i) p ≡ stands_at w i p
shifted a w i [] = refl
shifted a w i (c ∷ p) = grind (arith, common_steps, shifted a w (suc i) p)

swapped : (x y z : Bool) → (x && (y && z)) ≡ (y && (x && z))
swapped x y z = search rules

sucs : (m n : ℕ) → eqb (suc m) (suc n) ≡ eqb m n
sucs m n = search rules

pub bytes_eq_word : (w p : List ℕ) → bytes_eq w p ≡ (eqb (length w) (length p) && stands_at w 0 p)
bytes_eq_word [] [] = refl
bytes_eq_word [] (c ∷ p) = grind (arith, common_steps)
bytes_eq_word (a ∷ w) [] = grind (arith, common_steps)
bytes_eq_word (a ∷ w) (c ∷ p) = rw (bytes_eq_word w p, sucs (length w) (length p), shifted a w 0 p) (swapped (eqb a c) (eqb (length w) (length p)) (stands_at w 0 p))

pub ruleset words = bytes_eq_word
