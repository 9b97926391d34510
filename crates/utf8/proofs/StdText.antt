-- The library's word for ASCII, and well-formed text.
use Rattle.std.proofs.Common.{true, ◌≡◌, refl, List, [], ◌∷◌, ℕ, zero, suc, ◌≤◌, ◌<◌, max, fold, arith, leb}
use Rattle.std.specs.Str.{IsAscii}
use Rattle.std.proofs.lemmas.Bool.Decides.{nat_tests}
use Rattle.utf8.specs.Utf8.{well_formed, continues, follow}

-- text of octets below 80
pub plain : (s : List ℕ) → IsAscii s → well_formed s ≡ true
unfolding continues follow
plain [] h = refl
plain (a ∷ s) h =
    let k = h 0 in
    let p : leb a 0x7F ≡ true = grind (arith, nat_tests) in
    rw p (plain s (λ i. h (suc i)))

-- nothing is above the greatest
reached : (s : List ℕ) (a : ℕ) → a ≤ fold max a s
reached [] a = omega arith
reached (x ∷ s) a = omega (arith, reached s (max a x))

pub ascii_below : (s : List ℕ) (a : ℕ) → fold max a s < 0x80 → IsAscii s
ascii_below [] a h i = omega arith
ascii_below (x ∷ s) a h zero = omega (arith, reached s (max a x))
ascii_below (x ∷ s) a h (suc i) = ascii_below s (max a x) h i
