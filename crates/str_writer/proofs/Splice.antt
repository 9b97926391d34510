-- Laws of a text spliced into a buffer.
use mathlib.Core.Path.{◌≡◌, refl, sym, ◌∙◌}
use mathlib.Core.List.{List, [], ◌∷◌, ◌++◌, append_assoc}
use Prim.Native.Nat.{ℕ, ◌+◌, ◌≤◌, ◌<◌}
use native.Mathlib.Numerals.{add-one}
use native.Mathlib.Omega.{arith}
use lib.ListN.{length, take, drop, set, get_or, length-append, length-drop, length-set}
use lib.Seq.{set_split, take_at, drop-drop, drop-append-add, length-take-le, append_snoc, paste-zero}
use Rattle.str_writer.specs.Write.{splice}

-- the empty text changes nothing
pub splice-nil : (b : List ℕ) (at : ℕ) → splice b at [] ≡ b
splice-nil b at = sym (paste-zero b at [])

-- one byte is a store
pub splice-one : (b : List ℕ) (at d : ℕ) → at < length b → set b at d ≡ splice b at (d ∷ [])
splice-one b at d h = rw (set_split, add-one, append_snoc)

-- one text after another is the two together
pub splice-splice : (b : List ℕ) (at : ℕ) (s t : List ℕ) → at + length s ≤ length b → splice (splice b at s) (at + length s) t ≡ splice b at (s ++ t)
splice-splice b at s t h =
    let l : length (take at b ++ s) ≡ at + length s = rw (length-append, length-take-le at b (omega arith)) in
    let p : take (at + length s) (splice b at s) ≡ take at b ++ s = take_at (take at b ++ s) (drop (at + length s) b) (at + length s) l in
    let a : at + length s + length t ≡ at + (length s + length t) = omega arith in
    let q : drop (at + length s + length t) (splice b at s) ≡ drop (at + (length s + length t)) b =
    (rw l at (drop-append-add (take at b ++ s) (drop (at + length s) b) (length t))) ∙ drop-drop (length t) (at + length s) b ∙ rw a in
    rw (p, q, length-append) (simp append_assoc)

-- a splice that fits keeps the length
pub length-splice : (b : List ℕ) (at : ℕ) (t : List ℕ) → at + length t ≤ length b → length (splice b at t) ≡ length b
length-splice b at t h = simp (length-append, length-drop, length-take-le at b (omega arith)) (omega arith)

-- two bytes are two stores
pub splice-two : (b : List ℕ) (at x y : ℕ) → at + 2 ≤ length b → set (set b at x) (at + 1) y ≡ splice b at (x ∷ y ∷ [])
splice-two b at x y h =
    let n : length (set b at x) ≡ length b = length-set b at x in
    splice-one (set b at x) (at + 1) y (omega arith) ∙ rw (splice-one b at x (omega arith)) (splice-splice b at (x ∷ []) (y ∷ []) (omega arith))

-- three bytes are three stores
splice-three : (b : List ℕ) (at x y z : ℕ) → at + 3 ≤ length b → set (set (set b at x) (at + 1) y) (at + 2) z ≡ splice b at (x ∷ y ∷ z ∷ [])
splice-three b at x y z h =
    let n : length (set (set b at x) (at + 1) y) ≡ length b = simp length-set refl in
    splice-one (set (set b at x) (at + 1) y) (at + 2) z (omega arith)
    ∙ rw (splice-two b at x y (omega arith)) (splice-splice b at (x ∷ y ∷ []) (z ∷ []) (omega arith))

-- four bytes are four stores
splice-four : (b : List ℕ) (at x y z u : ℕ) → at + 4 ≤ length b → set (set (set (set b at x) (at + 1) y) (at + 2) z) (at + 3) u ≡ splice b at (x ∷ y ∷ z ∷ u ∷ [])
splice-four b at x y z u h =
    let n : length (set (set (set b at x) (at + 1) y) (at + 2) z) ≡ length b = simp length-set refl in
    splice-one (set (set (set b at x) (at + 1) y) (at + 2) z) (at + 3) u (omega arith)
    ∙ rw (splice-three b at x y z (omega arith)) (splice-splice b at (x ∷ y ∷ z ∷ []) (u ∷ []) (omega arith))

-- a text of four bytes, stored one after another
pub few_four : (b : List ℕ) (at : ℕ) → (s : List ℕ) → length s ≡ 4 → at + length s ≤ length b → set (set (set (set b at (get_or s 0 0)) (at + 1) (get_or s 1 0)) (at + 2) (get_or s 2 0)) (at + 3) (get_or s 3 0) ≡ splice b at s
few_four b at [] e h = absurd (omega (arith, e))
few_four b at (x ∷ []) e h = absurd (omega (arith, e))
few_four b at (x ∷ y ∷ []) e h = absurd (omega (arith, e))
few_four b at (x ∷ y ∷ z ∷ []) e h = absurd (omega (arith, e))
few_four b at (x ∷ y ∷ z ∷ u ∷ []) e h = splice-four b at x y z u (omega arith)
few_four b at (x ∷ y ∷ z ∷ u ∷ v ∷ s) e h = absurd (omega (arith, e))
