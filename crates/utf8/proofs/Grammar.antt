-- The alternatives of UTF8-char in RFC 3629 section 4, told apart by the first octet.
use mathlib.Core.Bool.{Bool, true, false, cond, ◌&&◌}
use mathlib.Core.Logic.{◌≢◌}
use mathlib.Core.Option.{Option, none, some}
use mathlib.Core.List.{List, [], ◌∷◌}
use mathlib.Core.Path.{◌≡◌, refl}
use Prim.Native.Nat.{ℕ, ◌≤◌, ◌<◌}
use native.Mathlib.Omega.{arith}
use borrow.Author.Rules.{rules}
use borrow.Author.Tests.{leb-true, eqb-true}
use lib.Dec.{leb, eqb}
use Rattle.utf8.specs.Utf8.{Octets, within, tail, follow, continues}

-- a first octet a and the ranges of the octets that follow it; three has both lines of UTF8-3 that end in 2( UTF8-tail )
pub data First (a : ℕ) : List Octets → Type 0 where
  one : a ≤ 0x7F → First a []
  two : (0xC2 ≤ a) × (a ≤ 0xDF) → First a (tail ∷ [])
  three-E0 : a ≡ 0xE0 → First a (record { low = 0xA0; high = 0xBF } ∷ tail ∷ [])
  three-ED : a ≡ 0xED → First a (record { low = 0x80; high = 0x9F } ∷ tail ∷ [])
  three : (0xE1 ≤ a) × (a ≤ 0xEF) × (a ≢ 0xED) → First a (tail ∷ tail ∷ [])
  four-F0 : a ≡ 0xF0 → First a (record { low = 0x90; high = 0xBF } ∷ tail ∷ tail ∷ [])
  four-F4 : a ≡ 0xF4 → First a (record { low = 0x80; high = 0x8F } ∷ tail ∷ tail ∷ [])
  four : (0xF1 ≤ a) × (a ≤ 0xF3) → First a (tail ∷ tail ∷ tail ∷ [])

pub outside : (l h a : ℕ) → (l ≤ a → h < a) → (leb l a && leb a h) ≡ false
outside l h a k = search rules

-- follow has every alternative
pub follows : {a : ℕ} {rs : List Octets} → First a rs → follow a ≡ some rs
unfolding follow
follows f = search rules

-- no alternative begins with an octet from 80 to C1
pub none-low : (a : ℕ) → 0x80 ≤ a → a < 0xC2 → follow a ≡ none
unfolding follow
none-low a l h = search rules

-- no alternative begins with an octet above F4
pub none-high : (a : ℕ) → 0xF4 < a → follow a ≡ none
unfolding follow
none-high a h = search rules

-- what follow says of an octet: no alternative, or one
pub data Said (a : ℕ) : Option (List Octets) → Type 0 where
  nothing : Said a none
  first : {rs : List Octets} → First a rs → Said a (some rs)

pick : {a : ℕ} {x y : Option (List Octets)} (t : Bool) → (t ≡ true → Said a x) → Said a y → Said a (cond t x y)
pick true p q = p refl
pick false p q = q

pub inside : (l h a : ℕ) → (leb l a && leb a h) ≡ true → (l ≤ a) × (a ≤ h)
inside l h a e = search rules

-- follow has nothing else
pub said : (a : ℕ) → Said a (follow a)
unfolding follow
said a =
    pick (leb a 0x7F) (λ e. first (one (leb-true _ _ e)))
    (pick (within (record { low = 0xC2; high = 0xDF }) a) (λ e. first (two (inside 0xC2 0xDF a e)))
    (pick (eqb a 0xE0) (λ e. first (three-E0 (eqb-true _ _ e)))
    (pick (within (record { low = 0xE1; high = 0xEC }) a) (λ e. let i = inside 0xE1 0xEC a e in first (three (omega arith)))
    (pick (eqb a 0xED) (λ e. first (three-ED (eqb-true _ _ e)))
    (pick (within (record { low = 0xEE; high = 0xEF }) a) (λ e. let i = inside 0xEE 0xEF a e in first (three (omega arith)))
    (pick (eqb a 0xF0) (λ e. first (four-F0 (eqb-true _ _ e)))
    (pick (within (record { low = 0xF1; high = 0xF3 }) a) (λ e. first (four (inside 0xF1 0xF3 a e)))
    (pick (eqb a 0xF4) (λ e. first (four-F4 (eqb-true _ _ e)))
    nothing))))))))

-- no text follows where no alternative begins
pub broken : (s : List ℕ) → continues s none ≡ false
unfolding continues
broken [] = refl
broken (a ∷ s) = refl
