-- Laws of a character's texts: the octets by range, the lengths, and the texts in arrays.
use mathlib.Core.Bool.{Bool, true, false, cond}
use mathlib.Core.Path.{◌≡◌, refl, ◌∙◌}
use mathlib.Core.Logic.{◌⊎◌, inl, inr, ⊎_elim}
use mathlib.Core.List.{List, [], ◌∷◌, ◌++◌}
use Prim.Native.Nat.{ℕ, ◌+◌, ◌/◌, ◌%◌, ◌≤◌, ◌<◌}
use native.Mathlib.Omega.{arith}
use lib.Dec.{ltb}
use lib.ListN.{length, get_or, set, length-append}
use borrow.Author.Tests.{lt-ltb, le-ltb, le-leb, lt-leb, ltb-true, ltb-false}
use Rattle.std.specs.Prelude.{Ok, Err}
use Rattle.error.specs.declared.Error.TheVariants.{NotAChar}
use Rattle.formatting.specs.Escape.{escape_of, escape_text}
use Rattle.formatting.specs.declared.escaping.Escape.{Escape}
use Rattle.formatting.specs.declared.escaping.Escape.TheVariants.{Bare, Backslash, Hexadecimal}
use Rattle.utf8.specs.Utf8.{is_scalar, octets}
use Rattle.char_encoding.specs.Char.{unless_no_char, char_display, char_inner, char_debug, padded}

-- RFC 3629 section 3, a row of the table for each range
pub octets-1 : (c : ℕ) → c < 0x80 → octets c ≡ c ∷ []
unfolding octets
octets-1 c h = simp (le-leb c 0x7F (omega arith))

pub octets-2 : (c : ℕ) → 0x80 ≤ c → c < 0x800 → octets c ≡ (0xC0 + c / 64) ∷ (0x80 + c % 64) ∷ []
unfolding octets
octets-2 c h k = simp (lt-leb c 0x7F (omega arith), le-leb c 0x7FF (omega arith))

pub octets-3 : (c : ℕ) → 0x800 ≤ c → c < 0x10000 → octets c ≡ (0xE0 + c / 4096) ∷ (0x80 + c / 64 % 64) ∷ (0x80 + c % 64) ∷ []
unfolding octets
octets-3 c h k = simp (lt-leb c 0x7F (omega arith), lt-leb c 0x7FF (omega arith), le-leb c 0xFFFF (omega arith))

pub octets-4 : (c : ℕ) → 0x10000 ≤ c → octets c ≡ (0xF0 + c / 262144) ∷ (0x80 + c / 4096 % 64) ∷ (0x80 + c / 64 % 64) ∷ (0x80 + c % 64) ∷ []
unfolding octets
octets-4 c h = simp (lt-leb c 0x7F (omega arith), lt-leb c 0x7FF (omega arith), lt-leb c 0xFFFF (omega arith))

less : (a b : ℕ) → (a < b) ⊎ (b ≤ a)
less a b = go (ltb a b) refl
  where
    go : (t : Bool) → ltb a b ≡ t → (a < b) ⊎ (b ≤ a)
    go true e = inl (ltb-true a b e)
    go false e = inr (ltb-false a b e)

octets-short : (c : ℕ) → (1 ≤ length (octets c)) × (length (octets c) ≤ 4)
octets-short c = ⊎_elim
    (λ (h : c < 0x80). rw (octets-1 c h) (omega arith))
    (λ (h : 0x80 ≤ c). ⊎_elim
    (λ (k : c < 0x800). rw (octets-2 c h k) (omega arith))
    (λ (k : 0x800 ≤ c). ⊎_elim
    (λ (l : c < 0x10000). rw (octets-3 c k l) (omega arith))
    (λ (l : 0x10000 ≤ c). rw (octets-4 c l) (omega arith))
    (less c 0x10000))
    (less c 0x800))
    (less c 0x80)

pub short_scalar : (c : ℕ) → c < 0x800 → is_scalar c ≡ true
short_scalar c h = rw (lt-ltb c 0xD800 (omega arith))

pub display-char : (c : ℕ) → is_scalar c ≡ true → char_display c ≡ octets c
unfolding char_display
display-char c h = simp h

pub display-ascii : (c : ℕ) → c < 0x80 → char_display c ≡ c ∷ []
display-ascii c h = display-char c (short_scalar c (omega arith)) ∙ octets-1 c h

pub display-none : (c : ℕ) → is_scalar c ≡ false → char_display c ≡ []
unfolding char_display
display-none c h = simp h

pub display-short : (c : ℕ) → length (char_display c) ≤ 4
display-short c = go (is_scalar c) refl
  where
    go : (b : Bool) → is_scalar c ≡ b → length (char_display c) ≤ 4
    go true e = rw (display-char c e) (octets-short c).1
    go false e = rw (display-none c e) (omega arith)

-- a code below 128 is a character
pub low_scalar : (c : ℕ) → c < 128 → is_scalar c ≡ true
low_scalar c h = short_scalar c (omega arith)

-- an answer of a function of a character that is no error: c is a character, and the value is the one promised
pub told : {A : Type 0} (c : ℕ) (v a : A) → Ok v ≡ unless_no_char c a → (is_scalar c ≡ true) × (v ≡ a)
told {A} c v a h = go (is_scalar c) refl h
  where
    go : (b : Bool) → is_scalar c ≡ b → Ok v ≡ cond b (Ok a) (Err NotAChar) → (is_scalar c ≡ true) × (v ≡ a)
    go true e h = (e, cc h)
    go false e h = cc h

pub inner-low : (c : ℕ) → c < 128 → char_inner c ≡ escape_text (escape_of c) c
unfolding char_inner
inner-low c h = simp (lt-ltb c 128 h)

pub inner-high : (c : ℕ) → 128 ≤ c → char_inner c ≡ char_display c
unfolding char_inner
inner-high c h = simp (le-ltb c 128 h)

escape_short : (e : Escape) (b : ℕ) → (1 ≤ length (escape_text e b)) × (length (escape_text e b) ≤ 4)
escape_short Bare b = omega arith
escape_short (Backslash l) b = omega arith
escape_short Hexadecimal b = omega arith

pub inner-short : (c : ℕ) → length (char_inner c) ≤ 4
inner-short c = ⊎_elim
    (λ (h : c < 128). rw (inner-low c h) (escape_short (escape_of c) c).1)
    (λ (h : 128 ≤ c). rw (inner-high c h) (display-short c))
    (less c 128)

pub debug-some : (c : ℕ) → is_scalar c ≡ true → char_debug c ≡ 39 ∷ char_inner c ++ (39 ∷ [])
unfolding char_debug
debug-some c h = simp h

-- a text of at most four bytes, copied from an array of four into one of six
pub widened : (t : List ℕ) → length t ≤ 4
    → get_or (padded 4 t) 0 0 ∷ get_or (padded 4 t) 1 0 ∷ get_or (padded 4 t) 2 0 ∷ get_or (padded 4 t) 3 0 ∷ 0 ∷ 0 ∷ [] ≡ padded 6 t
widened [] h = refl
widened (x ∷ []) h = refl
widened (x ∷ y ∷ []) h = refl
widened (x ∷ y ∷ z ∷ []) h = refl
widened (x ∷ y ∷ z ∷ w ∷ []) h = refl
widened (x ∷ y ∷ z ∷ w ∷ v ∷ t) h = absurd (omega arith)

-- the same between two marks
pub marked : (m : ℕ) (t : List ℕ) → length t ≤ 4
    → set (m ∷ get_or (padded 4 t) 0 0 ∷ get_or (padded 4 t) 1 0 ∷ get_or (padded 4 t) 2 0 ∷ get_or (padded 4 t) 3 0 ∷ 0 ∷ []) (length t + 1) m ≡ padded 6 (m ∷ t ++ (m ∷ []))
marked m [] h = refl
marked m (x ∷ []) h = refl
marked m (x ∷ y ∷ []) h = refl
marked m (x ∷ y ∷ z ∷ []) h = refl
marked m (x ∷ y ∷ z ∷ w ∷ []) h = refl
marked m (x ∷ y ∷ z ∷ w ∷ v ∷ t) h = absurd (omega arith)

pub marked-length : (m : ℕ) (t : List ℕ) → length t + 2 ≡ length (m ∷ t ++ (m ∷ []))
marked-length m t = omega (arith, length-append t (m ∷ []))
