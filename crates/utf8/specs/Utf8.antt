-- UTF-8 as RFC 3629 has it: the octets of a character number (section 3), and well-formed text (section 4). Numbers in its comments are hexadecimal.
use Rattle.std.specs.Prelude.{Bool, true, false, cond, ◌&&◌, ◌||◌, ◌≡◌, ◌↔◌, List, [], ◌∷◌, ◌++◌, ℕ, ◌+◌, ◌/◌, ◌%◌, leb, ltb, eqb}
use Rattle.std.proofs.Math.Option.{Option, none, some}

-- RFC 3629 section 3: a character number is from 0 to 10FFFF and not from D800 to DFFF
abbrev pub is_scalar : ℕ → Bool
is_scalar c = ltb c 0xD800 || (leb 0xE000 c && leb c 0x10FFFF)

-- RFC 3629 section 3: the octets of a character number, by the table: a case for each row, and six bits of the number in each octet after the first
unfoldable pub octets : ℕ → List ℕ
octets c =
    cond (leb c 0x7F) (c ∷ [])
    (cond (leb c 0x7FF) ((0xC0 + c / 64) ∷ (0x80 + c % 64) ∷ [])
    (cond (leb c 0xFFFF) ((0xE0 + c / 4096) ∷ (0x80 + c / 64 % 64) ∷ (0x80 + c % 64) ∷ [])
    ((0xF0 + c / 262144) ∷ (0x80 + c / 4096 % 64) ∷ (0x80 + c / 64 % 64) ∷ (0x80 + c % 64) ∷ [])))

-- RFC 3629 section 3: the octets of several character numbers, in order
unfoldable pub encode : List ℕ → List ℕ
encode [] = []
encode (c ∷ cs) = octets c ++ encode cs

-- RFC 3629 section 3: whether all numbers of a list are character numbers
abbrev pub all_scalar : List ℕ → Bool
all_scalar [] = true
all_scalar (c ∷ cs) = is_scalar c && all_scalar cs

-- RFC 3629 section 4: a range of octets, such as %xC2-DF
pub record Octets : Type 0 where
  pub low : ℕ
  pub high : ℕ

-- RFC 3629 section 4: whether an octet is in a range
abbrev pub within : Octets → ℕ → Bool
within r a = leb r.low a && leb a r.high

-- RFC 3629 section 4: UTF8-tail = %x80-BF
abbrev pub tail : Octets
tail = record { low = 0x80; high = 0xBF }

-- RFC 3629 section 4: the ranges of the octets that follow the first octet of a UTF8-char, a line for each alternative of UTF8-1 to UTF8-4 in their order; none for an octet with which no alternative begins
unfoldable pub follow : ℕ → Option (List Octets)
follow a =
    cond (leb a 0x7F) (some [])
    (cond (within (record { low = 0xC2; high = 0xDF }) a) (some (tail ∷ []))
    (cond (eqb a 0xE0) (some (record { low = 0xA0; high = 0xBF } ∷ tail ∷ []))
    (cond (within (record { low = 0xE1; high = 0xEC }) a) (some (tail ∷ tail ∷ []))
    (cond (eqb a 0xED) (some (record { low = 0x80; high = 0x9F } ∷ tail ∷ []))
    (cond (within (record { low = 0xEE; high = 0xEF }) a) (some (tail ∷ tail ∷ []))
    (cond (eqb a 0xF0) (some (record { low = 0x90; high = 0xBF } ∷ tail ∷ tail ∷ []))
    (cond (within (record { low = 0xF1; high = 0xF3 }) a) (some (tail ∷ tail ∷ tail ∷ []))
    (cond (eqb a 0xF4) (some (record { low = 0x80; high = 0x8F } ∷ tail ∷ tail ∷ []))
    none))))))))

-- RFC 3629 section 4: whether a text is an octet of each of the ranges, in order, and then any number of UTF8-char; no text is, where the ranges are none
unfoldable pub continues : List ℕ → Option (List Octets) → Bool
continues [] none = false
continues [] (some []) = true
continues [] (some (r ∷ rs)) = false
continues (a ∷ s) none = false
continues (a ∷ s) (some []) = continues s (follow a)
continues (a ∷ s) (some (r ∷ rs)) = within r a && continues s (some rs)

-- RFC 3629 section 4: whether a text is UTF8-octets = *( UTF8-char )
abbrev pub well_formed : List ℕ → Bool
well_formed s = continues s (some [])

-- RFC 3629 sections 3 and 4 agree: well-formed text is exactly the octets of scalar values, one after another
abbrev pub SectionsAgree : Type 0
SectionsAgree = (s : List ℕ) → (well_formed s ≡ true) ↔ ((cs : List ℕ) × (all_scalar cs ≡ true) × (encode cs ≡ s))
