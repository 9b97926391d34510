-- Sections 3 and 4 of RFC 3629 agree: a text is well formed if and only if it is the octets of character numbers.
use mathlib.Core.Bool.{true, false≢true, and-eq-true_iff}
use mathlib.Core.Logic.{dite}
use mathlib.Core.Option.{Option, none, some}
use mathlib.Core.List.{List, [], ◌∷◌, ◌++◌}
use mathlib.Core.Path.{◌≡◌, refl, sym, ap, subst, ◌∙◌}
use Prim.Native.Nat.{ℕ, ◌≤◌, ◌<◌, ◌+◌, ◌-◌, ◌*◌, ◌/◌, ◌%◌}
use native.Mathlib.Decide.{dec_lt, ℕ_discrete}
use native.Mathlib.Omega.{arith}
use borrow.Author.Rules.{rules}
use borrow.Author.Tests.{le-leb, lt-leb}
use Rattle.utf8.specs.Utf8.{SectionsAgree, is_scalar, octets, encode, all_scalar, Octets, within, follow, continues, well_formed}
use Rattle.utf8.proofs.Grammar.{First, one, two, three, three-E0, three-ED, four, four-F0, four-F4, Said, nothing, first, said, follows, inside, broken}

-- well-formed text in front changes nothing, also where it begins inside a character
append-from : (s t : List ℕ) (o : Option (List Octets)) → continues s o ≡ true → continues (s ++ t) o ≡ well_formed t
unfolding continues
append-from [] t none e = absurd (false≢true e)
append-from [] t (some []) e = refl
append-from [] t (some (r ∷ rs)) e = absurd (false≢true e)
append-from (a ∷ s) t none e = absurd (false≢true e)
append-from (a ∷ s) t (some []) e = append-from s t (follow a) e
append-from (a ∷ s) t (some (r ∷ rs)) e =
    let p = (and-eq-true_iff (within r a) _).0 e in rw p.0 (append-from s t (some rs) p.1)

pub append : (s t : List ℕ) → well_formed s ≡ true → well_formed (s ++ t) ≡ well_formed t
append s t e = append-from s t (some []) e

-- the character numbers are a range with a gap
pub scalar_range : (c : ℕ) → is_scalar c ≡ true → (c ≤ 0x10FFFF) × (c < 0xE000 → c < 0xD800)
scalar_range c e = search rules

-- octets, each in its range
pub data Each : List Octets → List ℕ → Type 0 where
  end : Each [] []
  next : {r : Octets} {rs : List Octets} {b : ℕ} {bs : List ℕ} → (r.low ≤ b) × (b ≤ r.high) → Each rs bs → Each (r ∷ rs) (b ∷ bs)

-- a character number with these octets
abbrev pub Number : List ℕ → Type 0
Number s = (c : ℕ) × (is_scalar c ≡ true) × (octets c ≡ s)

-- %x80-BF
abbrev IsTail : ℕ → Type 0
IsTail b = (0x80 ≤ b) × (b ≤ 0xBF)

number-1 : (a : ℕ) → a ≤ 0x7F → Number (a ∷ [])
unfolding octets
number-1 a h = (a, search rules, search rules)

number-2 : (a b : ℕ) → (0xC2 ≤ a) × (a ≤ 0xDF) × IsTail b → Number (a ∷ b ∷ [])
unfolding octets
number-2 a b h =
    ((a - 0xC0) * 64 + (b - 0x80), search rules, search rules)

module _ (a b d : ℕ) where
  abbrev three-octets : ℕ
  three-octets = (a - 0xE0) * 4096 + (b - 0x80) * 64 + (d - 0x80)

  number-3 : (0xE0 ≤ a) × (a ≤ 0xEF) × IsTail b × IsTail d × (0x800 ≤ three-octets) × (three-octets < 0xE000 → three-octets < 0xD800) → Number (a ∷ b ∷ d ∷ [])
  unfolding octets
  number-3 h =
      (three-octets, search rules, search rules)

module _ (a b d f : ℕ) where
  abbrev four-octets : ℕ
  four-octets = (a - 0xF0) * 262144 + (b - 0x80) * 4096 + (d - 0x80) * 64 + (f - 0x80)

  number-4 : (0xF0 ≤ a) × IsTail b × IsTail d × IsTail f × (0x10000 ≤ four-octets) × (four-octets ≤ 0x10FFFF) → Number (a ∷ b ∷ d ∷ f ∷ [])
  unfolding octets
  number-4 h =
      (four-octets, search rules, search rules)

-- a character of section 4 is the octets of a character number
pub decode : {a : ℕ} {rs : List Octets} {bs : List ℕ} → First a rs → Each rs bs → Number (a ∷ bs)
decode (one h) end = number-1 _ h
decode {a} (two h) (next {b} p end) = number-2 a b (omega arith)
decode {a} (three h) (next {b} p (next {b = d} q end)) = number-3 a b d (omega arith)
decode {a} (three-E0 h) (next {b} p (next {b = d} q end)) = number-3 a b d (omega arith)
decode {a} (three-ED h) (next {b} p (next {b = d} q end)) = number-3 a b d (omega arith)
decode {a} (four h) (next {b} p (next {b = d} q (next {b = f} r end))) = number-4 a b d f (omega arith)
decode {a} (four-F0 h) (next {b} p (next {b = d} q (next {b = f} r end))) = number-4 a b d f (omega arith)
decode {a} (four-F4 h) (next {b} p (next {b = d} q (next {b = f} r end))) = number-4 a b d f (omega arith)

-- a character of section 4 is well-formed text
each : {rs : List Octets} {bs : List ℕ} → Each rs bs → continues bs (some rs) ≡ true
unfolding continues
each end = refl
each (next {r} {b} p t) = rw (le-leb r.low b p.0, le-leb b r.high p.1) (each t)

character : {a : ℕ} {rs : List Octets} {bs : List ℕ} → First a rs → Each rs bs → well_formed (a ∷ bs) ≡ true
unfolding continues
character f e = rw (follows f) (each e)

-- the octets of a character number are a character of section 4: three octets, four, any number of them
well_formed-3 : (c : ℕ) → (0x800 ≤ c) × (c ≤ 0xFFFF) → (c < 0xE000 → c < 0xD800) → well_formed ((0xE0 + c / 4096) ∷ (0x80 + c / 64 % 64) ∷ (0x80 + c % 64) ∷ []) ≡ true
well_formed-3 c h k =
    dite (dec_lt c 0x1000) (λ l. character (three-E0 (omega arith)) (next (omega arith) (next (omega arith) end)))
    (λ l. dite (ℕ_discrete (c / 4096) 0xD) (λ e. let m = k (omega arith) in character (three-ED (omega arith)) (next (omega arith) (next (omega arith) end)))
    (λ e. character (three (omega arith)) (next (omega arith) (next (omega arith) end))))

well_formed-4 : (c : ℕ) → (0x10000 ≤ c) × (c ≤ 0x10FFFF) → well_formed ((0xF0 + c / 262144) ∷ (0x80 + c / 4096 % 64) ∷ (0x80 + c / 64 % 64) ∷ (0x80 + c % 64) ∷ []) ≡ true
well_formed-4 c h =
    dite (dec_lt c 0x40000) (λ l. character (four-F0 (omega arith)) (next (omega arith) (next (omega arith) (next (omega arith) end))))
    (λ l. dite (dec_lt c 0x100000) (λ m. character (four (omega arith)) (next (omega arith) (next (omega arith) (next (omega arith) end))))
    (λ m. character (four-F4 (omega arith)) (next (omega arith) (next (omega arith) (next (omega arith) end)))))

pub octets_well_formed : (c : ℕ) → is_scalar c ≡ true → well_formed (octets c) ≡ true
unfolding octets
octets_well_formed c e =
    let s = scalar_range c e in
    dite (dec_lt c 0x80) (λ h. rw (le-leb c 0x7F (omega arith)) (character (one (omega arith)) end))
    (λ h. dite (dec_lt c 0x800) (λ k. simp (lt-leb c 0x7F (omega arith), le-leb c 0x7FF (omega arith)) (character (two (omega arith)) (next (omega arith) end)))
    (λ k. dite (dec_lt c 0x10000) (λ l. simp (lt-leb c 0x7F (omega arith), lt-leb c 0x7FF (omega arith), le-leb c 0xFFFF (omega arith)) (well_formed-3 c (omega arith) s.1))
    (λ l. simp (lt-leb c 0x7F (omega arith), lt-leb c 0x7FF (omega arith), lt-leb c 0xFFFF (omega arith)) (well_formed-4 c (omega arith)))))

pub octets_continue : (c : ℕ) (s : List ℕ) → is_scalar c ≡ true → well_formed (octets c ++ s) ≡ well_formed s
octets_continue c s e = append (octets c) s (octets_well_formed c e)

encoded : (cs : List ℕ) → all_scalar cs ≡ true → well_formed (encode cs) ≡ true
unfolding encode continues
encoded [] e = refl
encoded (c ∷ cs) e = let p = (and-eq-true_iff (is_scalar c) (all_scalar cs)).0 e in octets_continue c (encode cs) p.0 ∙ encoded cs p.1

-- a text that begins inside a character: the octets that go on it, and then those of character numbers
abbrev Decoded : List ℕ → List Octets → Type 0
Decoded s rs = (bs : List ℕ) × (cs : List ℕ) × Each rs bs × (all_scalar cs ≡ true) × (bs ++ encode cs ≡ s)

decoded : (s : List ℕ) (rs : List Octets) → continues s (some rs) ≡ true → Decoded s rs
unfolding continues encode
decoded [] [] e = ([], [], end, refl, refl)
decoded [] (r ∷ rs) e = absurd (false≢true e)
decoded (a ∷ s) [] e = begin (follow a) (said a) (decoded s) e
  where
    begin : (o : Option (List Octets)) → Said a o → ((rs : List Octets) → continues s (some rs) ≡ true → Decoded s rs) → continues s o ≡ true → Decoded (a ∷ s) []
    begin none nothing f e = absurd (false≢true (sym (broken s) ∙ e))
    begin (some rs) (first h) f e =
        let d = f rs e in
        let n = decode h d.2 in
        ([], n.0 ∷ d.1, end, (and-eq-true_iff (is_scalar n.0) _).1 (n.1, d.3), rw n.2 (ap (◌∷◌ a) d.4))
decoded (a ∷ s) (r ∷ rs) e =
    let p = (and-eq-true_iff (within r a) _).0 e in
    let d = decoded s rs p.1 in
    (a ∷ d.0, d.1, next (inside r.low r.high a p.0) d.2, d.3, ap (◌∷◌ a) d.4)

each_nil : {bs : List ℕ} → Each [] bs → bs ≡ []
each_nil end = refl

-- sections 3 and 4 agree
pub is_well_formed : SectionsAgree
is_well_formed s = (
  λ e. let d = decoded s [] e in (d.1, d.3, rw (each_nil d.2) at d.4),
  λ t. subst (λ (u : List ℕ). well_formed u ≡ true) t.2 (encoded t.0 t.1),
)
