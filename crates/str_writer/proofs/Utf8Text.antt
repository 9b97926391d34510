-- Laws of well-formed text: ASCII text, text between marks, quoted text, and parts that begin and end at boundaries.
use mathlib.Core.Bool.{Bool, true, false, ◌&&◌, false≢true, and-eq-true_iff}
use mathlib.Core.Logic.{dite}
use mathlib.Core.List.{List, [], ◌∷◌, ◌++◌, append-nil}
use mathlib.Core.Option.{Option, none, some}
use mathlib.Core.Path.{◌≡◌, refl, sym, ap, ◌∙◌}
use Prim.Native.Nat.{ℕ, zero, suc, ◌≤◌, ◌<◌}
use native.Mathlib.Decide.{dec_lt}
use native.Mathlib.Omega.{arith}
use lib.Dec.{leb, leb-suc-suc, eqb-suc-suc}
use lib.ListN.{length, take, drop, take-append-drop}
use lib.Seq.{get_or-take, length-take-le}
use borrow.Author.Tests.{leb-true, lt-ltb, le-ltb, eq-eqb, ne_eqb}
use Rattle.formatting.specs.declared.escaping.Escape.TheVariants.{Bare}
use Rattle.formatting.specs.Escape.{escape_of, escaped, quoted}
use Rattle.utf8.specs.Utf8.{Octets, within, follow, continues, well_formed}
use Rattle.utf8.proofs.Grammar.{First, one, two, three, three-E0, three-ED, four, four-F0, four-F4, Said, nothing, first, said, follows, none-low, inside, broken}
use Rattle.utf8.proofs.Rfc3629.{append}
use Rattle.utils.specs.declared.Range.{Range}
use Rattle.utils.specs.Text.{saturated, part, is_boundary}
use Rattle.str_writer.proofs.AsciiText.{Low, nil, low, low_escape}

-- a text of an octet of each of the ranges, and then any number of characters, octet by octet
data Valid : List Octets → List ℕ → Type 0 where
  end : Valid [] []
  lead : {a : ℕ} {s : List ℕ} {rs : List Octets} → follow a ≡ some rs → Valid rs s → Valid [] (a ∷ s)
  inner : {a : ℕ} {s : List ℕ} {r : Octets} {rs : List Octets} → within r a ≡ true → (0x80 ≤ a) × (a ≤ 0xBF) → Valid rs s → Valid (r ∷ rs) (a ∷ s)

is_well_formed : {s : List ℕ} {rs : List Octets} → Valid rs s → continues s (some rs) ≡ true
unfolding continues
is_well_formed end = refl
is_well_formed (lead e v) = rw e (is_well_formed v)
is_well_formed (inner e h v) = rw e (is_well_formed v)

-- ranges inside 80-BF, as those that follow a first octet are
tails : List Octets → Bool
tails [] = true
tails (r ∷ rs) = leb 0x80 r.low && leb r.high 0xBF && tails rs

first-tails : {a : ℕ} {rs : List Octets} → First a rs → tails rs ≡ true
unfolding tails
first-tails (one h) = refl
first-tails (two h) = refl
first-tails (three-E0 h) = refl
first-tails (three-ED h) = refl
first-tails (three h) = refl
first-tails (four-F0 h) = refl
first-tails (four-F4 h) = refl
first-tails (four h) = refl

valid-from : (s : List ℕ) (rs : List Octets) → tails rs ≡ true → continues s (some rs) ≡ true → Valid rs s
unfolding continues tails
valid-from [] [] t e = end
valid-from [] (r ∷ rs) t e = absurd (false≢true e)
valid-from (a ∷ s) [] t e = begin (follow a) refl (said a) (valid-from s) e
  where
    begin : (o : Option (List Octets)) → follow a ≡ o → Said a o → ((rs : List Octets) → tails rs ≡ true → continues s (some rs) ≡ true → Valid rs s) → continues s o ≡ true → Valid [] (a ∷ s)
    begin none q nothing k e = absurd (false≢true (sym (broken s) ∙ e))
    begin (some rs) q (first f) k e = lead q (k rs (first-tails f) e)
valid-from (a ∷ s) (r ∷ rs) t e =
    let p = (and-eq-true_iff (within r a) _).0 e in
    let i = inside r.low r.high a p.0 in
    let q = (and-eq-true_iff (leb 0x80 r.low && leb r.high 0xBF) (tails rs)).0 t in
    let j = (and-eq-true_iff (leb 0x80 r.low) (leb r.high 0xBF)).0 q.0 in
    let b : (0x80 ≤ a) × (a ≤ 0xBF) = omega (arith, leb-true 0x80 r.low j.0, leb-true r.high 0xBF j.1) in
    inner p.0 b (valid-from s rs q.1 p.1)

valid : (s : List ℕ) → well_formed s ≡ true → Valid [] s
unfolding tails
valid s e = valid-from s [] refl e

-- ASCII text
follow-low : (a : ℕ) → a < 0x80 → follow a ≡ some []
follow-low a h = follows {a = a} (one (omega arith))

valid-low : {s t : List ℕ} → Low s → Valid [] t → Valid [] (s ++ t)
valid-low nil v = v
valid-low (low {a} h p) v = lead (follow-low a h) (valid-low p v)

pub ascii_well_formed : {s : List ℕ} → Low s → well_formed s ≡ true
ascii_well_formed {s} p = rw append-nil at (is_well_formed (valid-low p end))

-- text between two marks
pub marked_well_formed : (m : ℕ) → m < 128 → (s : List ℕ) → well_formed s ≡ true → well_formed (m ∷ s ++ (m ∷ [])) ≡ true
marked_well_formed m h s e =
    let l : well_formed (m ∷ []) ≡ true = ascii_well_formed (low h nil) in
    append (m ∷ []) (s ++ (m ∷ [])) l ∙ append s (m ∷ []) e ∙ l

-- bytes from 128 on have no escape
bare : (a : ℕ) → 0x80 ≤ a → escape_of a ≡ Bare
unfolding escape_of
bare a h =
    simp (ne_eqb a 9 (omega arith), ne_eqb a 10 (omega arith), ne_eqb a 13 (omega arith), ne_eqb a 92 (omega arith), ne_eqb a 39 (omega arith), ne_eqb a 34 (omega arith), le-ltb a 32 (omega arith))

valid-escaped : {s : List ℕ} {rs : List Octets} → Valid rs s → Valid rs (escaped s)
unfolding escaped
valid-escaped end = end
valid-escaped (lead {a} {rs} e v) =
    dite (dec_lt a 0x80)
    (λ h. let n : rs ≡ [] = cc (follow-low a h) in valid-low (low_escape a h) (rw n at (valid-escaped v)))
    (λ h. rw (bare a (omega arith)) (lead e (valid-escaped v)))
valid-escaped (inner {a} e h v) = rw (bare a h.0) (inner e h (valid-escaped v))

pub quoted_well_formed : (s : List ℕ) → well_formed s ≡ true → well_formed (quoted s) ≡ true
quoted_well_formed s e = marked_well_formed 34 (omega arith) (escaped s) (is_well_formed (valid-escaped (valid s e)))

-- a boundary of what follows a byte
boundary_suc : (a : ℕ) (s : List ℕ) (i : ℕ) → is_boundary (a ∷ s) (suc i) ≡ is_boundary s i
boundary_suc a s i = rw (leb-suc-suc (suc i) (length s), eqb-suc-suc i (length s))

-- no boundary stands before a byte from 80 to BF
no_boundary : (a : ℕ) (s : List ℕ) → (0x80 ≤ a) × (a ≤ 0xBF) → is_boundary (a ∷ s) 0 ≡ false
no_boundary a s h = rw (lt-ltb 0 (suc (length s)) (omega arith), le-ltb a 0x80 h.0, le-ltb 0xBF a h.1)

valid-take : {s : List ℕ} {rs : List Octets} → Valid rs s → (i : ℕ) → is_boundary s i ≡ true → Valid rs (take i s)
valid-take end zero e = end
valid-take end (suc i) e = end
valid-take (lead q v) zero e = end
valid-take (lead {a} {s} q v) (suc i) e = lead q (valid-take v i (sym (boundary_suc a s i) ∙ e))
valid-take (inner {a} {s} q h v) zero e = absurd (false≢true (sym (no_boundary a s h) ∙ e))
valid-take (inner {a} {s} q h v) (suc i) e = inner q h (valid-take v i (sym (boundary_suc a s i) ∙ e))

module _ (s : List ℕ) (i : ℕ) (e : well_formed s ≡ true) (k : is_boundary s i ≡ true) where
  -- what stands before a boundary
  pub take_well_formed : well_formed (take i s) ≡ true
  take_well_formed = is_well_formed (valid-take (valid s e) i k)

  -- what stands from a boundary on
  pub drop_well_formed : well_formed (drop i s) ≡ true
  drop_well_formed = sym (append (take i s) (drop i s) take_well_formed) ∙ ap well_formed (take-append-drop i s) ∙ e

-- a well-formed text begins at a boundary
begins_well_formed : (s : List ℕ) → well_formed s ≡ true → is_boundary s 0 ≡ true
unfolding continues
begins_well_formed [] e = refl
begins_well_formed (a ∷ s) e =
    rw (lt-ltb 0 (suc (length s)) (omega arith))
    (dite (dec_lt a 0x80)
    (λ h. rw (lt-ltb a 0x80 h))
    (λ h. dite (dec_lt 0xBF a)
    (λ k. rw (le-ltb a 0x80 (omega arith), lt-ltb 0xBF a k))
    (λ k. absurd (false≢true (sym (broken s) ∙ rw (none-low a (omega arith) (omega arith)) at e)))))

-- a boundary is the beginning of what stands from it on
boundary_drop : (s : List ℕ) (i : ℕ) → i ≤ length s → is_boundary s i ≡ is_boundary (drop i s) 0
boundary_drop s zero h = refl
boundary_drop [] (suc i) h = absurd (omega (arith, h))
boundary_drop (a ∷ s) (suc i) h = boundary_suc a s i ∙ boundary_drop s i (omega (arith, h))

-- a place of a well-formed text is a boundary exactly if what stands before it is well-formed
pub boundary_well_formed : (s : List ℕ) (i : ℕ) → i ≤ length s → well_formed s ≡ true → is_boundary s i ≡ well_formed (take i s)
boundary_well_formed s i h e = go (is_boundary s i) refl (well_formed (take i s)) refl
  where
    go : (x : Bool) → is_boundary s i ≡ x → (y : Bool) → well_formed (take i s) ≡ y → x ≡ y
    go true p y q = sym (take_well_formed s i e p) ∙ q
    go false p false q = refl
    go false p true q =
        sym p ∙ boundary_drop s i h
        ∙ begins_well_formed (drop i s) (sym (append (take i s) (drop i s) q) ∙ ap well_formed (take-append-drop i s) ∙ e)

-- where a text ends earlier, its end is a boundary, and places before it are what they were
module _ (s : List ℕ) (j : ℕ) (k : j ≤ length s) where
  pub boundary_end : is_boundary (take j s) j ≡ true
  boundary_end = rw (length-take-le j s k, le-ltb j j (omega arith), eq-eqb j j refl)

  pub boundary_inside : (i : ℕ) → i < j → is_boundary (take j s) i ≡ is_boundary s i
  boundary_inside i l = rw (length-take-le j s k, lt-ltb i j l, get_or-take j s i 0 l, lt-ltb i (length s) (omega arith))

  boundary_take : (i : ℕ) → i ≤ j → is_boundary s i ≡ true → is_boundary (take j s) i ≡ true
  boundary_take i h e = dite (dec_lt i j) (λ l. boundary_inside i l ∙ e) (λ l. let m : i ≡ j = omega arith in rw m boundary_end)

-- a part that begins and ends at boundaries
pub part_well_formed : (s : List ℕ) (r : Range) → well_formed s ≡ true → is_boundary s (saturated s r).start ≡ true → is_boundary s (saturated s r).end ≡ true → well_formed (part s r) ≡ true
part_well_formed s r e i j =
    drop_well_formed (take (saturated s r).end s) (saturated s r).start
    (take_well_formed s (saturated s r).end e j)
    (boundary_take s (saturated s r).end (omega arith) (saturated s r).start (omega arith) i)
